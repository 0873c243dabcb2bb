-- `first_part` meets its contract, which has the same tests.
use Rattle.tables.specs.Layout.{root_at, form_first_at}
use mathlib.Core.Path.{ap, ◌∙◌}
use mathlib.Core.Bool.{cond}
use lib.Dec.{eqb}
use Rattle.tables.specs.Layout.{root_at}
use Rattle.verdict.specs.Parts.{first_by, first_part}
use Rattle.verdict.proofs.first_part.Goals as goal

pub returns : goal.returns
unfolding first_part
returns c =
    let cs = c.args.cells.now in
    let a = c.wide-a.ensures ∙ c.form_first.ensures in
    let b = c.wide-b.ensures ∙ c.form_second.ensures in
    c.pick-2.ensures ∙ (λ i. cond (eqb c.form_code-code.result 2) ((c.root.ensures ∙ ap (root_at cs) a) i) (c.pick.ensures i)) ∙ (λ i. first_by (c.form_code-code.ensures i) (root_at cs (form_first_at cs c.args.e)) (a i) (b i))
