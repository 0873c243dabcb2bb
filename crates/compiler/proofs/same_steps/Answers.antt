use mathlib.Core.Path.{◌≡◌, ap, ◌∙◌}
use Rattle.tables.specs.Layout.{form_first_at, root_at}
use Rattle.compiler.specs.Stores.{keep_of, break_of}
use Rattle.compiler.proofs.same_steps.Goals as goal

pub returns : goal.returns
returns c =
    let cs = c.args.cells.now in
    let ps = c.args.pairs.now in
    let e : c.root.result ≡ root_at cs (form_first_at cs c.args.e) = c.root.ensures ∙ ap (root_at cs) (c.wide.ensures ∙ c.form_first.ensures) in
    (c.of.ensures.0 ∙ ap (keep_of ps) e, c.of.ensures.1 ∙ ap (break_of ps) e)
