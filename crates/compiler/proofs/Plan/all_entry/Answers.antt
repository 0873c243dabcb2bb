use Prim.Native.Nat.{ℕ}
use mathlib.Core.Path.{ap, ap₂, ◌∙◌}
use Rattle.tables.specs.Layout.{no_number}
use Rattle.plan.specs.Steps.{Step, numbers_of}
use Rattle.compiler.specs.Stores.{keep_of, break_of}
use Rattle.compiler.proofs.Laws.{two_as}
use Rattle.compiler.proofs.Plan.all_entry.Goals as goal

pub returns-clause-added : goal.returns-clause-added
unfolding numbers_of
returns-clause-added c =
    let ps = c.args.pairs.now in
    two_as
    (c.step.ensures ∙ ap₂ (λ (x y : ℕ). numbers_of (Step.every x y)) c.form_first-p.ensures (c.pair_of-a.ensures.0 ∙ ap (keep_of ps) c.form_second.ensures))
    (c.counting.ensures ∙ ap₂ (λ (x y : ℕ). numbers_of (Step.count x y 1 no_number)) c.form_first-p.ensures (c.pair_of-a.ensures.1 ∙ ap (break_of ps) c.form_second.ensures))
    c.two.ensures.added
