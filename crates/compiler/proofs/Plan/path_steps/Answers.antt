use Prim.Native.Nat.{ℕ}
use mathlib.Core.Path.{ap, ◌∙◌}
use Rattle.plan.specs.Steps.{Step, numbers_of}
use Rattle.compiler.proofs.Laws.{two_as}
use Rattle.compiler.proofs.Plan.path_steps.Goals as goal

pub returns-clause-added : goal.returns-clause-added
unfolding numbers_of
returns-clause-added c =
    two_as
    (c.step.ensures ∙ ap (λ (x : ℕ). numbers_of (Step.onelang x)) c.form_first-p.ensures)
    (c.step-2.ensures ∙ ap (λ (x : ℕ). numbers_of (Step.manylang x)) c.form_first-p.ensures)
    c.two.ensures.added
