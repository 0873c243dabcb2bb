use Prim.Native.Nat.{ℕ}
use mathlib.Core.Path.{ap, ◌∙◌}
use Rattle.plan.specs.Steps.{Step, numbers_of}
use Rattle.compiler.proofs.Laws.{two_as}
use Rattle.compiler.proofs.Plan.is_steps.Goals as goal

pub returns-clause-added : goal.returns-clause-added
unfolding numbers_of
returns-clause-added c =
    two_as
    (c.step.ensures ∙ ap (λ (x : ℕ). numbers_of (Step.is x)) c.form_node-c.ensures)
    (c.step-2.ensures ∙ ap (λ (x : ℕ). numbers_of (Step.isnot x)) c.form_node-c.ensures)
    c.two.ensures.added
