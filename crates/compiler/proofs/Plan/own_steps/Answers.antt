use Rattle.compiler.proofs.Laws.{two_as}
use Rattle.compiler.proofs.Plan.own_steps.Goals as goal

pub returns-clause-added : goal.returns-clause-added
returns-clause-added c = two_as c.step.ensures c.step-2.ensures c.two.ensures.added
