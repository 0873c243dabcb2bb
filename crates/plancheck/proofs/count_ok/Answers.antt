use Rattle.tables.specs.WellFormed.{upper_ok}
use Rattle.plan.specs.WellFormed.{step_ok}
use Rattle.plancheck.proofs.count_ok.Goals as goal

pub returns : goal.returns
unfolding step_ok upper_ok
returns c = cc
