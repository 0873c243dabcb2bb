use mathlib.Core.Path.{ap₂}
use lib.Dec.{ltb}
use Rattle.plancheck.proofs.rule_step_ok.Goals as goal

pub returns : goal.returns
returns c = ap₂ ltb c.rule_step.ensures c.step_count.ensures
