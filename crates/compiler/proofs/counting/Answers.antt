use mathlib.Core.Path.{refl}
use Rattle.plan.specs.Steps.{numbers_of}
use Rattle.compiler.proofs.counting.Goals as goal

pub returns : goal.returns
unfolding numbers_of
returns c = refl
