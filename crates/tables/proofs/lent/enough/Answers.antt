use mathlib.Core.Path.{refl}
use Rattle.tables.specs.Sizes.{long_enough}
use Rattle.tables.proofs.lent.enough.Goals as goal

pub returns : goal.returns
unfolding long_enough
returns c = refl
