use mathlib.Core.Path.{refl}
use Rattle.text.specs.Items.{edge}
use Rattle.text.proofs.is_edge.Goals as goal

pub returns : goal.returns
unfolding edge
returns c = refl
