use mathlib.Core.Path.{refl}
use Rattle.text.specs.Items.{name_byte}
use Rattle.text.proofs.is_name_byte.Goals as goal

pub returns : goal.returns
unfolding name_byte
returns c = refl
