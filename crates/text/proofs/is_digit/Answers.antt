use mathlib.Core.Path.{refl}
use Rattle.text.specs.Decimals.{digit}
use Rattle.text.proofs.is_digit.Goals as goal

pub returns : goal.returns
unfolding digit
returns c = refl
