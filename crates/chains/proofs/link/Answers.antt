-- `link` meets its contract.
use mathlib.Core.Path.{refl}
use Rattle.chains.proofs.link.Goals as goal

pub returns : goal.returns
returns c = refl
