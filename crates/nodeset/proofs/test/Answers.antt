-- `test` meets its contract: the code is the digit that `has` asks for, of the word that `word` gives.
use Prim.Native.Nat.{ℕ, ◌%◌}
use mathlib.Core.Path.{ap}
use Rattle.nodeset.specs.Words.{bit, has}
use Rattle.nodeset.proofs.test.Goals as goal

pub returns : goal.returns
unfolding bit has
returns c = ap (λ (x : ℕ). bit x (c.args.n % 64)) c.cell.ensures
