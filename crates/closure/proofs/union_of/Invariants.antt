use Prim.Native.Nat.{ℕ}
use mathlib.Core.Bool.{true}
use mathlib.Core.Path.{◌≡◌}
use Rattle.base.specs.Bounded.{size}
use Rattle.nodeset.specs.Words.{bit, words_of}
use Rattle.closure.proofs.Gains.{joined}
use Rattle.closure.proofs.union_of.Given as goal

abbrev pub invariant-loop-left : goal.invariant-loop-left
invariant-loop-left l = ((d : ℕ) → bit l.left d ≡ true → bit l.x d ≡ true) × (l.words ≡ words_of (joined l.from l.j l.x l.left) 16)

abbrev pub decreases-loop-left : goal.decreases-loop-left
decreases-loop-left l = size (bit l.left) 64
