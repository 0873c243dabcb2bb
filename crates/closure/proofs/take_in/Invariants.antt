use Prim.Native.Nat.{◌≤◌, ◌-◌}
use mathlib.Core.Path.{◌≡◌}
use lib.ListN.{length}
use Rattle.nodeset.specs.Words.{words_of}
use Rattle.closure.proofs.Gains.{taken_to}
use Rattle.closure.proofs.take_in.Given as goal

abbrev pub invariant-loop-i : goal.invariant-loop-i
invariant-loop-i l = (l.i ≤ 16) × (length l.rows ≡ length l.initial.rows) × (l.rows ≡ words_of (taken_to l.initial.rows l.v l.from l.i) (length l.initial.rows))

abbrev pub decreases-loop-i : goal.decreases-loop-i
decreases-loop-i l = 16 - l.i
