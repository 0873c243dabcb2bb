use Prim.Native.Nat.{◌-◌}
use lib.ListN.{take, drop}
use Rattle.text.proofs.Hashes.{Passed}
use Rattle.text.proofs.hash.Given as goal

abbrev pub invariant-loop-b : goal.invariant-loop-b
invariant-loop-b l = Passed (take (l.end - l.at) (drop l.at l.book)) l.b-iterator.iter.rest.now l.h
