use lib.Seq.{slice}
use Rattle.text.proofs.Hashes.{Walk}
use Rattle.text.proofs.find_chained.Given as goal

abbrev pub invariant-loop-e : goal.invariant-loop-e
invariant-loop-e l = Walk l.names l.base l.count l.slots (slice l.at l.end l.book) l.e l.found

abbrev pub decreases-loop-e : goal.decreases-loop-e
decreases-loop-e l = l.e
