use Prim.Native.Nat.{◌-◌, ◌≤◌}
use mathlib.Core.Path.{◌≡◌}
use lib.Seq.{slice}
use Rattle.base.specs.Bytes.{eql}
use Rattle.text.specs.Pool.{padded, first_from, place, find}
use Rattle.text.proofs.find_name.Given as goal

abbrev pub invariant-loop-k : goal.invariant-loop-k
invariant-loop-k l = (l.k ≤ l.count) × (find l.names l.base l.count (slice l.at l.end l.book) ≡ first_from (λ i. eql (padded (slice l.at l.end l.book)) (place l.names l.base i)) (l.count - l.k) l.k)

abbrev pub decreases-loop-k : goal.decreases-loop-k
decreases-loop-k l = l.count - l.k
