use Prim.Native.Nat.{◌≤◌, ◌-◌}
use Rattle.closure.specs.Closing.{Busy}
use Rattle.closure.proofs.busy_bits.Given as goal

abbrev pub invariant-loop-v : goal.invariant-loop-v
invariant-loop-v l = (l.initial.v ≤ l.v) × (l.v ≤ l.v-end) × Busy l.initial.v l.v l.x l.rows

abbrev pub decreases-loop-v : goal.decreases-loop-v
decreases-loop-v l = l.v-end - l.v
