use Prim.Native.Nat.{◌≤◌, ◌-◌}
use mathlib.Core.Path.{◌≡◌}
use lib.ListN.{length}
use Rattle.closure.specs.Rows.{leads}
use Rattle.closure.specs.Closing.{gained, by_node}
use Rattle.closure.proofs.take_node.Given as goal

abbrev pub invariant-loop-v : goal.invariant-loop-v
invariant-loop-v l = (l.initial.v ≤ l.v) × (l.v ≤ l.v-end) × (length l.rows ≡ length l.initial.rows) × (l.rows ≡ gained l.initial.rows (by_node (leads l.initial.rows) l.k l.initial.v l.v))

abbrev pub decreases-loop-v : goal.decreases-loop-v
decreases-loop-v l = l.v-end - l.v
