use Prim.Native.Nat.{◌*◌, ◌≤◌, ◌-◌}
use mathlib.Core.Path.{◌≡◌}
use lib.ListN.{length}
use Rattle.closure.specs.Rows.{leads}
use Rattle.closure.specs.Closing.{gained, in_first, across}
use Rattle.closure.proofs.spread_block.Given as goal

abbrev pub invariant-loop-v : goal.invariant-loop-v
invariant-loop-v l = (l.v ≤ l.block.n) × (length l.rows ≡ length l.initial.rows) × (l.rows ≡ gained l.initial.rows (in_first l.v (across (leads l.initial.rows) (64 * l.block.number) l.block.end)))

abbrev pub decreases-loop-v : goal.decreases-loop-v
decreases-loop-v l = l.block.n - l.v
