use Prim.Native.Nat.{◌≤◌, ◌-◌}
use mathlib.Core.Path.{◌≡◌}
use lib.ListN.{length}
use Rattle.closure.specs.Rows.{leads, rows_of}
use Rattle.closure.proofs.Rows.{itself_to}
use Rattle.closure.proofs.reflect.Given as goal

abbrev pub invariant-loop-v : goal.invariant-loop-v
invariant-loop-v l = (l.v ≤ l.n) × (length l.rows ≡ length l.initial.rows) × (l.rows ≡ rows_of l.n (itself_to (leads l.initial.rows) l.v) (length l.initial.rows))

abbrev pub decreases-loop-v : goal.decreases-loop-v
decreases-loop-v l = l.n - l.v
