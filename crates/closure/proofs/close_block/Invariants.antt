use Prim.Native.Nat.{◌*◌, ◌≤◌, ◌-◌}
use Rattle.closure.specs.Rows.{leads}
use Rattle.closure.specs.Closing.{Closing, Inner}
use Rattle.closure.proofs.close_block.Given as goal

abbrev pub invariant-loop-k : goal.invariant-loop-k
invariant-loop-k l = (64 * l.block.number ≤ l.k) × (l.k ≤ l.block.end) × Closing l.block.n (64 * l.block.number) l.initial.rows l.rows × Inner l.block.n (64 * l.block.number) l.block.end l.k (leads l.rows)

abbrev pub decreases-loop-k : goal.decreases-loop-k
decreases-loop-k l = l.block.end - l.k
