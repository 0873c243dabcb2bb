use Prim.Native.Nat.{◌*◌, ◌≤◌, ◌-◌}
use Rattle.closure.specs.Closing.{Closing}
use Rattle.closure.proofs.close.Given as goal

abbrev pub invariant-loop-j : goal.invariant-loop-j
invariant-loop-j l = (l.j ≤ l.blocks) × Closing l.n (64 * l.j) l.initial.rows l.rows

abbrev pub decreases-loop-j : goal.decreases-loop-j
decreases-loop-j l = l.blocks - l.j
