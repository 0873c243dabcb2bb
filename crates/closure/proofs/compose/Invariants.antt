use Prim.Native.Nat.{◌*◌, ◌≤◌, ◌-◌}
use mathlib.Core.Path.{◌≡◌}
use lib.ListN.{length}
use Rattle.closure.specs.Closing.{gained, in_first}
use Rattle.closure.proofs.Gains.{through_to}
use Rattle.closure.proofs.compose.Given as goal

abbrev pub invariant-loop-j : goal.invariant-loop-j
invariant-loop-j l = (l.j ≤ l.blocks) × (length l.into ≡ length l.initial.into) × (l.into ≡ gained l.initial.into (in_first l.n (through_to l.initial.into l.rows l.from l.n (64 * l.j))))

abbrev pub decreases-loop-j : goal.decreases-loop-j
decreases-loop-j l = l.blocks - l.j
