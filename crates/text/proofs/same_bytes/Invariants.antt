use Prim.Native.Nat.{◌≤◌, ◌-◌}
use mathlib.Core.Path.{◌≡◌}
use Rattle.base.specs.Bounded.{every}
use Rattle.text.specs.Pool.{same_at}
use Rattle.text.proofs.same_bytes.Given as goal

abbrev pub invariant-loop-j : goal.invariant-loop-j
invariant-loop-j l = (l.j ≤ l.len) × (l.same ≡ every (same_at l.names l.place l.book l.at) l.j)

abbrev pub decreases-loop-j : goal.decreases-loop-j
decreases-loop-j l = l.len - l.j
