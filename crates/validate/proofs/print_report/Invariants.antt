use Prim.Native.Nat.{◌-◌, ◌≤◌}
use mathlib.Core.Path.{◌≡◌}
use lib.ListN.{length}
use Rattle.validate.proofs.print_report.Given as goal

abbrev pub invariant-loop-k : goal.invariant-loop-k
invariant-loop-k g l = (l.k ≤ l.parts) × (length l.page ≡ length l.initial.page)

abbrev pub decreases-loop-k : goal.decreases-loop-k
decreases-loop-k g l = l.parts - l.k
