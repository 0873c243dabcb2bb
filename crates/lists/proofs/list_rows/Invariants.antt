use Prim.Native.Nat.{◌≤◌}
use lib.ListN.{length}
use Rattle.model.specs.Limits.{max_rules}
use Rattle.lists.specs.Rows.{list_in, list_count, length_count}
use Rattle.lists.proofs.Rows.{Listed}
use Rattle.lists.proofs.list_rows.Given as goal

abbrev pub invariant-loop-r : goal.invariant-loop-r
invariant-loop-r l =
    (l.r-end ≤ max_rules) × (list_count ≤ length l.lists) × (length_count ≤ length l.lengths) × Listed (list_in l.cells l.plan l.work) l.initial.lists l.initial.lengths l.r l.lists l.lengths
