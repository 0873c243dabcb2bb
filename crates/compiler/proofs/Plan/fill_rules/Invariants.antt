use Prim.Native.Nat.{◌-◌, ◌≤◌}
use mathlib.Core.List.{List, []}
use Prim.Native.Nat.{ℕ}
use mathlib.Core.Path.{◌≡◌}
use lib.ListN.{length}
use Rattle.base.specs.Lists.{values}
use Rattle.tables.specs.Layout.{rule_count}
use Rattle.plan.specs.Layout.{laid}
use Rattle.translation.specs.Compile.{steps_to, rule_step}
use Rattle.compiler.proofs.Plan.fill_rules.Given as goal

abbrev pub invariant-loop-r : goal.invariant-loop-r
invariant-loop-r l =
    (l.self.cells.ghost_name ≡ l.fn.self.cells.ghost_name)
    × (l.r ≤ l.rules)
    × (l.rules ≡ rule_count l.cells)
    × (l.self.next ≡ length (steps_to l.cells l.r))
    × ((t : List ℕ) → l.fn.self.cells.now ≡ laid t [] [] (steps_to l.cells 0) → l.self.cells.now ≡ laid t [] (values (rule_step l.cells) l.r) (steps_to l.cells l.r))

abbrev pub decreases-loop-r : goal.decreases-loop-r
decreases-loop-r l = l.rules - l.r
