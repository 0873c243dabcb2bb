use Prim.Native.Nat.{◌-◌, ◌≤◌}
use mathlib.Core.Path.{◌≡◌}
use Rattle.tables.specs.Layout.{form_count}
use Rattle.compiler.specs.Stores.{FormsAdded}
use Rattle.compiler.proofs.Plan.fill_forms.Given as goal

abbrev pub invariant-loop-e : goal.invariant-loop-e
invariant-loop-e l =
    (l.self.cells.ghost_name ≡ l.fn.self.cells.ghost_name)
    × (l.e ≤ l.forms)
    × (l.forms ≡ form_count l.cells)
    × FormsAdded l.cells l.fn.self.cells.now l.self.cells.now l.e l.self.next l.pairs

abbrev pub decreases-loop-e : goal.decreases-loop-e
decreases-loop-e l = l.forms - l.e
