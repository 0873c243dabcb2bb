-- The answers of reading a list, each with the row that it leaves; and what slices that are long enough give.
use Prim.Native.Nat.{ℕ}
use mathlib.Core.List.{List}
use mathlib.Core.Bool.{true}
use mathlib.Core.Path.{◌≡◌, refl}
use lib.IntN.{ℤ}
use lib.ListN.{length, take}
use Rattle.model.specs.Limits.{max_nodes}
use Rattle.model.proofs.Answers.{Answering}
use Rattle.tables.specs.Layout.{cell_count}
use Rattle.tables.proofs.Beside.{Beside, beside}
use Rattle.plan.specs.Layout.{plan_count}
use Rattle.plancheck.specs.Both.{both_well_formed}
use Rattle.runner.specs.Run.{work_count}
use Rattle.lists.specs.Rows.{over}
use Rattle.lists.specs.Answers.{list_long, has_rule, listed, list_answer, row_after}

module _ (ns cs : List ℕ) (vs : List ℤ) (ps ws : List ℕ) (r : ℕ) (row : List ℕ) where
  pub list_answers : Answering (list_long ns cs vs ps ws row) (both_well_formed (take cell_count cs) (take plan_count ps)) (has_rule (take cell_count cs) r) (length (listed ns cs vs ps ws r row)) (over (listed ns cs vs ps ws r row) row) row (list_answer ns cs vs ps ws r row) (row_after ns cs vs ps ws r row)
  unfolding list_answer row_after
  list_answers = record { answer = refl; left = refl }

-- the slices are as long as the limits: plan, work space and row
pub list_room : (ns cs : List ℕ) (vs : List ℤ) (ps ws row : List ℕ) → list_long ns cs vs ps ws row ≡ true → Beside ns cs vs plan_count work_count max_nodes ps ws row
unfolding list_long
list_room ns cs vs ps ws row e = beside ns cs vs plan_count work_count max_nodes ps ws row e
