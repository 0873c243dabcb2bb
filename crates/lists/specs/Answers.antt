-- What reading a list answers, and what it leaves in the lent row.
use Rattle.std.specs.Prelude.{ℕ, List, Bool, ◌&&◌, leb, ltb, ℤ, length, take}
use Rattle.model.specs.Answers.{Answer, checked, unless_refused}
use Rattle.model.specs.Limits.{max_nodes}
use Rattle.tables.specs.Layout.{cell_count, rule_count}
use Rattle.tables.specs.Sizes.{long_enough}
use Rattle.plan.specs.Layout.{plan_count}
use Rattle.plancheck.specs.Both.{both_well_formed}
use Rattle.runner.specs.Run.{work_count}
use Rattle.lists.specs.Rows.{over, list_in}

-- names, cells, values, plan, work space and a row, as they are lent; each counts up to its limit. All are long enough:
unfoldable pub list_long : (ns cs : List ℕ) (vs : List ℤ) (ps ws row : List ℕ) → Bool
list_long ns cs vs ps ws row = long_enough ns cs vs && (leb plan_count (length ps) && (leb work_count (length ws) && leb max_nodes (length row)))

-- the tables have rule r
abbrev pub has_rule : List ℕ → ℕ → Bool
has_rule cs r = ltb r (rule_count cs)

module _ (ns cs : List ℕ) (vs : List ℤ) (ps ws : List ℕ) (r : ℕ) (row : List ℕ) where
  -- the nodes of the list
  abbrev pub listed : List ℕ
  listed = list_in (take cell_count cs) (take plan_count ps) ws r

  -- 8, then 9, then 10, else how many nodes
  unfoldable pub list_answer : Answer ℕ
  list_answer = checked (list_long ns cs vs ps ws row) (both_well_formed (take cell_count cs) (take plan_count ps)) (has_rule (take cell_count cs) r) (length listed)

  -- the list, and past it what was there
  unfoldable pub row_after : List ℕ
  row_after = unless_refused list_answer (over listed row) row
