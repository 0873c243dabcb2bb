-- What running a plan does: the answer, and the work space afterwards.
use Rattle.std.specs.Prelude.{ℕ, zero, suc, ◌*◌, List, [], ◌++◌, Bool, true, ◌&&◌, leb, ℤ, length, take, drop}
use Rattle.std.proofs.Math.Option.{Option}
use Rattle.nodeset.specs.Words.{nodes_of}
use Rattle.model.specs.Answers.{Answer, checked, unless_refused}
use Rattle.model.specs.Limits.{max_steps}
use Rattle.tables.specs.Layout.{name_count, cell_count, value_count, node_count}
use Rattle.tables.specs.Names.{sub_class_at}
use Rattle.tables.specs.Sizes.{long_enough}
use Rattle.plan.specs.Layout.{plan_count, step_count}
use Rattle.plan.specs.Sets.{set_at}
use Rattle.plancheck.specs.Both.{both_well_formed}

-- how long the work space must be: sixteen words for each step
abbrev pub work_count : ℕ
work_count = 16 * max_steps

-- ---- the work space; sub: the link `under`, where the tables have it
module _ (sub : Option ℕ) (cs : List ℕ) (vs : List ℤ) (ps : List ℕ) where
  -- the sixteen words of step k's set: its nodes, and no bit past the last node
  unfoldable pub set_words : ℕ → List ℕ
  set_words k = nodes_of (set_at sub cs vs ps k) (node_count cs)

  -- the words of the steps below k, one step after the other
  unfoldable pub step_words : ℕ → List ℕ
  step_words zero = []
  step_words (suc k) = step_words k ++ set_words k

  -- the words of all steps, and then what was there
  unfoldable pub filled : List ℕ → List ℕ
  filled ws = step_words (step_count ps) ++ drop (16 * step_count ps) ws

-- ---- the whole: names, cells, values, plan and work space as they are lent; each counts up to its limit
module _ (ns cs : List ℕ) (vs : List ℤ) (ps ws : List ℕ) where
  -- every slice is as long as the limits need
  unfoldable pub run_long : Bool
  run_long = long_enough ns cs vs && (leb plan_count (length ps) && leb work_count (length ws))

  -- 8, then 9, else done; there is nothing for 10
  unfoldable pub run_answer : Answer (Unit {0})
  run_answer = checked run_long (both_well_formed (take cell_count cs) (take plan_count ps)) true tt

  unfoldable pub work_after : List ℕ
  work_after = unless_refused run_answer (filled (sub_class_at (take name_count ns) (take cell_count cs)) (take cell_count cs) (take value_count vs) (take plan_count ps) ws) ws
