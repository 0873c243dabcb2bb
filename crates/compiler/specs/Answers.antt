-- What compiling answers, and what it leaves in the lent plan.
use Rattle.std.specs.Prelude.{ℕ, List, ◌++◌, Bool, true, ◌&&◌, leb, ℤ, length, take, drop}
use Rattle.model.specs.Answers.{Answer, checked, unless_refused}
use Rattle.tables.specs.Layout.{cell_count}
use Rattle.tables.specs.Sizes.{long_enough}
use Rattle.tables.specs.WellFormed.{well_formed}
use Rattle.plan.specs.Layout.{plan_count}
use Rattle.translation.specs.Compile.{steps_of, plan_of}

module _ (ns cs : List ℕ) (vs : List ℤ) (ps : List ℕ) where
  -- tables and plan are long enough. A longer table counts up to its limit.
  abbrev pub compile_long : Bool
  compile_long = long_enough ns cs vs && leb plan_count (length ps)

  -- 8, then 9, else the number of steps; there is nothing for 10
  unfoldable pub compile_answer : Answer ℕ
  compile_answer = checked compile_long (well_formed (take cell_count cs)) true (length (steps_of (take cell_count cs)))

  -- the plan of the tables, and past its cells what was there
  unfoldable pub plan_after : List ℕ
  plan_after = unless_refused compile_answer (plan_of (take cell_count cs) ++ drop plan_count ps) ps
