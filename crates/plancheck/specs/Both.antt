-- Refusal 9 on tables and a plan: the tables are well formed, and the plan is for them.
use Rattle.std.specs.Prelude.{ℕ, List, Bool, ◌&&◌}
use Rattle.tables.specs.WellFormed.{well_formed}
use Rattle.plan.specs.WellFormed.{plan_well_formed}

-- cs: the cells of the tables, ps: those of the plan
unfoldable pub both_well_formed : (cs ps : List ℕ) → Bool
both_well_formed cs ps = well_formed cs && plan_well_formed cs ps
