-- Tables and a plan are well formed together exactly when each is.
use Prim.Native.Nat.{ℕ}
use mathlib.Core.List.{List}
use mathlib.Core.Bool.{true}
use mathlib.Core.Path.{◌≡◌}
use Rattle.base.proofs.Bools.{and_left, and_right, and_both}
use Rattle.tables.specs.WellFormed.{well_formed}
use Rattle.plan.specs.WellFormed.{plan_well_formed}
use Rattle.plancheck.specs.Both.{both_well_formed}

module _ (cs ps : List ℕ) where
  pub tables_formed : both_well_formed cs ps ≡ true → well_formed cs ≡ true
  unfolding both_well_formed
  tables_formed e = and_left (well_formed cs) (plan_well_formed cs ps) e

  pub plan_formed : both_well_formed cs ps ≡ true → plan_well_formed cs ps ≡ true
  unfolding both_well_formed
  plan_formed e = and_right (well_formed cs) (plan_well_formed cs ps) e

  pub both_formed : well_formed cs ≡ true → plan_well_formed cs ps ≡ true → both_well_formed cs ps ≡ true
  unfolding both_well_formed
  both_formed e f = and_both (well_formed cs) (plan_well_formed cs ps) e f
