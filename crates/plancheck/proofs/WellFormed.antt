-- What a well_formed_lem plan gives: no more steps than there may be, every step right, every rule's step one of the steps.
use Prim.Native.Nat.{ℕ, ◌≤◌, ◌<◌}
use mathlib.Core.List.{List}
use mathlib.Core.Bool.{true, ◌&&◌}
use mathlib.Core.Path.{◌≡◌}
use lib.Dec.{ltb, leb}
use borrow.Author.Tests.{ltb-true, leb-true}
use Rattle.base.specs.Bounded.{every}
use Rattle.base.proofs.Bools.{and_left, and_right}
use Rattle.base.proofs.Bounded.{every-at}
use Rattle.model.specs.Limits.{max_steps}
use Rattle.tables.specs.Layout.{rule_count}
use Rattle.plan.specs.Layout.{step_count, rule_step_at, step_at}
use Rattle.plan.specs.WellFormed.{step_ok, plan_well_formed}

pub record Sound (cs ps : List ℕ) : Type 0 where
  pub steps : step_count ps ≤ max_steps
  pub step : (k : ℕ) → k < step_count ps → step_ok cs k (step_at ps k) ≡ true
  pub rule : (r : ℕ) → r < rule_count cs → rule_step_at ps r < step_count ps

module _ (cs ps : List ℕ) (w : plan_well_formed cs ps ≡ true) where
  parts : (every (λ k. step_ok cs k (step_at ps k)) (step_count ps) && every (λ r. ltb (rule_step_at ps r) (step_count ps)) (rule_count cs)) ≡ true
  unfolding plan_well_formed
  parts = and_right (leb (step_count ps) max_steps) _ w

  pub sound : Sound cs ps
  unfolding plan_well_formed
  sound = record {
    steps = leb-true (step_count ps) max_steps (and_left (leb (step_count ps) max_steps) _ w);
    step = every-at (λ k. step_ok cs k (step_at ps k)) (step_count ps) (and_left _ (every (λ r. ltb (rule_step_at ps r) (step_count ps)) (rule_count cs)) parts);
    rule = λ r l. ltb-true (rule_step_at ps r) (step_count ps) (every-at (λ r. ltb (rule_step_at ps r) (step_count ps)) (rule_count cs) (and_right (every (λ k. step_ok cs k (step_at ps k)) (step_count ps)) _ parts) r l);
  }
