-- The plan of well_formed_lem tables, read back from its cells: it is right, it is well formed, and it is small. t is what lies
-- past the cells of a plan.
use Prim.Native.Nat.{ℕ, ◌+◌, ◌*◌, ◌≤◌, ◌<◌}
use mathlib.Core.Bool.{true, not, ◌&&◌}
use mathlib.Core.List.{List, ◌++◌}
use mathlib.Core.Option.{Option}
use mathlib.Core.Path.{◌≡◌, ap, ◌∙◌}
use native.Mathlib.Omega.{arith}
use lib.Dec.{ltb, leb}
use lib.ListN.{get_or, length}
use lib.IntN.{ℤ}
use borrow.Author.Tests.{lt-ltb, le-leb}
use Rattle.base.specs.Bounded.{every}
use Rattle.base.specs.Lists.{values}
use Rattle.base.proofs.Bools.{and_both}
use Rattle.base.proofs.Bounded.{every-all}
use Rattle.base.proofs.Lists.{at-values}
use Rattle.model.specs.Shapes.{conforms}
use Rattle.model.specs.Rules.{violates}
use Rattle.model.specs.Limits.{max_steps}
use Rattle.tables.specs.Layout.{form_count, rule_count}
use Rattle.tables.specs.Decode.{graph_at, shape_at, schema_at, rule_at}
use Rattle.tables.specs.WellFormed.{well_formed}
use Rattle.tables.proofs.WellFormed.{Sound, sound}
use Rattle.plan.specs.Steps.{Step}
use Rattle.plan.specs.Layout.{plan_count, step_count, rule_step_at, step_at}
use Rattle.plan.specs.Sets.{set_by, set_at}
use Rattle.plan.specs.WellFormed.{step_ok, plan_well_formed}
use Rattle.plan.proofs.ReadBack.{length-plan, read_count, read_rule, read_step}
use Rattle.translation.specs.Compile.{made, steps_of, rule_step, plan_of}
use Rattle.translation.proofs.Right.{Has}
use Rattle.translation.proofs.Whole.{has_all_lem, entry_sets, rule_set, rule_low}
use Rattle.translation.proofs.WellMade.{steps-few, steps_fine}

pub length-plan_of : (cs : List ℕ) → length (plan_of cs) ≡ plan_count
unfolding plan_of
length-plan_of cs = length-plan (steps_of cs) (values (rule_step cs) (rule_count cs))

-- at most four steps for each form entry and two for each rule
pub plan-few : (cs : List ℕ) → length (steps_of cs) ≤ 4 * form_count cs + 2 * rule_count cs
unfolding steps_of
plan-few cs = steps-few cs (rule_count cs)

pub plan-count : (cs t : List ℕ) → step_count (plan_of cs ++ t) ≡ length (steps_of cs)
unfolding plan_of
plan-count cs t = read_count (steps_of cs) (values (rule_step cs) (rule_count cs)) t

module _ (cs : List ℕ) (ok : well_formed cs ≡ true) where
  fine : Sound cs
  fine = sound cs ok

  -- so not more than the limit
  pub plan-fits : length (steps_of cs) ≤ max_steps
  plan-fits = omega (arith, plan-few cs, fine.forms, fine.rules)

  module _ (t : List ℕ) where
    abbrev plan : List ℕ
    plan = plan_of cs ++ t

    pub plan_rule : (r : ℕ) → r < rule_count cs → rule_step_at plan r ≡ rule_step cs r
    unfolding plan_of
    plan_rule r l = read_rule (steps_of cs) (values (rule_step cs) (rule_count cs)) t r (omega (arith, fine.rules)) ∙ at-values (rule_step cs) (rule_count cs) r 0 l

    pub plan-step : (k : ℕ) → k < length (steps_of cs) → step_at plan k ≡ get_or (steps_of cs) k Step.all
    unfolding plan_of
    plan-step k l = read_step (steps_of cs) (values (rule_step cs) (rule_count cs)) t k (omega (arith, plan-fits))

    plan-has : Has (step_at plan) 0 (steps_of cs)
    plan-has = has_all_lem (step_at plan) 0 (steps_of cs) (λ i l. ap (step_at plan) (let z : 0 + i ≡ i = omega arith in z) ∙ plan-step i l)

    -- ---- the plan is right: the two sets of each entry, and each rule's set
    module _ (sub : Option ℕ) (vs : List ℤ) where
      pub plan-keeps : (e : ℕ) → e < form_count cs → set_at sub cs vs plan ((made cs (form_count cs)).keep e) ≡ conforms (graph_at cs vs) (shape_at cs vs e)
      unfolding set_at
      plan-keeps e l = (entry_sets cs fine sub vs (step_at plan) plan-has e l).keeps

      pub plan-breaks : (e : ℕ) → e < form_count cs → set_at sub cs vs plan ((made cs (form_count cs)).breaking e) ≡ (λ v. not (conforms (graph_at cs vs) (shape_at cs vs e) v))
      unfolding set_at
      plan-breaks e l = (entry_sets cs fine sub vs (step_at plan) plan-has e l).breaks

      pub plan-violates : (r : ℕ) → r < rule_count cs → set_at sub cs vs plan (rule_step_at plan r) ≡ violates sub (graph_at cs vs) (schema_at cs vs) (rule_at cs r)
      unfolding set_at
      plan-violates r l = ap (set_by sub cs vs (step_at plan)) (plan_rule r l) ∙ rule_set cs fine sub vs (step_at plan) plan-has r l

    -- ---- the plan is well formed: never 9
    pub plan_well_formed_lem : plan_well_formed cs plan ≡ true
    unfolding plan_well_formed
    plan_well_formed_lem =
        and_both (leb (step_count plan) max_steps) (every (λ k. step_ok cs k (step_at plan k)) (step_count plan) && every (λ r. ltb (rule_step_at plan r) (step_count plan)) (rule_count cs))
        (le-leb (step_count plan) max_steps (omega (arith, plan-count cs t, plan-fits)))
        (and_both (every (λ k. step_ok cs k (step_at plan k)) (step_count plan)) (every (λ r. ltb (rule_step_at plan r) (step_count plan)) (rule_count cs))
        (every-all (λ k. step_ok cs k (step_at plan k)) (step_count plan) (λ k l. let m : k < length (steps_of cs) = omega (arith, l, plan-count cs t) in ap (step_ok cs k) (plan-step k m) ∙ steps_fine cs fine k m))
        (every-all (λ r. ltb (rule_step_at plan r) (step_count plan)) (rule_count cs) (λ r l. lt-ltb (rule_step_at plan r) (step_count plan) (omega (arith, plan-count cs t, plan_rule r l, rule_low cs r l)))))
