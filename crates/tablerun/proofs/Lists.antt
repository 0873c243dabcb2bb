-- Compiled, run and read off, the list of a rule is what the tables say: the plan's theorem, put into words of lists.
use Prim.Native.Nat.{ℕ, zero, suc, ◌*◌, ◌<◌}
use mathlib.Core.List.{List, [], append-nil}
use mathlib.Core.Option.{Option}
use mathlib.Core.Bool.{Bool, true}
use mathlib.Core.Path.{◌≡◌, refl, ap, subst, ◌∙◌}
use native.Mathlib.Omega.{arith}
use lib.IntN.{ℤ}
use lib.ListN.{length, drop, set}
use Rattle.base.proofs.Bounded.{members_ext}
use Rattle.nodeset.specs.Words.{has}
use Rattle.model.specs.Rules.{violates, violations}
use Rattle.tables.specs.Layout.{node_count, rule_count}
use Rattle.tables.specs.Decode.{graph_at, schema_at, rule_at}
use Rattle.tables.specs.WellFormed.{well_formed}
use Rattle.tables.proofs.WellFormed as tables
use Rattle.plan.specs.Layout.{step_count, rule_step_at}
use Rattle.plan.specs.Sets.{set_at}
use Rattle.plan.specs.WellFormed.{plan_well_formed}
use Rattle.plancheck.proofs.WellFormed as plans
use Rattle.translation.specs.Compile.{plan_of}
use Rattle.translation.proofs.Plans.{plan-violates, plan_well_formed_lem}
use Rattle.runner.specs.Run.{filled}
use Rattle.runner.proofs.Work.{filled-has}
use Rattle.lists.specs.Rows.{list_in, with_row, with_rows, with_lengths}
use Rattle.tablerun.specs.Lists.{list_at}

module _ (cs : List ℕ) (ok : well_formed cs ≡ true) where
  -- the cells of the plan, with nothing past them
  pub bare_well_formed : plan_well_formed cs (plan_of cs) ≡ true
  bare_well_formed = subst (λ ps. plan_well_formed cs ps ≡ true) (append-nil (plan_of cs)) (plan_well_formed_lem cs ok [])

  module _ (sub : Option ℕ) (vs : List ℤ) (ws : List ℕ) where
    pub rule_nodes : (r : ℕ) → r < rule_count cs → list_in cs (plan_of cs) (filled sub cs vs (plan_of cs) ws) r ≡ list_at sub cs vs r
    unfolding list_in list_at violations graph_at
    rule_nodes r low =
        let plan : List ℕ = plan_of cs in
        let step : rule_step_at plan r < step_count plan = (plans.sound cs plan bare_well_formed).rule r low in
        let right = subst (λ ps. set_at sub cs vs ps (rule_step_at ps r) ≡ violates sub (graph_at cs vs) (schema_at cs vs) (rule_at cs r)) (append-nil plan) (plan-violates cs ok [] sub vs r low) in
        members_ext (has (drop (16 * rule_step_at plan r) (filled sub cs vs plan ws))) (violates sub (graph_at cs vs) (schema_at cs vs) (rule_at cs r)) (node_count cs)
        (λ v l. filled-has sub cs vs plan (tables.sound cs ok).nodes ws (rule_step_at plan r) step v l ∙ ap (λ (p : ℕ → Bool). p v) right)

-- ---- rows of lists that are the same
module _ (f g : ℕ → List ℕ) where
  pub rows_same : (n : ℕ) (ls : List ℕ) → ((r : ℕ) → r < n → f r ≡ g r) → with_rows f n ls ≡ with_rows g n ls
  unfolding with_rows
  rows_same zero ls e = refl
  rows_same (suc r) ls e = ap (λ xs. with_row r xs (with_rows f r ls)) (e r (omega arith)) ∙ ap (with_row r (g r)) (rows_same r ls (λ i l. e i (omega (arith, l))))

  pub lengths-same : (n : ℕ) (ls : List ℕ) → ((r : ℕ) → r < n → f r ≡ g r) → with_lengths f n ls ≡ with_lengths g n ls
  unfolding with_lengths
  lengths-same zero ls e = refl
  lengths-same (suc r) ls e = ap (λ xs. set (with_lengths f r ls) r (length xs)) (e r (omega arith)) ∙ ap (λ l. set l r (length (g r))) (lengths-same r ls (λ i l. e i (omega (arith, l))))
