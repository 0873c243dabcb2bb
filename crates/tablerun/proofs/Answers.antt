-- Tables that are long enough and well formed get no refusal: not from compile, and not from run on the plan that compile left.
use Prim.Native.Nat.{ℕ, ◌≤◌}
use Rattle.std.specs.Prelude.{Result, Ok, IsOk}
use mathlib.Core.List.{List, ◌++◌}
use mathlib.Core.Option.{Option}
use mathlib.Core.Bool.{true, ◌&&◌}
use mathlib.Core.Path.{◌≡◌, refl, sym, ap, ap₂, ◌∙◌}
use native.Mathlib.Omega.{arith}
use lib.Dec.{leb}
use lib.IntN.{ℤ}
use lib.ListN.{length, take, drop, length-append}
use lib.Seq.{take_at}
use borrow.Author.Tests.{le-leb}
use Rattle.base.proofs.Bools.{and_both}
use Rattle.model.specs.declared.Refusal.{Refusal}
use Rattle.model.specs.Answers.{value, answer_of, is_given}
use Rattle.model.proofs.Answers.{same-value, given-ok, done}
use Rattle.tables.specs.Layout.{name_count, cell_count, value_count, rule_count}
use Rattle.tables.specs.Names.{sub_class_at}
use Rattle.tables.specs.Sizes.{long_enough}
use Rattle.tables.specs.WellFormed.{well_formed}
use Rattle.plan.specs.Layout.{plan_count}
use Rattle.plan.specs.WellFormed.{plan_well_formed}
use Rattle.plancheck.proofs.Both.{both_formed}
use Rattle.translation.specs.Compile.{steps_of, plan_of}
use Rattle.translation.proofs.Plans.{length-plan_of}
use Rattle.compiler.specs.Answers as compiles
use Rattle.compiler.proofs.Answers.{compile_answers, long-both}
use Rattle.runner.specs.Run as runs
use Rattle.runner.proofs.Answers.{run-answers}
use Rattle.lists.specs.Rows.{list_in, with_rows, with_lengths}
use Rattle.tablerun.specs.Lists.{list_at}
use Rattle.tablerun.proofs.Lists.{bare_well_formed, rule_nodes, rows_same, lengths-same}

module _ (ns cells : List ℕ) (values : List ℤ) (ps : List ℕ) (long : long_enough ns cells values ≡ true) (ok : well_formed (take cell_count cells) ≡ true) (room : plan_count ≤ length ps) where
  abbrev cs : List ℕ
  cs = take cell_count cells

  -- the link `under`, where the tables have it
  abbrev sub : Option ℕ
  sub = sub_class_at (take name_count ns) cs

  -- ---- compile
  compile_done : (value (length (steps_of cs)) ≡ compiles.compile_answer ns cells values ps) × (plan_of cs ++ drop plan_count ps ≡ compiles.plan_after ns cells values ps)
  compile_done = done (compile_answers ns cells values ps) (long-both ns cells values ps long room) ok refl refl refl

  pub compile_value : compiles.compile_answer ns cells values ps ≡ value (length (steps_of cs))
  compile_value = sym compile_done.0

  pub is-compiled : (x : Result ℕ Refusal) → answer_of x ≡ compiles.compile_answer ns cells values ps → IsOk x
  is-compiled x e = given-ok x ∙ ap is_given (e ∙ compile_value)

  pub steps-told : (x : Result ℕ Refusal) (n : ℕ) → answer_of x ≡ compiles.compile_answer ns cells values ps → x ≡ Ok n → n ≡ length (steps_of cs)
  steps-told x n e f = same-value (ap answer_of (sym f) ∙ e ∙ compile_value)

  pub plan-left : compiles.plan_after ns cells values ps ≡ plan_of cs ++ drop plan_count ps
  plan-left = sym compile_done.1

  -- ---- run, on the plan that compile left
  module _ (qs ws : List ℕ) (made : qs ≡ plan_of cs ++ drop plan_count ps) (space : runs.work_count ≤ length ws) where
    pub plan-cells : take plan_count qs ≡ plan_of cs
    plan-cells = ap (take plan_count) made ∙ take_at (plan_of cs) (drop plan_count ps) plan_count (length-plan_of cs)

    pub plan-right : plan_well_formed cs (take plan_count qs) ≡ true
    plan-right = ap (plan_well_formed cs) plan-cells ∙ bare_well_formed cs ok

    plan-long : plan_count ≤ length qs
    plan-long = omega (arith, ap length made, length-append (plan_of cs) (drop plan_count ps), length-plan_of cs)

    run_long_lem : runs.run_long ns cells values qs ws ≡ true
    unfolding runs.run_long
    run_long_lem = and_both (long_enough ns cells values) (leb plan_count (length qs) && leb runs.work_count (length ws)) long (and_both (leb plan_count (length qs)) (leb runs.work_count (length ws)) (le-leb plan_count (length qs) plan-long) (le-leb runs.work_count (length ws) space))

    run_done : (value tt ≡ runs.run_answer ns cells values qs ws) × (runs.filled sub cs (take value_count values) (take plan_count qs) ws ≡ runs.work_after ns cells values qs ws)
    run_done = done (run-answers ns cells values qs ws) run_long_lem (both_formed cs (take plan_count qs) ok plan-right) refl refl refl

    pub run_value : runs.run_answer ns cells values qs ws ≡ value tt
    run_value = sym run_done.0

    pub is_run : (x : Result (Unit {0}) Refusal) → answer_of x ≡ runs.run_answer ns cells values qs ws → IsOk x
    is_run x e = given-ok x ∙ ap is_given (e ∙ run_value)

    pub work-left : runs.work_after ns cells values qs ws ≡ runs.filled sub cs (take value_count values) (plan_of cs) ws
    work-left = sym run_done.1 ∙ ap (λ p. runs.filled sub cs (take value_count values) p ws) plan-cells

    -- ---- the lists, read off the work space that run left
    module _ (done : List ℕ) (e : done ≡ runs.filled sub cs (take value_count values) (plan_of cs) ws) (ls : List ℕ) where
      pub rows_left : with_rows (list_in cs (take plan_count qs) done) (rule_count cs) ls ≡ with_rows (list_at sub cs (take value_count values)) (rule_count cs) ls
      rows_left =
          ap₂ (λ p w. with_rows (list_in cs p w) (rule_count cs) ls) plan-cells e
          ∙ rows_same (list_in cs (plan_of cs) (runs.filled sub cs (take value_count values) (plan_of cs) ws)) (list_at sub cs (take value_count values)) (rule_count cs) ls (rule_nodes cs ok sub (take value_count values) ws)

      pub lengths-left : with_lengths (list_in cs (take plan_count qs) done) (rule_count cs) ls ≡ with_lengths (list_at sub cs (take value_count values)) (rule_count cs) ls
      lengths-left =
          ap₂ (λ p w. with_lengths (list_in cs p w) (rule_count cs) ls) plan-cells e
          ∙ lengths-same (list_in cs (plan_of cs) (runs.filled sub cs (take value_count values) (plan_of cs) ws)) (list_at sub cs (take value_count values)) (rule_count cs) ls (rule_nodes cs ok sub (take value_count values) ws)
