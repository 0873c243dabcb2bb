use Prim.Native.Nat.{ℕ}
use mathlib.Core.Path.{◌≡◌, refl, sym, ap, subst, ◌∙◌}
use mathlib.Core.List.{List, ◌++◌}
use mathlib.Core.Bool.{true}
use lib.ListN.{length, drop}
use borrow.Author.Tests.{not-true, not-false}
use Rattle.model.specs.Answers.{Answer, value, refusal}
use Rattle.model.specs.Books.{Book}
use Rattle.model.specs.Refusals.{code_of, line_of}
use Rattle.tables.specs.Sizes.{long_enough}
use Rattle.grammar.specs.Reading.{reading}
use Rattle.plan.specs.Layout.{plan_count}
use Rattle.translation.specs.Compile.{steps_of, plan_of}
use Rattle.runner.specs.Run.{filled}
use Rattle.validation.specs.Lent.{Lent, lent, validate_long}
use Rattle.validation.proofs.Whole.{room, Meets, too_short, turned_down, taken, accepted, was_refused, names-left, cells_left_lem, values-left, lent_same, cells_of_lem, values_of_lem, sub_of_lem, well_formed_of, rows_of, lengths_of, long_kept}
use Rattle.validation.proofs.validate.Goals as goal

pub returns-then-not-long_enough : goal.returns-then-not-long_enough
returns-then-not-long_enough c = let a = c.args in let r = too_short a.book.now (lent a.names.now a.cells.now a.values.now a.plan.now a.work.now a.lists.now a.lengths.now) (sym c.long_enough.ensures ∙ c.if-not-long_enough.true) in record { demand3 = r.0; result_value = r.1.0; new_lent = r.1.1 }

pub run_tables-requires : goal.run_tables-requires
run_tables-requires c =
    let a = c.args in
    let s : List ℕ = a.book.now in
    let l : Lent = (lent a.names.now a.cells.now a.values.now a.plan.now a.work.now a.lists.now a.lengths.now) in
    let e : validate_long l ≡ true = (sym c.long_enough.ensures ∙ c.if-not-long_enough.false) in
    let t = accepted s l e c.read.result c.in-Ok.field-0 c.read.ensures.result_value c.in-Ok.is c.read.ensures.new_names c.read.ensures.new_cells c.read.ensures.new_values in
    let m = room l e in
    (long_kept a.names.now c.read.new.names a.cells.now c.read.new.cells a.values.now c.read.new.values m.tables c.read.auto.names c.read.auto.cells c.read.auto.values, well_formed_of t, m.plan, m.work, m.lists, m.lengths)

pub returns-in-Err : goal.returns-in-Err
returns-in-Err c =
    let a = c.args in
    let s : List ℕ = a.book.now in
    let l : Lent = (lent a.names.now a.cells.now a.values.now a.plan.now a.work.now a.lists.now a.lengths.now) in
    let e : validate_long l ≡ true = (sym c.long_enough.ensures ∙ c.if-not-long_enough.false) in
    let t : long_enough a.names.now a.cells.now a.values.now ≡ true = (room l e).tables in
    let q : reading s ≡ refusal (code_of c.in-Err.r) (line_of c.in-Err.r) = was_refused s a.names.now a.cells.now a.values.now t c.read.result c.in-Err.r c.read.ensures.result_value c.in-Err.is in
    let o : Answer Book = refusal (code_of c.in-Err.r) (line_of c.in-Err.r) in
    let r = subst (Meets s l (refusal (code_of c.in-Err.r) (line_of c.in-Err.r))) (sym (lent_same (c.read.ensures.new_names ∙ names-left s a.names.now a.cells.now a.values.now t o q) (c.read.ensures.new_cells ∙ cells_left_lem s a.names.now a.cells.now a.values.now t o q) (c.read.ensures.new_values ∙ values-left s a.names.now a.cells.now a.values.now t o q) refl refl refl refl)) (turned_down s l e (code_of c.in-Err.r) (line_of c.in-Err.r) q) in
    record { demand3 = r.0; result_value = r.1.0; new_lent = r.1.1 }

pub returns-in-Ok : goal.returns-in-Ok
returns-in-Ok c =
    let a = c.args in
    let s : List ℕ = a.book.now in
    let l : Lent = (lent a.names.now a.cells.now a.values.now a.plan.now a.work.now a.lists.now a.lengths.now) in
    let e : validate_long l ≡ true = (sym c.long_enough.ensures ∙ c.if-not-long_enough.false) in
    let t = accepted s l e c.read.result c.in-Ok.field-0 c.read.ensures.result_value c.in-Ok.is c.read.ensures.new_names c.read.ensures.new_cells c.read.ensures.new_values in
    let E = cells_of_lem t in
    let F = values_of_lem t in
    let G = sub_of_lem t in
    let n = c.run_tables.ensures.value ∙ ap (λ k. length (steps_of k)) E in
    let m = lent_same t.names t.cells t.values (c.run_tables.ensures.new_plan ∙ ap (λ k. plan_of k ++ drop plan_count a.plan.now) E) (c.run_tables.ensures.new_work ∙ (λ j. filled (G j) (E j) (F j) (plan_of (E j)) a.work.now)) (c.run_tables.ensures.new_lists ∙ rows_of t a.lists.now) (c.run_tables.ensures.new_lengths ∙ lengths_of t a.lengths.now) in
    let n₁ = sym n in
    let m₁ = sym m in
    let r = subst (λ (z : Answer ℕ × Lent). Meets s l z.0 z.1) (λ j. (value (n₁ j), m₁ j)) (taken s l e t.book t.read) in
    record { demand3 = r.0; result_value = r.1.0; new_lent = r.1.1 }
