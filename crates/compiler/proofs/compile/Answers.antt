use mathlib.Core.Bool.{true}
use mathlib.Core.Path.{◌≡◌, refl, sym, ◌∙◌}
use lib.ListN.{take}
use lib.Seq.{length-take-le}
use borrow.Author.Tests.{not-true, not-false}
use Rattle.model.proofs.Answers.{short, malformed, done}
use Rattle.tables.specs.Sizes.{long_enough}
use Rattle.tables.proofs.Sizes.{as_long}
use Rattle.compiler.proofs.Answers.{compile_answers, short-tables, short-plan, long-both, fits}
use Rattle.tables.specs.Layout.{cell_count}
use Rattle.compiler.proofs.compile.Goals as goal

pub returns-then-not-enough : goal.returns-then-not-enough
returns-then-not-enough c = let both = let a = c.args in short (compile_answers a.names.now a.cells.now a.values.now a.plan.now) (short-tables a.names.now a.cells.now a.values.now a.plan.now (sym c.enough.ensures ∙ not-true c.enough.result c.if-not-enough.true-raw)) in record { result_value = both.0; new_plan = both.1 }

pub returns-then-plan-lt-PLAN_CELLS : goal.returns-then-plan-lt-PLAN_CELLS
returns-then-plan-lt-PLAN_CELLS c = let both = let a = c.args in short (compile_answers a.names.now a.cells.now a.values.now a.plan.now) (short-plan a.names.now a.cells.now a.values.now a.plan.now c.if-plan-lt-PLAN_CELLS.true) in record { result_value = both.0; new_plan = both.1 }

pub slice_bounds-part-end : goal.slice_bounds-part-end
slice_bounds-part-end c = let a = c.args in let e : long_enough a.names.now a.cells.now a.values.now ≡ true = sym c.enough.ensures ∙ not-false c.enough.result c.if-not-enough.false-raw in sym (length-take-le cell_count a.cells.now (as_long a.names.now a.cells.now a.values.now e).cells)

pub returns-then-not-well_formed : goal.returns-then-not-well_formed
returns-then-not-well_formed c = let both = let a = c.args in let e : long_enough a.names.now a.cells.now a.values.now ≡ true = sym c.enough.ensures ∙ not-false c.enough.result c.if-not-enough.false-raw in malformed (compile_answers a.names.now a.cells.now a.values.now a.plan.now) (long-both a.names.now a.cells.now a.values.now a.plan.now e c.if-plan-lt-PLAN_CELLS.false) (sym c.well_formed-2.ensures ∙ not-true c.well_formed-2.result c.if-not-well_formed.true-raw) in record { result_value = both.0; new_plan = both.1 }

pub make_plan-requires : goal.make_plan-requires
make_plan-requires c = let a = c.args in fits (take cell_count a.cells.now) a.plan.now (sym c.well_formed-2.ensures ∙ not-false c.well_formed-2.result c.if-not-well_formed.false-raw) c.if-plan-lt-PLAN_CELLS.false

pub returns : goal.returns
returns c = let both = let a = c.args in let e : long_enough a.names.now a.cells.now a.values.now ≡ true = sym c.enough.ensures ∙ not-false c.enough.result c.if-not-enough.false-raw in done (compile_answers a.names.now a.cells.now a.values.now a.plan.now) (long-both a.names.now a.cells.now a.values.now a.plan.now e c.if-plan-lt-PLAN_CELLS.false) (sym c.well_formed-2.ensures ∙ not-false c.well_formed-2.result c.if-not-well_formed.false-raw) refl c.make_plan.ensures.value c.make_plan.ensures.new_plan in record { result_value = both.0; new_plan = both.1 }
