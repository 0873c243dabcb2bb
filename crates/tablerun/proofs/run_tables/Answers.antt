use mathlib.Core.Path.{sym, ◌∙◌}
use native.Mathlib.Omega.{arith}
use lib.Seq.{length-take-le}
use Rattle.tables.proofs.Sizes.{as_long}
use Rattle.tables.specs.Layout.{cell_count}
use Rattle.plan.specs.Layout.{plan_count}
use Rattle.tablerun.proofs.Answers.{plan-right, rows_left, lengths-left}
use Rattle.tablerun.proofs.run_tables.Goals as goal

pub slice_bounds-list_rows-end : goal.slice_bounds-list_rows-end
slice_bounds-list_rows-end c = let a = c.args in let q = c.requires in let x = c.plan_and_run-n in sym (length-take-le cell_count a.cells.now (as_long a.names.now a.cells.now a.values.now q.0).cells)

pub slice_bounds-list_rows-end-3 : goal.slice_bounds-list_rows-end-3
slice_bounds-list_rows-end-3 c = let a = c.args in let q = c.requires in sym (length-take-le plan_count c.plan_and_run-n.new.plan (omega (arith, c.plan_and_run-n.auto.plan, q.2)))

pub list_rows-requires : goal.list_rows-requires
list_rows-requires c = let a = c.args in let q = c.requires in (q.1, plan-right a.names.now a.cells.now a.values.now a.plan.now q.0 q.1 q.2 c.plan_and_run-n.new.plan a.work.now c.plan_and_run-n.ensures.new_plan q.3, omega (arith, c.plan_and_run-n.auto.work, q.3), q.4, q.5)

pub returns : goal.returns
returns c =
    let a = c.args in let q = c.requires in record { value = c.plan_and_run-n.ensures.value; new_plan = c.plan_and_run-n.ensures.new_plan; new_work = c.plan_and_run-n.ensures.new_work; new_lists = c.list_rows.ensures.new_lists ∙ rows_left a.names.now a.cells.now a.values.now a.plan.now q.0 q.1 q.2 c.plan_and_run-n.new.plan a.work.now c.plan_and_run-n.ensures.new_plan q.3 c.plan_and_run-n.new.work c.plan_and_run-n.ensures.new_work a.lists.now; new_lengths = c.list_rows.ensures.new_lengths ∙ lengths-left a.names.now a.cells.now a.values.now a.plan.now q.0 q.1 q.2 c.plan_and_run-n.new.plan a.work.now c.plan_and_run-n.ensures.new_plan q.3 c.plan_and_run-n.new.work c.plan_and_run-n.ensures.new_work a.lengths.now }
