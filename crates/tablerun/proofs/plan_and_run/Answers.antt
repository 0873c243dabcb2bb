use mathlib.Core.Path.{◌∙◌}
use Rattle.tablerun.proofs.Answers.{is-compiled, steps-told, plan-left, is_run, work-left}
use Rattle.tablerun.proofs.plan_and_run.Goals as goal

pub unwrap-n-requires : goal.unwrap-n-requires
unwrap-n-requires c = let a = c.args in let q = c.requires in is-compiled a.names.now a.cells.now a.values.now a.plan.now q.0 q.1 q.2 c.compile.result c.compile.ensures.result_value

pub unwrap-requires : goal.unwrap-requires
unwrap-requires c =
    let a = c.args in let q = c.requires in let made = c.compile.ensures.new_plan ∙ plan-left a.names.now a.cells.now a.values.now a.plan.now q.0 q.1 q.2 in
    is_run a.names.now a.cells.now a.values.now a.plan.now q.0 q.1 q.2 _ a.work.now made q.3 c.run.result c.run.ensures.result_value

pub returns : goal.returns
returns c =
    let a = c.args in let q = c.requires in let made = c.compile.ensures.new_plan ∙ plan-left a.names.now a.cells.now a.values.now a.plan.now q.0 q.1 q.2 in
    record { value = steps-told a.names.now a.cells.now a.values.now a.plan.now q.0 q.1 q.2 c.compile.result c.unwrap-n.result c.compile.ensures.result_value c.unwrap-n.ensures; new_plan = made; new_work = c.run.ensures.new_work ∙ work-left a.names.now a.cells.now a.values.now a.plan.now q.0 q.1 q.2 _ a.work.now made q.3 }
