-- `run_all` meets its contract. The invariant: the steps below k have their words.
use mathlib.Core.Path.{refl, ◌∙◌}
use native.Mathlib.Omega.{arith}
use Rattle.tables.proofs.WellFormed.{sound}
use Rattle.plancheck.proofs.WellFormed as plans
use Rattle.targets.specs.Classes.{sub_of}
use Rattle.runner.specs.Steps.{step_from, put}
use Rattle.runner.proofs.Work.{steps-none, steps-more, steps_done}
use Rattle.runner.proofs.run_all.Goals as goal

pub loop-k-init : goal.loop-k-init
loop-k-init g c = let a = c.args in (omega arith, refl, refl, steps-none (sub_of a.sub) a.rows.now.tables.cells.now a.rows.now.tables.values.now a.plan.now a.work.now)

pub run_step-requires : goal.run_step-requires
run_step-requires g c =
    let a = c.args in
    let t = c.loop-k in
    let p = plans.sound a.rows.now.tables.cells.now a.plan.now c.requires.0 in
    (omega (arith, t.rows.fits), (omega (arith, p.steps, c.step_count-count.ensures, c.loop-k-test.true), rw t.invariant.2 (p.step t.k (omega (arith, c.step_count-count.ensures, c.loop-k-test.true))), omega (arith, c.requires.1, t.invariant.1)))

pub loop-k-preserved : goal.loop-k-preserved
loop-k-preserved g c =
    let a = c.args in
    let tables = a.rows.now.tables in
    let t = c.loop-k in
    let p = plans.sound tables.cells.now a.plan.now c.requires.0 in (
      omega (arith, c.loop-k-test.true),
      c.run_step.auto.work ∙ t.invariant.1,
      c.run_step.ensures.tables ∙ t.invariant.2,
      c.run_step.ensures.new_work
          ∙ (λ i. put t.work t.k (step_from (sub_of a.sub) (t.invariant.2 i).cells.now (t.invariant.2 i).values.now a.plan.now t.work t.k))
          ∙ steps-more (sub_of a.sub) tables.cells.now tables.values.now a.plan.now (sound tables.cells.now tables.made.ok).nodes a.work.now t.k (p.step t.k (omega (arith, c.step_count-count.ensures, c.loop-k-test.true))) t.invariant.3,
    )

pub shape_of-work : goal.shape_of-work
shape_of-work g c = c.loop-k.invariant.1

pub returns : goal.returns
returns g c =
    let a = c.args in
    let t = c.loop-k in
    steps_done (sub_of a.sub) a.rows.now.tables.cells.now a.rows.now.tables.values.now a.plan.now a.work.now t.k (omega (arith, c.step_count-count.ensures, t.invariant.0, c.loop-k-test.false)) t.invariant.3
