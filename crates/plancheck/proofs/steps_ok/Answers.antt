use Rattle.std.proofs.Common.{rules}
use Rattle.plan.specs.Layout.{step_count, step_at}
use Rattle.plan.specs.WellFormed.{step_ok}
use Rattle.tablecheck.proofs.Parts.{all_below}
use Rattle.plancheck.proofs.steps_ok.Goals as goal

pub returns : goal.returns
returns c =
    let cs = c.args.cells.now in
    let ps = c.args.plan.now in
    all_below (λ k. step_ok cs k (step_at ps k)) (step_count ps) c.step_count.ensures c.all.ensures.ran (λ x b q k. search rules)
