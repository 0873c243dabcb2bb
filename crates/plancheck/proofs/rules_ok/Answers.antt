use Rattle.std.proofs.Common.{rules}
use lib.Dec.{ltb}
use Rattle.tables.specs.Layout.{rule_count}
use Rattle.plan.specs.Layout.{step_count, rule_step_at}
use Rattle.tablecheck.proofs.Parts.{all_below}
use Rattle.plancheck.proofs.rules_ok.Goals as goal

pub returns : goal.returns
returns c =
    let cs = c.args.cells.now in
    let ps = c.args.plan.now in
    all_below (λ r. ltb (rule_step_at ps r) (step_count ps)) (rule_count cs) c.rule_count.ensures c.all.ensures.ran (λ x b q k. search rules)
