use Rattle.std.proofs.Common.{rules}
use Rattle.tables.specs.Layout.{rule_count}
use Rattle.tables.specs.WellFormed.{rule_ok}
use Rattle.tablecheck.proofs.Parts.{all_below}
use Rattle.tablecheck.proofs.rules_ok.Goals as goal

pub returns : goal.returns
returns c =
    let cs = c.args.cells.now in
    all_below (rule_ok cs) (rule_count cs) c.rule_count.ensures c.all.ensures.ran (λ x b q k. search rules)
