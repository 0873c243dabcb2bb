use Rattle.report.proofs.Parts.{row-lent}
use Rattle.report.proofs.Lists.row.Goals as goal

pub returns : goal.returns
returns c = row-lent c.args.self.rows.now c.args.self.lengths.now c.args.r c.wide.result c.wide.ensures
