use Rattle.tablecheck.proofs.Columns.{facts_columns}
use Rattle.tablecheck.proofs.facts_ok.Goals as goal

pub returns : goal.returns
returns c =
    let n = c.fact_count-n in
    facts_columns c.args.cells.now n.result c.cell_at-nodes.result c.cell_at-links.result n.ensures c.cell_at-nodes.ensures c.cell_at-links.ensures c.column_below.ensures c.column_below-2.ensures c.column_below-3.ensures
