-- `fill` meets its contract: filled anew, or as they were.
use Rattle.stepsets.proofs.Rows.{held_anew}
use Rattle.stepsets.proofs.end_rows.fill.Goals as goal

pub returns-then-ne-clause-held : goal.returns-then-ne-clause-held
returns-then-ne-clause-held c = let a = c.args in held_anew a.tables.cells.now a.of.now a.end c.requires.1 c.all_table_ends.ensures
