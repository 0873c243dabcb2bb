-- `link_ends` meets its contract.
use Rattle.targets.proofs.Classes.{link-known}
use Rattle.targets.proofs.Targets.{ends_found}
use Rattle.targets.proofs.link_ends.Goals as goal

pub add_table_ends-requires : goal.add_table_ends-requires
add_table_ends-requires c = link-known c.args.tables.cells.now c.args.link

pub returns : goal.returns
returns c = let a = c.args in ends_found a.tables.cells.now a.tables.index.now a.tables.made a.link a.back a.set.words c.add_table_ends.ensures
