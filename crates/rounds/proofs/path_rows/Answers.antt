-- `path_rows` meets its contract.
use Rattle.tables.specs.Layout.{node_count}
use Rattle.tables.proofs.WellFormed.{sound}
use Rattle.rows.proofs.Rows.{empty-room}
use Rattle.rounds.proofs.Tables.{path_known, path_rows}
use Rattle.rounds.proofs.path_rows.Goals as goal

pub all_table_ends-requires : goal.all_table_ends-requires
all_table_ends-requires c =
    let a = c.args in
    let cs = a.tables.cells.now in
    let pre = c.requires in
    let room = empty-room (node_count cs) (sound cs a.tables.made.ok).nodes pre.0 in
    (path_known cs a.e pre.1, room.0, room.1)

pub returns : goal.returns
returns c = let a = c.args in path_rows a.tables.cells.now a.e c.requires.0 c.all_table_ends.ensures
