-- `ends_from` meets its contract: what an empty set gains.
use mathlib.Core.Path.{◌∙◌}
use Rattle.model.specs.Paths.{ends_of}
use Rattle.tables.specs.Layout.{node_count}
use Rattle.tables.specs.Decode.{triples_at}
use Rattle.paths.specs.Ends.{end_in}
use Rattle.entries.proofs.Ends.{image_zeros}
use Rattle.entries.proofs.ends_from.Goals as goal

pub returns : goal.returns
returns c = let a = c.args in let cs = a.tables.cells.now in c.add_table_ends.ensures ∙ image_zeros (node_count cs) (ends_of (node_count cs) (triples_at cs) (end_in cs a.end)) a.from.now
