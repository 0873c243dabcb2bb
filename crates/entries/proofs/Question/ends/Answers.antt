-- `ends` meets its contract: the ends from the set of v alone.
use mathlib.Core.Path.{◌∙◌}
use Rattle.model.specs.Paths.{ends_of}
use Rattle.tables.specs.Layout.{node_count}
use Rattle.tables.specs.Decode.{triples_at}
use Rattle.paths.specs.Ends.{end_in}
use Rattle.entries.proofs.Codes.{nodes_le}
use Rattle.entries.proofs.Ends.{image_single}
use Rattle.entries.proofs.Question.ends.Goals as goal

pub returns : goal.returns
returns c =
    let a = c.args in
    let cs = a.self.tables.cells.now in
    c.ends_from.ensures ∙ image_single (node_count cs) (ends_of (node_count cs) (triples_at cs) (end_in cs a.end)) c.insert.new.words a.self.node.0 (nodes_le cs a.self.asked.tables) a.self.asked.node c.insert.ensures
