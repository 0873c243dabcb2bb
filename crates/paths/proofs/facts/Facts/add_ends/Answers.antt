-- `add_ends` meets its contract: one set alone.
use mathlib.Core.Path.{◌∙◌}
use Rattle.model.specs.Paths.{ends_of}
use Rattle.paths.specs.Over.{triples_over}
use Rattle.paths.specs.Images.{converse_if}
use Rattle.paths.specs.Ends.{end_in}
use Rattle.paths.proofs.Images.{one_set}
use Rattle.paths.proofs.facts.Facts.add_ends.Goals as goal

pub returns : goal.returns
returns c =
    let a = c.args in
    c.follow.ensures ∙ one_set a.self.n (converse_if a.back (ends_of a.self.n (triples_over a.self) (end_in a.self.cells.now a.end))) a.from.now a.into.now
