-- `next_fact` meets its contract.
use mathlib.Core.Path.{◌∙◌}
use Rattle.paths.proofs.facts.Facts.next_fact.Goals as goal

pub returns : goal.returns
returns c = c.wide.ensures ∙ c.cell.ensures
