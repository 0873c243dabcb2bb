-- `Level::start` meets its contract.
use mathlib.Core.Path.{◌∙◌}
use Rattle.nodeset.proofs.Sets.{single}
use Rattle.reach.proofs.Level.start.Goals as goal

pub returns : goal.returns
returns c = let e = c.with-node.ensures ∙ single c.args.v 16 in (e, e)
