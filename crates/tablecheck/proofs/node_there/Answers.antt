use mathlib.Core.Path.{ap, ◌∙◌}
use lib.Dec.{ltb}
use Rattle.tablecheck.proofs.node_there.Goals as goal

pub returns : goal.returns
returns c = c.below.ensures ∙ ap (ltb _) c.node_count.ensures
