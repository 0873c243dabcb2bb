use mathlib.Core.Path.{ap, ◌∙◌}
use lib.Dec.{ltb}
use Rattle.tablecheck.proofs.link_there.Goals as goal

pub returns : goal.returns
returns c = c.below.ensures ∙ ap (ltb _) c.link_count.ensures
