-- `load` meets its contract: words over sixteen zeros.
use mathlib.Core.Path.{◌∙◌}
use Rattle.nodeset.proofs.Sets.{over_zeros}
use Rattle.nodeset.proofs.load.Goals as goal

pub returns : goal.returns
returns c = c.copy.ensures ∙ over_zeros c.args.words.now 16 (λ i. (c.type_inv.words i).fits)
