use Rattle.nodeset.specs.Words.{stored}
use Rattle.nodeset.proofs.store.Goals as goal

pub returns : goal.returns
unfolding stored
returns c = c.copy.ensures
