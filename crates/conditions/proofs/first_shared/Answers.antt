-- `first_shared` meets its contract: the next one from 0 on, where there is one.
use mathlib.Core.Path.{◌∙◌}
use mathlib.Core.Bool.{◌&&◌}
use Rattle.nodeset.specs.Words.{has}
use Rattle.conditions.proofs.Searches.{first_next}
use Rattle.conditions.proofs.first_shared.Goals as goal

pub returns : goal.returns
returns c = let a = c.args in c.found_below.ensures ∙ first_next (λ m. has a.a.now m && has a.b.now m) a.n c.next_shared.result c.next_shared.ensures
