-- `first_outside` meets its contract: the next one from 0 on, where there is one.
use mathlib.Core.Path.{◌∙◌}
use mathlib.Core.Bool.{not, ◌&&◌}
use Rattle.nodeset.specs.Words.{has}
use Rattle.conditions.proofs.Searches.{first_next}
use Rattle.conditions.proofs.first_outside.Goals as goal

pub returns : goal.returns
returns c = let a = c.args in c.found_below.ensures ∙ first_next (λ m. has a.a.now m && not (has a.b.now m)) a.n c.next_outside.result c.next_outside.ensures
