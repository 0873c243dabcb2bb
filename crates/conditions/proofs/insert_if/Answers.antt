-- `insert_if` meets its contract, by whether x joins.
use mathlib.Core.Path.{ap, ◌∙◌}
use mathlib.Core.Bool.{Bool, ◌&&◌}
use lib.Dec.{eqb}
use Rattle.nodeset.proofs.Sets.{same-words, with-words}
use Rattle.conditions.proofs.insert_if.Goals as goal

pub returns-then-yes : goal.returns-then-yes
returns-then-yes c =
    let a = c.args in
    c.insert.ensures ∙ with-words a.words.now a.x.0 (λ m. a.yes && eqb m a.x.0) (λ m. ap (λ (b : Bool). b && eqb m a.x.0) c.if-yes.true)

pub returns-else-yes : goal.returns-else-yes
returns-else-yes c =
    let a = c.args in
    same-words a.words.now (λ m. a.yes && eqb m a.x.0) (λ i. (c.type_inv.words i).fits) (λ m. ap (λ (b : Bool). b && eqb m a.x.0) c.if-yes.false)
