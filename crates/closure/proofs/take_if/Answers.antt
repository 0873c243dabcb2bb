-- `take_if` meets its contract.
use mathlib.Core.Path.{◌∙◌}
use Rattle.closure.proofs.Gains.{given_yes, given_not}
use Rattle.closure.proofs.take_if.Goals as goal

pub take_in-requires : goal.take_in-requires
take_in-requires c = (c.requires.0, c.requires.1, λ i. (c.slice_known-1.given i).fits)

pub returns-then-yes : goal.returns-then-yes
returns-then-yes c = let a = c.args in c.take_in.ensures ∙ given_yes a.rows.now a.v a.from.now c.if-yes.true

pub returns-else-yes : goal.returns-else-yes
returns-else-yes c = let a = c.args in given_not a.rows.now a.v a.from.now c.if-yes.false (λ i. (c.type_inv.rows i).fits)
