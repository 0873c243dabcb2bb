-- `gain_node` meets its contract: the node joins, or not.
use mathlib.Core.Path.{sym, ◌∙◌}
use Rattle.paths.proofs.Repeats.{node_in_lem, node_out}
use Rattle.paths.proofs.gain_node.Goals as goal

pub returns-then-meets_row : goal.returns-then-meets_row
returns-then-meets_row c = let a = c.args in c.insert.ensures ∙ node_in_lem a.from.now a.relation.rows.now a.into.now a.relation.n a.w (sym c.meets_row.ensures ∙ c.if-meets_row.true)

pub returns-else-meets_row : goal.returns-else-meets_row
returns-else-meets_row c = let a = c.args in node_out a.from.now a.relation.rows.now a.into.now a.relation.n a.w (λ i. (c.type_inv.into i).fits) (sym c.meets_row.ensures ∙ c.if-meets_row.false)
