-- `add_image` meets its contract. The invariant: the nodes below w have joined.
use mathlib.Core.Path.{refl, ◌∙◌}
use native.Mathlib.Omega.{arith}
use Rattle.paths.proofs.Repeats.{gained-none, gained-more, gain_one}
use borrow.Author.Rules.{rules}
use Rattle.paths.proofs.add_image.Goals as goal

pub loop-w-init : goal.loop-w-init
loop-w-init c = let a = c.args in (omega arith, refl, gained-none a.into.now a.from.now a.relation.rows.now a.relation.n (λ i. (c.type_inv.into i).fits))

pub loop-w-preserved : goal.loop-w-preserved
loop-w-preserved c = let a = c.args in let t = c.loop-w in (search rules, c.gain_node.auto.into ∙ t.invariant.1, c.gain_node.ensures ∙ gained-more a.into.now a.from.now a.relation.rows.now a.relation.n t.w t.invariant.2)

pub returns : goal.returns
returns c = let a = c.args in let t = c.loop-w in gain_one a.relation.n a.relation.few a.relation.rows.now a.relation.within a.from.now a.into.now t.w (omega arith) t.invariant.2
