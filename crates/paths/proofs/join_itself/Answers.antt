-- `join_itself` meets its contract. The invariant: the nodes below x have joined.
use mathlib.Core.Path.{refl, ◌∙◌}
use native.Mathlib.Omega.{arith}
use borrow.Author.Rules.{rules}
use Rattle.paths.specs.Images.{set_count, start_of}
use Rattle.paths.proofs.Joins.{itself_none, itself_more, itself_all, room-kept}
use Rattle.paths.proofs.join_itself.Goals as goal

pub loop-x-init : goal.loop-x-init
loop-x-init c = let a = c.args in (search rules, refl, itself_none (set_count a.sets) a.n (start_of a.sets a.from.now) a.into.now (λ i. (c.type_inv.into i).fits))

pub join-requires : goal.join-requires
join-requires c = let a = c.args in let t = c.loop-x in (room-kept a.sets a.n a.from.now a.into.now t.into t.invariant.1 c.requires.0, c.requires.1, omega (arith, c.loop-x-test.true), omega (arith, c.loop-x-test.true))

pub loop-x-preserved : goal.loop-x-preserved
loop-x-preserved c =
    let a = c.args in
    let t = c.loop-x in
    (search rules, c.join.auto.into ∙ t.invariant.1, c.join.ensures ∙ itself_more (set_count a.sets) a.n (start_of a.sets a.from.now) a.into.now t.x (search rules) t.invariant.2)

pub returns : goal.returns
returns c = let a = c.args in itself_all (set_count a.sets) a.n (start_of a.sets a.from.now) a.into.now c.loop-x.x (omega arith) c.loop-x.invariant.2
