-- `first_met` meets its contract. The invariant: the level is that after so many rounds, none of which had reached a spare.
use Prim.Native.Nat.{ℕ, ◌+◌, ◌<◌}
use mathlib.Core.Bool.{false}
use mathlib.Core.Path.{◌≡◌, sym}
use native.Mathlib.Omega.{arith}
use Rattle.base.proofs.Least.{none_more}
use Rattle.nodeset.specs.Words.{has}
use Rattle.nodeset.proofs.Sets.{length_of}
use Rattle.closure.specs.Rows.{leads}
use Rattle.model.specs.Nearest.{spare_within}
use Rattle.model.proofs.Rounds.{rounds-low}
use Rattle.model.proofs.Nearest.{within-few}
use Rattle.reach.proofs.Levels.{at_distance, after_none, after_more}
use Rattle.nearest.proofs.Searching.{met, not-met}
use Rattle.nearest.proofs.first_met.Goals as goal
use Rattle.nearest.proofs.first_met.Goals.{Else-node-relation}

pub loop-wanted-init : goal.loop-wanted-init
loop-wanted-init c =
    let a = c.args in
    let pre = c.requires in
    (after_none a.relation.rows.now a.relation.n a.v a.relation.few a.relation.within pre.0 c.start-level.ensures.0 c.start-level.ensures.1, λ j l. absurd (omega arith))

pub slice_bounds-next_shared-end : goal.slice_bounds-next_shared-end
slice_bounds-next_shared-end c =
    let a = c.args in
    sym (length_of (at_distance (leads a.relation.rows.now) a.relation.n a.v c.loop-wanted.hops) 16 c.loop-wanted.invariant.0.new)

pub returns-then-node-relation-clause-node_value : goal.returns-then-node-relation-clause-node_value
returns-then-node-relation-clause-node_value c =
    let a = c.args in
    let pre = c.requires in
    let t = c.loop-wanted in
    met a.relation.rows.now a.relation.n a.v a.relation.few a.relation.within pre.0 a.spares.words t.invariant.0 t.invariant.1 c.next_shared-node.ensures c.if-node-relation.true

-- no spare within so many repetitions
still : (c : Else-node-relation) → let a = c.args in (j : ℕ) → j < c.loop-wanted.hops + 1 → spare_within (leads a.relation.rows.now) (has a.spares.words) a.relation.n a.v j ≡ false
still c =
    let a = c.args in
    let pre = c.requires in
    let t = c.loop-wanted in
    none_more (spare_within (leads a.relation.rows.now) (has a.spares.words) a.relation.n a.v) t.hops t.invariant.1 (not-met a.relation.rows.now a.relation.n a.v a.relation.few a.relation.within pre.0 a.spares.words t.invariant.0 t.invariant.1 c.next_shared-node.ensures c.if-node-relation.false)

-- so there are more nodes
more-nodes : (c : Else-node-relation) → c.loop-wanted.hops + 1 < c.args.relation.n
more-nodes c =
    let a = c.args in
    let pre = c.requires in
    omega (arith, within-few (leads a.relation.rows.now) (has a.spares.words) a.relation.n a.v pre.0 pre.1 (c.loop-wanted.hops + 1) (still c), rounds-low (leads a.relation.rows.now) a.relation.n a.v pre.0)

pub overflow_add-hops : goal.overflow_add-hops
overflow_add-hops c = omega (arith, more-nodes (goal.at.overflow_add-hops c).Else-node-relation, c.args.relation.few)

pub loop-wanted-smaller : goal.loop-wanted-smaller
loop-wanted-smaller c = omega (arith, more-nodes (goal.at.loop-wanted-smaller c).Else-node-relation)

pub loop-wanted-preserved : goal.loop-wanted-preserved
loop-wanted-preserved c =
    let a = c.args in
    let pre = c.requires in
    (after_more a.relation.rows.now a.relation.n a.v a.relation.few a.relation.within pre.0 c.loop-wanted.invariant.0 c.next-level.ensures.words_value c.next-level.ensures.words_value_2, still (goal.at.loop-wanted-preserved c).Else-node-relation)
