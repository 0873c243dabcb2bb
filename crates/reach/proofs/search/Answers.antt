-- `search` meets its contract. The invariant: the level is that after count rounds, and no number below count had settled.
use Prim.Native.Nat.{ℕ, ◌+◌, ◌<◌}
use mathlib.Core.Bool.{false}
use mathlib.Core.Path.{◌≡◌, sym, ◌∙◌}
use native.Mathlib.Omega.{arith}
use Rattle.base.proofs.Least.{none_more}
use Rattle.closure.specs.Rows.{leads}
use Rattle.model.specs.Rounds.{settled, rounds}
use Rattle.model.proofs.Rounds.{unsettled_low, rounds-found}
use Rattle.reach.proofs.Levels.{After, after_none, after_more, none_new, reached-all}
use Rattle.reach.proofs.search.Goals as goal
use Rattle.reach.proofs.search.Goals.{After-next-level, Else-none_below, Then-none_below}

pub loop-nodes-init : goal.loop-nodes-init
loop-nodes-init c =
    let a = c.args in
    let pre = c.requires in
    (after_none a.relation.rows.now a.relation.n a.v a.relation.few a.relation.within pre c.start-level.ensures.0 c.start-level.ensures.1, λ j l. absurd (omega arith))

-- the level after one round more
level-after : (c : After-next-level) → let a = c.args in After (leads a.relation.rows.now) a.relation.n a.v (c.loop-nodes.count + 1) c.next-level.result.reached.words c.next-level.result.frontier.words
level-after c =
    let a = c.args in
    let pre = c.requires in
    after_more a.relation.rows.now a.relation.n a.v a.relation.few a.relation.within pre c.loop-nodes.invariant.0 c.next-level.ensures.words_value c.next-level.ensures.words_value_2

-- the count is the number of rounds
counted : (c : Then-none_below) → let a = c.args in rounds (leads a.relation.rows.now) a.relation.n a.v ≡ c.loop-nodes.count
counted c =
    let a = c.args in
    let pre = c.requires in
    let t = c.loop-nodes in
    rounds-found (leads a.relation.rows.now) a.relation.n a.v pre t.count t.invariant.1 (sym (none_new a.relation.rows.now a.relation.n a.v a.relation.few a.relation.within pre t.count (level-after (goal.at.Then-none_below c).After-next-level)) ∙ sym c.none_below.ensures ∙ c.if-none_below.true)

pub returns-then-none_below : goal.returns-then-none_below
returns-then-none_below c =
    let a = c.args in
    let pre = c.requires in
    record { rounds_value = sym (counted (goal.at.returns-then-none_below c).Then-none_below); words_value = reached-all a.relation.rows.now a.relation.n a.v a.relation.few a.relation.within pre c.loop-nodes.count (level-after (goal.at.returns-then-none_below c).After-next-level) (counted (goal.at.returns-then-none_below c).Then-none_below) }

-- no number up to this one has settled
still_growing : (c : Else-none_below) → let a = c.args in (j : ℕ) → j < c.loop-nodes.count + 1 → settled (leads a.relation.rows.now) a.relation.n a.v j ≡ false
still_growing c =
    let a = c.args in
    let pre = c.requires in
    let t = c.loop-nodes in
    none_more (settled (leads a.relation.rows.now) a.relation.n a.v) t.count t.invariant.1 (sym (none_new a.relation.rows.now a.relation.n a.v a.relation.few a.relation.within pre t.count (level-after (goal.at.Else-none_below c).After-next-level)) ∙ sym c.none_below.ensures ∙ c.if-none_below.false)

-- so there are more nodes
more-nodes : (c : Else-none_below) → c.loop-nodes.count + 1 < c.args.relation.n
more-nodes c = let a = c.args in unsettled_low (leads a.relation.rows.now) a.relation.n a.v c.requires (c.loop-nodes.count + 1) (still_growing c)

pub overflow_add-count : goal.overflow_add-count
overflow_add-count c = omega (arith, more-nodes (goal.at.overflow_add-count c).Else-none_below, c.args.relation.few)

pub loop-nodes-smaller : goal.loop-nodes-smaller
loop-nodes-smaller c = omega (arith, more-nodes (goal.at.loop-nodes-smaller c).Else-none_below)

pub loop-nodes-preserved : goal.loop-nodes-preserved
loop-nodes-preserved c = (level-after (goal.at.loop-nodes-preserved c).After-next-level, still_growing (goal.at.loop-nodes-preserved c).Else-none_below)
