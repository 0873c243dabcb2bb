-- `first_unlisted` meets its contract. The invariant: what was found is the first after the facts that are left on the chain, of
-- whichever node the chain is.
use Prim.Native.Nat.{ℕ, suc, ◌-◌}
use mathlib.Core.Path.{◌≡◌, ap, ◌∙◌}
use native.Mathlib.Omega.{arith}
use Rattle.nodeset.specs.Words.{has}
use Rattle.tables.specs.Layout.{predicate_at}
use Rattle.tables.proofs.WellFormed.{sound}
use Rattle.conditions.proofs.Items.{before-is, sought_first, sought_falls, sought_more, sought_done}
use Rattle.conditions.proofs.first_unlisted.Goals as goal
use Rattle.conditions.proofs.first_unlisted.Goals.{After-test-listed}

pub loop-next-init : goal.loop-next-init
loop-next-init c = let a = c.args in λ v q. sought_first a.tables.cells.now a.tables.index.now a.tables.made (has a.links.now) v q

pub next_out-next-requires : goal.next_out-next-requires
next_out-next-requires c =
    let a = c.args in
    let l = c.loop-next in
    omega (arith, c.loop-next-test, (l.invariant a.v.0 c.last_out-next.ensures).low, (sound a.tables.cells.now a.tables.made.ok).facts)

-- whether the fact that is looked at is listed
listed_by : (c : After-test-listed) → let a = c.args in c.test-listed.result ≡ has a.links.now (predicate_at a.tables.cells.now (c.loop-next.next - 1))
listed_by c = let a = c.args in c.test-listed.ensures ∙ ap (has a.links.now) c.predicate.ensures

pub loop-next-smaller : goal.loop-next-smaller
loop-next-smaller c =
    let a = c.args in
    let l = c.loop-next in
    let i : ℕ = l.next - 1 in
    let q : l.next ≡ suc i = omega (arith, c.loop-next-test) in
    omega (arith, q, sought_falls a.tables.cells.now a.tables.index.now a.tables.made (has a.links.now) a.v.0 l.lowest i (l.invariant a.v.0 c.last_out-next.ensures) q (listed_by (goal.at.loop-next-smaller c).After-test-listed) c.pick-lowest.ensures c.next_out-next.ensures)

pub loop-next-preserved : goal.loop-next-preserved
loop-next-preserved c =
    let a = c.args in
    let l = c.loop-next in
    let i : ℕ = l.next - 1 in
    let q : l.next ≡ suc i = omega (arith, c.loop-next-test) in
    λ v e. sought_more a.tables.cells.now a.tables.index.now a.tables.made (has a.links.now) v l.lowest i (l.invariant v e) q (listed_by (goal.at.loop-next-preserved c).After-test-listed) c.pick-lowest.ensures c.next_out-next.ensures

pub returns : goal.returns
returns c =
    let a = c.args in
    let l = c.loop-next in
    before-is l.lowest c.checked_sub.result c.checked_sub.ensures ∙ sought_done a.tables.cells.now a.tables.index.now a.tables.made (has a.links.now) a.v.0 (let e : l.next ≡ 0 = omega (arith, c.loop-next-test) in e) (l.invariant a.v.0 c.last_out-next.ensures)
