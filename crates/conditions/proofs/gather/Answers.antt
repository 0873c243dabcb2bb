-- `gather` meets its contract. The invariant: the first count places have the members before x.
use mathlib.Core.Bool.{◌&&◌}
use mathlib.Core.Path.{refl, ◌∙◌}
use native.Mathlib.Omega.{arith}
use lib.ListN.{length-set}
use Rattle.base.proofs.Least.{next-after}
use Rattle.nodeset.specs.Words.{has}
use Rattle.conditions.proofs.Listing.{gathering_none, gathering_more, gathering_done, listed-alone}
use Rattle.conditions.proofs.gather.Goals as goal

pub loop-x-init : goal.loop-x-init
loop-x-init c = let a = c.args in (refl, gathering_none (λ m. has a.a.now m && has a.b.now m) a.n a.into.now c.next_shared-x.ensures)

pub loop-x-smaller : goal.loop-x-smaller
loop-x-smaller c = let a = c.args in omega (arith, next-after (λ m. has a.a.now m && has a.b.now m) {x = c.loop-x.x} (omega (arith, c.loop-x-test)) c.next_shared-x-in-loop-x.ensures, c.loop-x-test)

pub loop-x-preserved : goal.loop-x-preserved
loop-x-preserved c = let a = c.args in let l = c.loop-x in (length-set l.into l.count l.x ∙ l.invariant.0, gathering_more (λ m. has a.a.now m && has a.b.now m) a.n l.invariant.1 (omega (arith, c.loop-x-test, l.invariant.0, l.invariant.1.few, c.requires)) (omega (arith, c.loop-x-test)) c.next_shared-x-in-loop-x.ensures)

pub returns : goal.returns
returns c =
    let a = c.args in
    let l = c.loop-x in
    listed-alone l.into (omega (arith, l.invariant.0, l.invariant.1.few, l.invariant.1.within, c.requires)) (gathering_done (λ m. has a.a.now m && has a.b.now m) a.n l.invariant.1 (omega (arith, c.loop-x-test)))
