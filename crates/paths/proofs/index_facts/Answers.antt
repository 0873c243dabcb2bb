-- `index_facts` meets its contract. The invariant: the first i facts are in their chains.
use Prim.Native.Nat.{ℕ, ◌+◌, ◌<◌}
use mathlib.Core.Path.{◌≡◌, refl, sym, ap, ◌∙◌, subst}
use native.Mathlib.Omega.{arith}
use lib.Dec.{ltb}
use lib.ListN.{get_or}
use borrow.Author.Tests.{ltb-true}
use borrow.Author.Rules.{rules}
use Rattle.base.proofs.Bounded.{every-at}
use Rattle.chains.specs.Chains.{linked}
use Rattle.paths.specs.Facts.{Made}
use Rattle.paths.proofs.Indexes.{made_none, made_more}
use Rattle.paths.proofs.index_facts.Goals as goal

pub loop-i-init : goal.loop-i-init
loop-i-init c = let a = c.args in (search rules, refl, made_none a.keys.now a.slots a.heads c.requires.5)

pub overflow_add-heads : goal.overflow_add-heads
overflow_add-heads c = omega (arith, c.requires.0, c.requires.1)

pub offset_bounds-keys-i : goal.offset_bounds-keys-i
offset_bounds-keys-i c = omega (arith, c.loop-i-test.true, c.requires.2)

pub bounds-keys-i : goal.bounds-keys-i
bounds-keys-i c = omega (arith, c.loop-i-test.true, c.requires.3)

pub link-requires : goal.link-requires
link-requires c =
    let a = c.args in
    let pre = c.requires in
    let t = c.loop-i in
    let h : get_or a.keys.now t.i 0 < a.slots = ltb-true (get_or a.keys.now t.i 0) a.slots (every-at (λ i. ltb (get_or a.keys.now i 0) a.slots) a.len pre.4 t.i c.loop-i-test.true) in
    let l : t.i < a.len = c.loop-i-test.true in
    (omega (arith, t.invariant.1, h, c.wide.ensures, pre.0), omega (arith, t.invariant.1, l, pre.0), omega (arith, l, pre.2))

pub loop-i-preserved : goal.loop-i-preserved
loop-i-preserved c =
    let a = c.args in
    let pre = c.requires in
    let t = c.loop-i in
    let h : get_or a.keys.now t.i 0 < a.slots = ltb-true (get_or a.keys.now t.i 0) a.slots (every-at (λ i. ltb (get_or a.keys.now i 0) a.slots) a.len pre.4 t.i c.loop-i-test.true) in
    let l : t.i < a.len = c.loop-i-test.true in
    (omega arith, c.link.auto.index ∙ t.invariant.1, subst (Made a.keys.now (t.i + 1) a.slots a.heads (a.heads + a.slots) a.index.now) (sym (c.link.ensures ∙ ap (λ (k : ℕ). linked t.index a.heads (a.heads + a.slots) k t.i) c.wide.ensures)) (made_more a.keys.now a.slots a.heads t.i h (omega (arith, t.invariant.1, l, pre.0)) t.invariant.2))

pub shape_of-index : goal.shape_of-index
shape_of-index c = c.loop-i.invariant.1

pub returns : goal.returns
returns c = let a = c.args in let e : c.loop-i.i ≡ a.len = omega (arith, c.loop-i.invariant.0, c.loop-i-test.false) in subst (λ (k : ℕ). Made a.keys.now k a.slots a.heads (a.heads + a.slots) a.index.now c.loop-i.index) e c.loop-i.invariant.2
