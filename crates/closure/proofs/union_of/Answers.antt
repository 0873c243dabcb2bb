-- `union_of` meets its contract. The invariant: the rows of the nodes that are left no longer have joined.
use Prim.Native.Nat.{◌+◌, ◌*◌, ◌-◌}
use mathlib.Core.Path.{refl, sym, ◌∙◌}
use native.Mathlib.Nat.{le_of_eq}
use native.Mathlib.Omega.{arith}
use lib.Arith.{le-zero}
use lib.ListN.{length, drop, length-take, length-drop}
use Rattle.nodeset.proofs.Sets.{length_of}
use Rattle.closure.proofs.Gains.{joined, joined_none, joined_more, joined_all}
use Rattle.closure.proofs.Digits.{drop-one, drop-less, drop_sub}
use Rattle.closure.proofs.union_of.Goals as goal

pub loop-left-init : goal.loop-left-init
loop-left-init c = let a = c.args in (λ d h. h, joined_none a.from.now a.j a.x)

pub overflow_mul-at : goal.overflow_mul-at
overflow_mul-at c = omega (arith, c.requires.0)

pub overflow_add-at : goal.overflow_add-at
overflow_add-at c = omega (arith, c.requires.0, c.digit-d.ensures.0)

pub overflow_mul-at-in-loop-left : goal.overflow_mul-at-in-loop-left
overflow_mul-at-in-loop-left c = omega (arith, c.requires.0, c.digit-d.ensures.0)

pub slice_bounds-take_row-end : goal.slice_bounds-take_row-end
slice_bounds-take_row-end c = let a = c.args in let t = c.loop-left in sym (length_of (joined a.from.now a.j a.x t.left) 16 t.invariant.1)

pub slice_bounds-take_row-count : goal.slice_bounds-take_row-count
slice_bounds-take_row-count c = omega (arith, c.requires.1 c.digit-d.result c.digit-d.ensures.0 (c.loop-left.invariant.0 c.digit-d.result c.digit-d.ensures.1))

pub take_row-requires : goal.take_row-requires
take_row-requires c =
    let a = c.args in
    let t = c.loop-left in
    let d = c.digit-d in
    let at = 16 * (64 * a.j + d.result) in
    let room = c.requires.1 d.result d.ensures.0 (t.invariant.0 d.result d.ensures.1) in
    (le_of_eq (sym (length_of (joined a.from.now a.j a.x t.left) 16 t.invariant.1)), omega (arith, room, length-take (length a.from.now - at) (drop at a.from.now), length-drop at a.from.now))

pub overflow_shl-left : goal.overflow_shl-left
overflow_shl-left c = omega (arith, c.digit-d.ensures.0)

pub loop-left-smaller : goal.loop-left-smaller
loop-left-smaller c = let d = c.digit-d in drop-less c.loop-left.left d.result d.ensures.0 d.ensures.1

pub loop-left-preserved : goal.loop-left-preserved
loop-left-preserved c =
    let a = c.args in
    let t = c.loop-left in
    let d = c.digit-d in
    (λ y h. t.invariant.0 y (drop_sub t.left d.result d.ensures.0 y h), c.take_row.ensures ∙ joined_more a.from.now a.j a.x t.left _ d.result _ d.ensures.0 d.ensures.1 (t.invariant.0 d.result d.ensures.1) (drop-one t.left d.result d.ensures.0) refl t.invariant.1)

pub returns : goal.returns
returns c = let a = c.args in joined_all a.from.now a.j a.x c.loop-left.left (le-zero c.loop-left-test.false) c.loop-left.invariant.1
