-- `take_block` meets its contract. The invariant: the rows of the nodes that are left no longer are taken in.
use Prim.Native.Nat.{◌+◌, ◌*◌}
use mathlib.Core.Path.{refl, sym, ◌∙◌}
use native.Mathlib.Nat.{le_of_eq}
use native.Mathlib.Omega.{arith}
use lib.Arith.{le-zero}
use lib.ListN.{get_or}
use Rattle.nodeset.proofs.Sets.{length_of}
use Rattle.closure.specs.Rows.{leads}
use Rattle.closure.proofs.Blocks.{left-start, left-node, left-more, left_less, left_done}
use Rattle.closure.proofs.Digits.{drop-digit}
use Rattle.closure.proofs.take_block.Goals as goal

pub overflow_mul-left : goal.overflow_mul-left
overflow_mul-left c = let pre = c.requires in omega (arith, pre.0, pre.1.few)

pub overflow_add-left : goal.overflow_add-left
overflow_add-left c = let pre = c.requires in omega (arith, pre.0, pre.1.few, c.args.block.made.from, c.args.block.made.end)

pub offset_bounds-rows-v : goal.offset_bounds-rows-v
offset_bounds-rows-v c = let pre = c.requires in omega (arith, pre.0, pre.1.few)

pub bounds-rows-v : goal.bounds-rows-v
bounds-rows-v c = let pre = c.requires in omega (arith, pre.0, pre.1.few, pre.1.words, c.args.block.made.from, c.args.block.made.end)

pub loop-left-init : goal.loop-left-init
loop-left-init c =
    let a = c.args in
    let pre = c.requires in
    (refl, left-start a.block.n a.block.number a.block.end a.rows.now pre.1 a.block.made pre.2 a.v pre.0 (get_or a.rows.now (16 * a.v + a.block.number) 0) a.busy (λ i. (c.type_inv.rows i).fits) pre.3 refl)

pub overflow_mul-block : goal.overflow_mul-block
overflow_mul-block c = let pre = c.requires in omega (arith, pre.1.few, c.args.block.made.from, c.args.block.made.end)

pub overflow_add-block : goal.overflow_add-block
overflow_add-block c = let pre = c.requires in omega (arith, pre.1.few, c.args.block.made.from, c.args.block.made.end, c.digit-d.ensures.0)

pub row_of-row-requires : goal.row_of-row-requires
row_of-row-requires c =
    let a = c.args in
    let pre = c.requires in
    let t = c.loop-left in
    let k = left-node a.block.n a.block.number a.block.end a.rows.now pre.1 a.block.made pre.2 a.v pre.0 t.invariant.1 c.digit-d.result c.digit-d.ensures.0 c.digit-d.ensures.1 in
    omega (arith, k, pre.1.words, c.args.block.made.end, t.invariant.0)

pub take_row-requires : goal.take_row-requires
take_row-requires c =
    let pre = c.requires in
    (omega (arith, pre.0, pre.1.words, c.loop-left.invariant.0), le_of_eq (sym (length_of (leads c.loop-left.rows (64 * c.args.block.number + c.digit-d.result)) 16 c.row_of-row.ensures)))

pub bounds-words-block : goal.bounds-words-block
bounds-words-block c = let pre = c.requires in omega (arith, pre.1.few, c.args.block.made.from, c.args.block.made.end)

pub overflow_shl-left : goal.overflow_shl-left
overflow_shl-left c = omega (arith, c.digit-d.ensures.0)

pub loop-left-smaller : goal.loop-left-smaller
loop-left-smaller c =
    let a = c.args in
    let pre = c.requires in
    let d = c.digit-d in
    left_less a.block.n a.block.number a.block.end a.rows.now pre.1 a.block.made pre.2 a.v pre.0 _ d.result c.loop-left.invariant.1 d.ensures.0 d.ensures.1 c.row_of-row.ensures (drop-digit c.loop-left.left (get_or c.row_of-row.result.words a.block.number 0) d.result d.ensures.0)

pub loop-left-preserved : goal.loop-left-preserved
loop-left-preserved c =
    let a = c.args in
    let pre = c.requires in
    let d = c.digit-d in
    (c.take_row.auto.rows ∙ c.loop-left.invariant.0, left-more a.block.n a.block.number a.block.end a.rows.now pre.1 a.block.made pre.2 a.v pre.0 _ d.result c.loop-left.invariant.1 d.ensures.0 d.ensures.1 c.row_of-row.ensures (drop-digit c.loop-left.left (get_or c.row_of-row.result.words a.block.number 0) d.result d.ensures.0) c.take_row.ensures)

pub returns : goal.returns
returns c =
    let a = c.args in
    let pre = c.requires in
    left_done a.block.n a.block.number a.block.end a.rows.now pre.1 a.block.made pre.2 a.v pre.0 c.loop-left.invariant.1 (le-zero c.loop-left-test.false)
