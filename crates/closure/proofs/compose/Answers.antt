-- `compose` meets its contract. The invariant: the rows have gained by the blocks below j.
use Prim.Native.Nat.{◌*◌, ◌<◌}
use mathlib.Core.Path.{refl, ◌∙◌}
use native.Mathlib.Omega.{arith}
use Rattle.closure.proofs.Gains.{composed-none, composed-more, composed-all, mask_named}
use Rattle.closure.proofs.Blocks.{blocks_of}
use borrow.Author.Rules.{rules}
use Rattle.closure.proofs.compose.Goals as goal

pub loop-j-init : goal.loop-j-init
loop-j-init c = let a = c.args in (search rules, refl, composed-none a.into.now a.rows.now a.from.now a.n (λ i. (c.type_inv.into i).fits))

pub bounds-masks-j : goal.bounds-masks-j
bounds-masks-j c = omega (arith, c.loop-j-test.true, (blocks_of c.args.n c.div_ceil-blocks.result c.div_ceil-blocks.ensures).1, c.requires.0)

pub compose_block-requires : goal.compose_block-requires
compose_block-requires c =
    let a = c.args in
    let pre = c.requires in
    let t = c.loop-j in
    let l : t.j < 16 = omega (arith, c.loop-j-test.true, (blocks_of c.args.n c.div_ceil-blocks.result c.div_ceil-blocks.ensures).1, pre.0) in
    (l, record { few = pre.0; words = omega (arith, pre.1, t.invariant.1) }, mask_named a.n t.j a.from.now l c.whole-nodes.ensures pre.2)

pub overflow_step-j : goal.overflow_step-j
overflow_step-j c = omega (arith, c.loop-j-test.true, (blocks_of c.args.n c.div_ceil-blocks.result c.div_ceil-blocks.ensures).1, c.requires.0)

pub loop-j-preserved : goal.loop-j-preserved
loop-j-preserved c =
    let a = c.args in
    let t = c.loop-j in
    let l : t.j < 16 = omega (arith, c.loop-j-test.true, (blocks_of c.args.n c.div_ceil-blocks.result c.div_ceil-blocks.ensures).1, c.requires.0) in
    (search rules, c.compose_block.auto.into ∙ t.invariant.1, c.compose_block.ensures ∙ composed-more a.into.now a.rows.now a.from.now a.n t.j l c.whole-nodes.ensures t.invariant.2)

pub returns : goal.returns
returns c =
    let a = c.args in
    let t = c.loop-j in
    composed-all a.into.now a.rows.now a.from.now a.n (64 * t.j) (omega (arith, c.loop-j-test.false, t.invariant.0, (blocks_of c.args.n c.div_ceil-blocks.result c.div_ceil-blocks.ensures).0)) t.invariant.2
