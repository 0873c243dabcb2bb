-- `close` meets its contract. The invariant: the rows lead through the nodes of the blocks below j.
use Prim.Native.Nat.{ℕ, ◌+◌, ◌*◌}
use mathlib.Core.Path.{◌≡◌, subst}
use native.Mathlib.Omega.{arith}
use Rattle.closure.specs.Closing.{Closing}
use Rattle.closure.proofs.Blocks.{closing-start, closing_again, closing-on, closing_done, blocks_of}
use borrow.Author.Rules.{rules}
use Rattle.closure.proofs.close.Goals as goal

pub loop-j-init : goal.loop-j-init
loop-j-init c = let a = c.args in (search rules, closing-start a.n a.rows.now c.requires.2)

pub pass-requires : goal.pass-requires
pass-requires c =
    let a = c.args in
    let pre = c.requires in
    let t = c.loop-j in
    (record { few = pre.0; words = omega (arith, pre.1, t.invariant.1.long) }, omega (arith, c.loop-j-test.true, (blocks_of c.args.n c.div_ceil-blocks.result c.div_ceil-blocks.ensures).1), closing_again a.n (64 * t.j) a.rows.now t.rows t.invariant.1)

pub overflow_step-j : goal.overflow_step-j
overflow_step-j c = omega (arith, c.loop-j-test.true, (blocks_of c.args.n c.div_ceil-blocks.result c.div_ceil-blocks.ensures).1, c.requires.0)

pub loop-j-preserved : goal.loop-j-preserved
loop-j-preserved c =
    let a = c.args in
    let t = c.loop-j in
    (search rules, subst (λ (i : ℕ). Closing a.n i a.rows.now c.pass.new.rows) (let z : 64 * t.j + 64 ≡ 64 * (t.j + 1) = omega arith in z) (closing-on a.n (64 * t.j) (64 * t.j + 64) a.rows.now t.rows c.pass.new.rows t.invariant.1 c.pass.ensures))

pub shape_of-rows : goal.shape_of-rows
shape_of-rows c = c.loop-j.invariant.1.long

pub returns : goal.returns
returns c =
    let a = c.args in
    let t = c.loop-j in
    closing_done a.n (64 * t.j) a.rows.now t.rows (omega (arith, c.loop-j-test.false, t.invariant.0, (blocks_of c.args.n c.div_ceil-blocks.result c.div_ceil-blocks.ensures).0)) t.invariant.1
