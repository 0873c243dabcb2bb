-- `close_block` meets its contract. The invariant: the rows of the block lead through its nodes below k.
use Prim.Native.Nat.{◌*◌}
use native.Mathlib.Omega.{arith}
use Rattle.closure.specs.Closing.{RowsRoom}
use Rattle.closure.proofs.Blocks.{closing-node, closing-inner}
use borrow.Author.Rules.{rules}
use Rattle.closure.proofs.close_block.Goals as goal

pub loop-k-init : goal.loop-k-init
loop-k-init c =
    (search rules, omega (arith, c.args.block.made.from), c.requires.1, λ v u av ve au ua. absurd (omega arith))

pub take_node-requires : goal.take_node-requires
take_node-requires c =
    let pre = c.requires in
    (c.loop-k-test.true, record { few = pre.0.few; words = omega (arith, pre.0.words, c.loop-k.invariant.2.long) })

pub loop-k-preserved : goal.loop-k-preserved
loop-k-preserved c =
    let a = c.args in
    let b = a.block in
    let pre = c.requires in
    let t = c.loop-k in
    let l = c.loop-k-test.true in
    let room : RowsRoom b.n t.rows = record { few = pre.0.few; words = omega (arith, pre.0.words, t.invariant.2.long) } in (
      search rules,
      search rules,
      closing-node b.n (64 * b.number) b.end a.rows.now t.rows room b.made t.invariant.2 t.k t.invariant.0 l c.take_node.ensures,
      closing-inner b.n (64 * b.number) b.end a.rows.now t.rows room b.made t.invariant.2 t.k t.invariant.0 l c.take_node.ensures t.invariant.3,
    )

pub shape_of-rows : goal.shape_of-rows
shape_of-rows c = c.loop-k.invariant.2.long

pub returns : goal.returns
returns c =
    let a = c.args in
    let t = c.loop-k in
    (t.invariant.2, λ v u av ve au ue. t.invariant.3 v u av ve au (omega (arith, c.loop-k-test.false, t.invariant.1)))
