-- `pass` meets its contract.
use Prim.Native.Nat.{◌*◌}
use native.Mathlib.Omega.{arith}
use Rattle.closure.proofs.Blocks.{block_of, closing_block}
use Rattle.closure.proofs.pass.Goals as goal

pub invariant_of-block : goal.invariant_of-block
invariant_of-block c = let a = c.args in record { made = block_of a.n (64 * a.j) c.min.result c.requires.1 c.min.ensures }

pub close_block-requires : goal.close_block-requires
close_block-requires c = let pre = c.requires in (pre.0, pre.2)

pub busy_bits-busy-requires : goal.busy_bits-busy-requires
busy_bits-busy-requires c = let pre = c.requires in record { few = pre.0.few; words = omega (arith, pre.0.words, c.close_block.ensures.0.long) }

pub spread_block-requires : goal.spread_block-requires
spread_block-requires c =
    let pre = c.requires in
    let done = c.close_block.ensures in
    (record { few = pre.0.few; words = omega (arith, pre.0.words, done.0.long) }, record { within = done.0.within; inner = done.1 }, c.busy_bits-busy.ensures)

pub returns : goal.returns
returns c =
    let a = c.args in
    let pre = c.requires in
    let done = c.close_block.ensures in
    closing_block a.n (64 * a.j) c.min.result a.rows.now c.close_block.new.rows (record { few = pre.0.few; words = omega (arith, pre.0.words, done.0.long) }) (block_of a.n (64 * a.j) c.min.result pre.1 c.min.ensures) done.0 done.1 c.spread_block.ensures
