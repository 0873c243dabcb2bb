-- `busy_bits` meets its contract. The invariant: the bits of the rows below v are there.
use Prim.Native.Nat.{◌*◌}
use native.Mathlib.Omega.{arith}
use Rattle.closure.proofs.Gains.{busy_more}
use borrow.Author.Rules.{rules}
use Rattle.closure.proofs.busy_bits.Goals as goal

pub loop-v-init : goal.loop-v-init
loop-v-init c = (search rules, omega (arith, c.args.block.made.from), λ u w a l h k. absurd (omega arith))

pub busy_bit-x-requires : goal.busy_bit-x-requires
busy_bit-x-requires c = omega (arith, c.loop-v-test.true, c.args.block.made.end, c.requires.words)

pub loop-v-preserved : goal.loop-v-preserved
loop-v-preserved c = let a = c.args in let t = c.loop-v in (search rules, search rules, busy_more a.rows.now (64 * a.block.number) t.v t.x c.busy_bit-x.result t.invariant.2 c.busy_bit-x.ensures)

pub returns : goal.returns
returns c = let a = c.args in let t = c.loop-v in λ u w k l. t.invariant.2 u w k (omega (arith, c.loop-v-test.false))
