-- `spread_block` meets its contract. The invariant: the rows below v have taken in theirs.
use Prim.Native.Nat.{ℕ, ◌*◌}
use mathlib.Core.Path.{◌≡◌, refl, ap, ◌∙◌}
use native.Mathlib.Omega.{arith}
use Rattle.closure.specs.Rows.{leads}
use Rattle.closure.specs.Closing.{gained, in_first, across}
use Rattle.closure.proofs.Blocks.{spread_none, spread_blocked, spread_busy, spread_more}
use borrow.Author.Rules.{rules}
use Rattle.closure.proofs.spread_block.Goals as goal

pub loop-v-init : goal.loop-v-init
loop-v-init c =
    let a = c.args in
    let pre = c.requires in
    (search rules, refl, spread_none a.block.n a.block.number a.block.end a.rows.now pre.0 a.block.made pre.1 (λ i. (c.type_inv.rows i).fits))

pub take_block-requires : goal.take_block-requires
take_block-requires c =
    let a = c.args in
    let pre = c.requires in
    let t = c.loop-v in
    (c.loop-v-test.true, record { few = pre.0.few; words = omega (arith, pre.0.words, t.invariant.1) }, spread_blocked a.block.n a.block.number a.block.end a.rows.now pre.0 a.block.made pre.1 t.v t.invariant.0 t.invariant.2, spread_busy a.block.n a.block.number a.block.end a.rows.now pre.0 a.block.made pre.1 t.v t.invariant.0 t.invariant.2 a.busy pre.2)

pub loop-v-preserved : goal.loop-v-preserved
loop-v-preserved c =
    let a = c.args in
    let pre = c.requires in
    let t = c.loop-v in
    (search rules, c.take_block.auto.rows ∙ t.invariant.1, c.take_block.ensures ∙ spread_more a.block.n a.block.number a.block.end a.rows.now pre.0 a.block.made pre.1 t.v t.invariant.0 t.invariant.2 c.loop-v-test.true)

pub returns : goal.returns
returns c =
    let a = c.args in
    let t = c.loop-v in
    let e : t.v ≡ a.block.n = omega (arith, c.loop-v-test.false, t.invariant.0) in
    t.invariant.2 ∙ ap (λ (i : ℕ). gained a.rows.now (in_first i (across (leads a.rows.now) (64 * a.block.number) a.block.end))) e
