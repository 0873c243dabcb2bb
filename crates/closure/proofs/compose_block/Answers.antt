-- `compose_block` meets its contract. The invariant: the rows below v have gained, and sum is what the nodes lead to that the last of them has.
use Prim.Native.Nat.{ℕ}
use mathlib.Core.Path.{◌≡◌, refl, sym, ap, ◌∙◌}
use native.Mathlib.Nat.{le_of_eq}
use native.Mathlib.Omega.{arith}
use lib.Bits.{bit_and}
use Rattle.nodeset.proofs.Sets.{length_of}
use Rattle.closure.specs.Closing.{gained, union_of, by_word, in_first}
use Rattle.closure.proofs.Gains.{union-start, word_none, word_more, part-named}
use borrow.Author.Rules.{rules}
use Rattle.closure.proofs.compose_block.Goals as goal

pub loop-v-init : goal.loop-v-init
loop-v-init c = let a = c.args in (search rules, refl, union-start a.from.now a.j, word_none a.into.now a.rows.now a.from.now a.j a.mask (λ i. (c.type_inv.into i).fits))

pub overflow_mul-v : goal.overflow_mul-v
overflow_mul-v c = omega (arith, c.loop-v-test.true, c.requires.1.few)

pub overflow_add-v : goal.overflow_add-v
overflow_add-v c = omega (arith, c.loop-v-test.true, c.requires.1.few, c.requires.0)

pub union_after-sum-requires : goal.union_after-sum-requires
union_after-sum-requires c = let a = c.args in let pre = c.requires in (c.loop-v.invariant.2, pre.0, part-named a.j c.cell.result a.mask a.from.now pre.2)

pub take_if-requires : goal.take_if-requires
take_if-requires c =
    let a = c.args in
    let pre = c.requires in
    (omega (arith, c.loop-v-test.true, c.loop-v.invariant.1, pre.1.words), le_of_eq (sym (length_of (union_of a.from.now a.j (bit_and c.cell.result a.mask)) 16 c.union_after-sum.ensures)))

pub loop-v-preserved : goal.loop-v-preserved
loop-v-preserved c =
    let a = c.args in
    let t = c.loop-v in
    let x = bit_and c.cell.result a.mask in
    (search rules, c.take_if.auto.rows ∙ t.invariant.1, c.union_after-sum.ensures, c.take_if.ensures ∙ word_more a.into.now a.rows.now a.from.now a.j a.mask t.v x (ap (λ (y : ℕ). bit_and y a.mask) c.cell.ensures) refl c.union_after-sum.ensures t.invariant.3)

pub returns : goal.returns
returns c =
    let a = c.args in
    let t = c.loop-v in
    let e : t.v ≡ a.n = omega (arith, c.loop-v-test.false, t.invariant.0) in
    t.invariant.3 ∙ ap (λ (i : ℕ). gained a.into.now (in_first i (by_word a.rows.now a.from.now a.j a.mask))) e
