-- `take_node` meets its contract. The invariant: the rows below v that have k have taken in row k.
use Prim.Native.Nat.{ℕ, ◌≤◌, ◌<◌, ◌+◌, ◌*◌}
use mathlib.Core.Path.{◌≡◌, refl, sym, ap, ◌∙◌}
use native.Mathlib.Nat.{le_of_eq}
use native.Mathlib.Omega.{arith}
use lib.ListN.{length}
use Rattle.nodeset.proofs.Sets.{length_of}
use Rattle.closure.specs.Rows.{leads}
use Rattle.closure.specs.Closing.{gained, by_node}
use Rattle.closure.proofs.Gains.{node-none, node-more}
use borrow.Author.Rules.{rules}
use Rattle.closure.proofs.take_node.Goals as goal

pub row_of-row-requires : goal.row_of-row-requires
row_of-row-requires c = let room = c.requires.1 in omega (arith, c.requires.0, c.args.block.made.end, room.words)

pub loop-v-init : goal.loop-v-init
loop-v-init c = let a = c.args in (search rules, omega (arith, a.block.made.from), refl, node-none a.rows.now a.k (64 * a.block.number) (λ i. (c.slice_known-1.given i).fits))

pub overflow_mul-v : goal.overflow_mul-v
overflow_mul-v c = omega (arith, c.loop-v-test.true, c.args.block.made.end, c.requires.1.few)

pub overflow_add-v : goal.overflow_add-v
overflow_add-v c = omega (arith, c.loop-v-test.true, c.requires.0, c.args.block.made.end, c.requires.1.few)

pub take_if-requires : goal.take_if-requires
take_if-requires c =
    let a = c.args in
    (omega (arith, c.loop-v-test.true, c.loop-v.invariant.2, a.block.made.end, c.requires.1.words), le_of_eq (sym (length_of (leads a.rows.now a.k) 16 c.row_of-row.ensures)))

pub loop-v-preserved : goal.loop-v-preserved
loop-v-preserved c =
    let a = c.args in
    let pre = c.requires in
    let t = c.loop-v in
    let l = c.loop-v-test.true in
    let lk : a.k < 1024 = omega (arith, pre.0, a.block.made.end, pre.1.few) in
    let room : 16 * t.v + 16 ≤ length a.rows.now = omega (arith, l, a.block.made.end, pre.1.words) in
    (search rules, search rules, c.take_if.auto.rows ∙ t.invariant.2, c.take_if.ensures ∙ node-more a.rows.now a.k (64 * a.block.number) t.v lk t.invariant.0 room c.row_of-row.ensures t.invariant.3 c.test-yes.ensures)

pub returns : goal.returns
returns c = let a = c.args in let t = c.loop-v in let e : t.v ≡ a.block.end = omega (arith, c.loop-v-test.false, t.invariant.1) in t.invariant.3 ∙ ap (λ (i : ℕ). gained a.rows.now (by_node (leads a.rows.now) a.k (64 * a.block.number) i)) e
