-- `combine_into` meets its contract. Before word i the words are those of the result, and from there on as they were.
use Prim.Native.Nat.{ℕ}
use mathlib.Core.Path.{ap, ◌∙◌}
use native.Mathlib.Omega.{arith}
use lib.ListN.{length, get_or}
use Rattle.nodeset.specs.Words.{bit, has}
use Rattle.nodeset.proofs.Sets.{own, up_to-none, up_to-all, combine_more}
use Rattle.nodeset.proofs.combine_into.Goals as goal

pub loop-i-init : goal.loop-i-init
loop-i-init g c keeps law =
    let a = c.args in
    up_to-none (λ m. keeps (has a.into.now m) (has a.from.now m)) (has a.into.now) (length a.into.now) (own a.into.now (λ i. (c.type_inv.into i).fits))

pub loop-i-preserved : goal.loop-i-preserved
loop-i-preserved g c keeps law =
    let a = c.args in
    let t = c.loop-i in
    combine_more keeps a.into.now a.from.now (length a.into.now) t.i c.op.result (t.invariant keeps law) (omega (arith, c.op.type_inv))
    (λ d. law (get_or t.into t.i 0) c.cell.result c.op.result c.op.ensures d ∙ ap (λ (y : ℕ). keeps (bit (get_or t.into t.i 0) d) (bit y d)) c.cell.ensures)

pub returns : goal.returns
returns g c keeps law =
    let a = c.args in
    up_to-all (λ m. keeps (has a.into.now m) (has a.from.now m)) (has a.into.now) (length a.into.now) c.loop-i.i (omega (arith, c.loop-i-test.false, c.loop-i.auto.i-end)) (c.loop-i.invariant keeps law)
