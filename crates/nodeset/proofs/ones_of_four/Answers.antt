-- `ones_of_four` meets its contract.
use Prim.Native.Nat.{ℕ}
use mathlib.Core.Bool.{true, ◌&&◌}
use mathlib.Core.Path.{◌≡◌, sym, ap, ap₂, ◌∙◌}
use native.Mathlib.Omega.{arith}
use lib.Bits.{bit_and}
use lib.Count.{ones}
use lib.Dec.{eqb}
use borrow.Author.Tests.{eqb-true}
use Rattle.base.proofs.Bools.{and_left, and_right}
use Rattle.nodeset.proofs.Sets.{ones_four}
use Rattle.nodeset.proofs.ones_of_four.Goals as goal

none : (x : ℕ) → eqb x 0 ≡ true → 0 ≡ ones x
unfolding ones
none x e = sym (ap ones (eqb-true x 0 e))

pub returns-then-x-y : goal.returns-then-x-y
returns-then-x-y c =
    let t = c.if-x-y.true in
    let x = and_left (eqb (bit_and c.cell.result c.cell-2.result) 0) (eqb (bit_and c.cell-3.result c.cell-4.result) 0 && (eqb (bit_and c.cell-5.result c.cell-6.result) 0 && eqb (bit_and c.cell-7.result c.cell-8.result) 0)) t in
    let rest = and_right (eqb (bit_and c.cell.result c.cell-2.result) 0) (eqb (bit_and c.cell-3.result c.cell-4.result) 0 && (eqb (bit_and c.cell-5.result c.cell-6.result) 0 && eqb (bit_and c.cell-7.result c.cell-8.result) 0)) t in
    let y = and_left (eqb (bit_and c.cell-3.result c.cell-4.result) 0) (eqb (bit_and c.cell-5.result c.cell-6.result) 0 && eqb (bit_and c.cell-7.result c.cell-8.result) 0) rest in
    let last = and_right (eqb (bit_and c.cell-3.result c.cell-4.result) 0) (eqb (bit_and c.cell-5.result c.cell-6.result) 0 && eqb (bit_and c.cell-7.result c.cell-8.result) 0) rest in
    let z = and_left (eqb (bit_and c.cell-5.result c.cell-6.result) 0) (eqb (bit_and c.cell-7.result c.cell-8.result) 0) last in
    let w = and_right (eqb (bit_and c.cell-5.result c.cell-6.result) 0) (eqb (bit_and c.cell-7.result c.cell-8.result) 0) last in
    omega (arith, ones_four c.args.a.now c.args.b.now c.args.i, none (bit_and c.cell.result c.cell-2.result) x ∙ ap₂ (λ (x y : ℕ). ones (bit_and x y)) c.cell.ensures c.cell-2.ensures, none (bit_and c.cell-3.result c.cell-4.result) y ∙ ap₂ (λ (x y : ℕ). ones (bit_and x y)) c.cell-3.ensures c.cell-4.ensures, none (bit_and c.cell-5.result c.cell-6.result) z ∙ ap₂ (λ (x y : ℕ). ones (bit_and x y)) c.cell-5.ensures c.cell-6.ensures, none (bit_and c.cell-7.result c.cell-8.result) w ∙ ap₂ (λ (x y : ℕ). ones (bit_and x y)) c.cell-7.ensures c.cell-8.ensures)

pub returns : goal.returns
returns c = omega (arith, ones_four c.args.a.now c.args.b.now c.args.i, c.ones_of.ensures.0 ∙ ap₂ (λ (x y : ℕ). ones (bit_and x y)) c.cell.ensures c.cell-2.ensures, c.ones_of-2.ensures.0 ∙ ap₂ (λ (x y : ℕ). ones (bit_and x y)) c.cell-3.ensures c.cell-4.ensures, c.ones_of-3.ensures.0 ∙ ap₂ (λ (x y : ℕ). ones (bit_and x y)) c.cell-5.ensures c.cell-6.ensures, c.ones_of-4.ensures.0 ∙ ap₂ (λ (x y : ℕ). ones (bit_and x y)) c.cell-7.ensures c.cell-8.ensures)
