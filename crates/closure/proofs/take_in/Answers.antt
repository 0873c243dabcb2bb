-- `take_in` meets its contract. The invariant: the words before word i are taken in.
use Prim.Native.Nat.{ℕ, ◌+◌, ◌*◌, ◌<◌}
use mathlib.Core.List.{List}
use mathlib.Core.Path.{refl, ap, ◌∙◌}
use native.Mathlib.Omega.{arith}
use lib.Bits.{bit_or}
use lib.ListN.{get_or, set, length-set}
use lib.Seq.{get_or-take, length-take-le}
use borrow.Author.Rules.{rules}
use Rattle.closure.proofs.Gains.{taken_none, taken_more, taken-all}
use Rattle.closure.proofs.take_in.Goals as goal

pub loop-i-init : goal.loop-i-init
loop-i-init c = let a = c.args in (search rules, refl, taken_none a.rows.now a.v a.from.now c.requires.2)

pub loop-i-preserved : goal.loop-i-preserved
loop-i-preserved c =
    let a = c.args in
    let t = c.loop-i in
    let from : List ℕ = a.from.now in
    let l : t.i < 16 = omega (arith, c.loop-i-test.true, length-take-le 16 from c.requires.1) in (
      omega (arith, l),
      length-set t.rows _ _ ∙ t.invariant.1,
      ap (λ (x : ℕ). set t.rows (16 * a.v + t.i) (bit_or (get_or t.rows (16 * a.v + t.i) 0) x)) (get_or-take 16 from t.i 0 l) ∙ taken_more a.rows.now a.v from t.i l (c.type_inv.from t.i).fits t.invariant.2,
    )

pub returns : goal.returns
returns c = let a = c.args in let t = c.loop-i in taken-all a.rows.now a.v a.from.now t.i (omega (arith, c.loop-i-test.false, t.invariant.0, length-take-le 16 a.from.now c.requires.1)) t.invariant.2
