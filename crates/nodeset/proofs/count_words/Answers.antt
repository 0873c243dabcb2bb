-- `count_words` meets its contract. The invariant: the total is the ones of the first 4 * i words; and these are the shared members.
use Prim.Native.Nat.{ℕ, ◌+◌, ◌*◌}
use mathlib.Core.Path.{◌≡◌, refl, ap, ◌∙◌}
use native.Mathlib.Omega.{arith}
use borrow.Author.Rules.{rules}
use Rattle.nodeset.specs.Words.{ones_both}
use Rattle.nodeset.proofs.Sets.{ones_both_lem, ones_both_le}
use Rattle.nodeset.proofs.count_words.Goals as goal

-- the words counted, four words more, and how many ones that can be
grown : (c : goal.After-ones_of_four-total) → c.loop-i.total + c.ones_of_four-total.result ≡ ones_both c.args.a.now c.args.b.now (4 * (c.loop-i.i + 1))
grown c =
    let a = c.args in
    ap (λ (x : ℕ). x + c.ones_of_four-total.result) c.loop-i.invariant.1 ∙ c.ones_of_four-total.ensures ∙ ap (ones_both a.a.now a.b.now) (let z : 4 * c.loop-i.i + 4 ≡ 4 * (c.loop-i.i + 1) = omega arith in z)

pub loop-i-init : goal.loop-i-init
unfolding ones_both
loop-i-init c = (search rules, refl)

pub ones_of_four-total-requires : goal.ones_of_four-total-requires
ones_of_four-total-requires c = omega (arith, c.loop-i-test.true)

pub overflow_add-total : goal.overflow_add-total
overflow_add-total c = omega (arith, grown c, c.loop-i-test.true, ones_both_le c.args.a.now c.args.b.now (4 * (c.loop-i.i + 1)) (λ i. (c.type_inv.b i).fits))

pub loop-i-preserved : goal.loop-i-preserved
loop-i-preserved c = (search rules, grown c)

pub returns : goal.returns
returns c =
    let a = c.args in
    let e : 4 * c.loop-i.i ≡ 16 = omega (arith, c.loop-i.invariant.0, c.loop-i-test.false) in
    c.loop-i.invariant.1 ∙ ap (ones_both a.a.now a.b.now) e ∙ ones_both_lem a.a.now a.b.now 16 (λ i. (c.type_inv.b i).fits)
