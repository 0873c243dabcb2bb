-- The test of two lists is their equality.
use Prim.Native.Nat.{ℕ}
use mathlib.Core.List.{List, [], ◌∷◌}
use mathlib.Core.Bool.{true, true≢false}
use mathlib.Core.Path.{◌≡◌, refl, sym, ap₂}
use lib.Dec.{eqb}
use borrow.Author.Tests.{eq-eqb, eqb-true}
use Rattle.base.specs.Bytes.{eql}
use Rattle.base.proofs.Bools.{and_left, and_right, and_both}

pub eql_true : (a b : List ℕ) → eql a b ≡ true → a ≡ b
unfolding eql
eql_true [] [] e = refl
eql_true [] (y ∷ b) e = absurd (true≢false (sym e))
eql_true (x ∷ a) [] e = absurd (true≢false (sym e))
eql_true (x ∷ a) (y ∷ b) e = ap₂ (λ (n : ℕ) (l : List ℕ). n ∷ l) (eqb-true x y (and_left (eqb x y) (eql a b) e)) (eql_true a b (and_right (eqb x y) (eql a b) e))

pub eql-refl : (a : List ℕ) → eql a a ≡ true
unfolding eql
eql-refl [] = refl
eql-refl (x ∷ a) = and_both (eqb x x) (eql a a) (eq-eqb x x refl) (eql-refl a)
