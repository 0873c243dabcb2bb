-- The two laws of a value for each number.
use Prim.Native.Nat.{ℕ, zero, suc, ◌<◌}
use mathlib.Core.Bool.{Bool, cond}
use mathlib.Core.Path.{◌≡◌, refl, sym, ap, ◌∙◌}
use mathlib.Core.Logic.{⊎_elim}
use native.Mathlib.Nat.{eq-or-lt_of_le, le_of_suc-le-suc}
use native.Mathlib.Omega.{arith}
use borrow.Author.Tests.{eq-eqb, ne_eqb}
use Rattle.base.specs.Numbered.{below, numbered}

module _ {A : Type 0} (d : A) (f : ℕ → (ℕ → A) → A) where
  -- a value is made from those of lower numbers
  pub at-number : (k : ℕ) → numbered d f k ≡ f k (below d f k)
  unfolding below numbered
  at-number k = ap (λ (b : Bool). cond b (f k (below d f k)) (below d f k k)) (eq-eqb k k refl)

  pub below-number : (n k : ℕ) → k < n → below d f n k ≡ numbered d f k
  unfolding below numbered
  below-number zero k l = absurd (omega arith)
  below-number (suc n) k l = ⊎_elim (λ e. ap (λ (m : ℕ). below d f (suc m) k) (sym e)) (λ l'. ap (λ (b : Bool). cond b (f n (below d f n)) (below d f n k)) (ne_eqb k n (λ e. let z : ⊥ = omega arith in z)) ∙ below-number n k l') (eq-or-lt_of_le (le_of_suc-le-suc l))
