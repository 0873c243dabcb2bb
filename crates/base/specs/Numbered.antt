-- A value for each number, made from the values of lower numbers. What is asked of a number that is not lower is the
-- default, so no definition by this scheme needs its tables to be well formed.
use Rattle.std.specs.Prelude.{ℕ, zero, suc, cond, eqb}

module _ {A : Type 0} (d : A) (f : ℕ → (ℕ → A) → A) where
  -- the values of the numbers below n
  unfoldable pub below : ℕ → ℕ → A
  below zero k = d
  below (suc n) k = cond (eqb k n) (f n (below n)) (below n k)

  -- the value of number k
  unfoldable pub numbered : ℕ → A
  numbered k = below (suc k) k
