-- The stored name of a node: what stands before the first zero in its bytes.
use Prim.Native.Nat.{ℕ, suc, ◌+◌, ◌≤◌}
use mathlib.Core.List.{List, [], ◌∷◌}
use mathlib.Core.Bool.{Bool, true, false, not, cond}
use mathlib.Core.Path.{◌≡◌, refl, sym, ap, ◌∙◌}
use native.Mathlib.Omega.{arith}
use lib.Dec.{eqb, ltb}
use lib.ListN.{length, take}
use Rattle.std.specs.Prelude.{Option, Some, None}
use Rattle.std.specs.List.{before_first, position, position_or_len}
use Rattle.std.specs.Option.{unwrap_or}
use Rattle.std.proofs.lemmas.List.{take_all}
use borrow.Author.Tests.{ltb-false}
use Rattle.tables.specs.Names.{before_zero}

step : (b : Bool) (x : ℕ) (s : List ℕ) (n : ℕ) → take (cond (not b) (1 + n) 0) (x ∷ s) ≡ cond b [] (x ∷ take n s)
step true x s n = refl
step false x s n = let e : 1 + n ≡ suc n = omega arith in ap (λ (k : ℕ). take k (x ∷ s)) e

-- the library's word for it
pub before_zero_is : (s : List ℕ) → before_first (λ b. eqb b 0) s ≡ before_zero s
unfolding before_zero
before_zero_is [] = refl
before_zero_is (x ∷ s) = step (eqb x 0) x s (position_or_len (λ b. eqb b 0) s) ∙ ap (λ (t : List ℕ). cond (eqb x 0) [] (x ∷ t)) (before_zero_is s)

-- what the code finds in so many bytes
pub named : (s : List ℕ) (n : ℕ) → length s ≡ n → take (unwrap_or (position (λ b. eqb b 0) s) n) s ≡ before_zero s
named s n e = by_test (ltb k (length s)) refl ∙ before_zero_is s
  where
    k : ℕ
    k = position_or_len (λ b. eqb b 0) s

    by_test : (b : Bool) → b ≡ ltb k (length s) → take (unwrap_or (cond {A = Option ℕ} b (Some k) None) n) s ≡ take k s
    by_test true h = refl
    by_test false h = let past : length s ≤ k = ltb-false k (length s) (sym h) in take_all n s (omega arith) ∙ sym (take_all k s past)
