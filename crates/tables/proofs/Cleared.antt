-- A loop that stores one value from the front up to a limit; and what a cleared list holds.
use Prim.Native.Nat.{ℕ, zero, suc, ◌+◌, ◌≤◌, ◌<◌, zero-le}
use mathlib.Core.List.{List, [], ◌∷◌, ◌++◌}
use mathlib.Core.Path.{◌≡◌, refl, sym, ap, ◌∙◌}
use native.Mathlib.Nat.{not-suc-le-zero, le_of_suc-le-suc}
use native.Mathlib.Numerals.{add-one}
use native.Mathlib.Omega.{arith}
use lib.ListN.{length, set, drop, replicate, length-set, length-replicate}
use lib.Seq.{drop_at}
use Rattle.tables.specs.Sizes.{cleared}

module _ {A : Type 0} (z : A) where
  -- the first i of a list are stored, n are to be
  abbrev pub Filled : List A → ℕ → List A → ℕ → Type 0
  Filled l n m i = (i ≤ n) × (m ≡ replicate i z ++ drop i l) × (length m ≡ length l)

  pub filled_none : (l : List A) (n : ℕ) → Filled l n l 0
  filled_none l n = (zero-le, refl, refl)

  stored : (i : ℕ) (l : List A) → i < length l → set (replicate i z ++ drop i l) i z ≡ replicate (suc i) z ++ drop (suc i) l
  stored i [] h = absurd (not-suc-le-zero h)
  stored zero (x ∷ l) h = refl
  stored (suc i) (x ∷ l) h = ap (λ (t : List A). z ∷ t) (stored i l (le_of_suc-le-suc h))

  pub filled_more : (l m : List A) (n i : ℕ) → Filled l n m i → i < n → i < length l → Filled l n (set m i z) (i + 1)
  filled_more l m n i f h g = (omega arith, rw (add-one i, f.1) (stored i l g), length-set m i z ∙ f.2)

  pub filled-all : (limit : ℕ) (l m : List A) (i : ℕ) → Filled l limit m i → limit ≤ i → m ≡ cleared limit z l
  unfolding cleared
  filled-all limit l m i f h = let e : i ≡ limit = omega (arith, f.0) in f.1 ∙ ap (λ (n : ℕ). replicate n z ++ drop n l) e

module _ {A : Type 0} (limit : ℕ) (z : A) where
  pub cleared-past : (l : List A) → drop limit (cleared limit z l) ≡ drop limit l
  unfolding cleared
  cleared-past l = drop_at (replicate limit z) (drop limit l) limit (length-replicate limit z)

  -- only what is past the limit counts
  pub cleared-same : (l m : List A) → drop limit l ≡ drop limit m → cleared limit z l ≡ cleared limit z m
  unfolding cleared
  cleared-same l m e = ap (λ (t : List A). replicate limit z ++ t) e

  -- what was cleared is as it is when it is cleared again
  pub cleared_again : (l m : List A) → m ≡ cleared limit z l → m ≡ cleared limit z m
  cleared_again l m e = e ∙ cleared-same l m (sym (ap (drop limit) e ∙ cleared-past l))
