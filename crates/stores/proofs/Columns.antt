-- Stores at the next places of a column, where a tail follows the columns.
use Prim.Native.Nat.{ℕ, zero, suc, ◌+◌, ◌≤◌, ◌<◌}
use mathlib.Core.List.{List, [], ◌∷◌, ◌++◌, append-nil, append_assoc}
use mathlib.Core.Bool.{true}
use mathlib.Core.Path.{◌≡◌, refl, sym, ap, ◌∙◌}
use native.Mathlib.Omega.{arith}
use lib.Dec.{eqb}
use lib.ListN.{length, get_or, set, take, drop, replicate, length-append, length-replicate}
use lib.Seq.{ext_get_or, set-append_left, sets, sets-eq}
use Rattle.base.specs.Lists.{allb}
use Rattle.base.specs.Columns.{Column, pad, flat, offset, column, push}
use Rattle.base.proofs.Lists.{values_ext}
use Rattle.base.proofs.Columns.{set-flat, length-flat}
use Rattle.text.specs.Pool.{store}
use Rattle.encoding.proofs.Places.{at_blank}
use Rattle.encoding.proofs.Names.{same_everywhere}

-- the columns with more items in column k
abbrev pub extend : {A : Type 0} → List (Column A) → ℕ → List A → List (Column A)
extend [] k xs = []
extend (c ∷ cs) zero xs = record { width = c.width; items = c.items ++ xs } ∷ cs
extend (c ∷ cs) (suc k) xs = c ∷ extend cs k xs

module _ {A : Type 0} where
  extend_none : (cs : List (Column A)) (k : ℕ) → extend cs k [] ≡ cs
  extend_none [] k = refl
  extend_none (c ∷ cs) zero = ap (λ (l : List A). record { width = c.width; items = l } ∷ cs) (append-nil c.items)
  extend_none (c ∷ cs) (suc k) = ap (λ (l : List (Column A)). c ∷ l) (extend_none cs k)

  extend_push : (cs : List (Column A)) (k : ℕ) (x : A) (xs : List A) → extend (push cs k x) k xs ≡ extend cs k (x ∷ xs)
  extend_push [] k x xs = refl
  extend_push (c ∷ cs) zero x xs = ap (λ (l : List A). record { width = c.width; items = l } ∷ cs) (append_assoc c.items (x ∷ []) xs)
  extend_push (c ∷ cs) (suc k) x xs = ap (λ (l : List (Column A)). c ∷ l) (extend_push cs k x xs)

  push-offset : (cs : List (Column A)) (k j : ℕ) (x : A) → offset (push cs k x) j ≡ offset cs j
  push-offset [] k j x = refl
  push-offset (c ∷ cs) zero zero x = refl
  push-offset (c ∷ cs) zero (suc j) x = refl
  push-offset (c ∷ cs) (suc k) zero x = refl
  push-offset (c ∷ cs) (suc k) (suc j) x = ap (λ (n : ℕ). c.width + n) (push-offset cs k j x)

  push-width : (cs : List (Column A)) (k : ℕ) (x : A) → (column (push cs k x) k).width ≡ (column cs k).width
  push-width [] k x = refl
  push-width (c ∷ cs) zero x = refl
  push-width (c ∷ cs) (suc k) x = push-width cs k x

  push-length : (cs : List (Column A)) (k : ℕ) (x : A) → 0 < (column cs k).width → length (column (push cs k x) k).items ≡ length (column cs k).items + 1
  push-length [] k x h = absurd (omega arith)
  push-length (c ∷ cs) zero x h = length-append c.items (x ∷ [])
  push-length (c ∷ cs) (suc k) x h = push-length cs k x h

  -- a column stands within all columns
  pub column-inside : (cs : List (Column A)) (k : ℕ) → offset cs k + (column cs k).width ≤ offset cs (length cs)
  column-inside [] k = omega arith
  column-inside (c ∷ cs) zero = omega arith
  column-inside (c ∷ cs) (suc k) = omega (arith, column-inside cs k)

module _ {A : Type 0} (d : A) (t : List A) where
  -- one store
  pub put : (cs : List (Column A)) (k i : ℕ) (x : A) → i ≡ length (column cs k).items → i < (column cs k).width → set (flat d cs ++ t) (offset cs k + i) x ≡ flat d (push cs k x) ++ t
  put cs k i x e l =
      set-append_left (flat d cs) t (offset cs k + i) x (omega (arith, column-inside cs k, length-flat d cs))
      ∙ ap (λ (s : List A). s ++ t) (ap (λ (j : ℕ). set (flat d cs) (offset cs k + j) x) e ∙ set-flat d cs k x (omega arith))

  -- a row of three
  module _ (cs : List (Column A)) (j k l n : ℕ) (x y z : A) where
    pub put₃ : n ≡ length (column cs j).items → n < (column cs j).width
        → n ≡ length (column (push cs j x) k).items → n < (column (push cs j x) k).width
        → n ≡ length (column (push (push cs j x) k y) l).items → n < (column (push (push cs j x) k y) l).width
        → set (set (set (flat d cs ++ t) (offset cs j + n) x) (offset (push cs j x) k + n) y) (offset (push (push cs j x) k y) l + n) z ≡ flat d (push (push (push cs j x) k y) l z) ++ t
    put₃ e₁ h₁ e₂ h₂ e₃ h₃ =
        let c₁ = push cs j x in
        let c₂ = push c₁ k y in
        ap (λ (s : List A). set (set s (offset c₁ k + n) y) (offset c₂ l + n) z) (put cs j n x e₁ h₁)
        ∙ ap (λ (s : List A). set s (offset c₂ l + n) z) (put c₁ k n y e₂ h₂)
        ∙ put c₂ l n z e₃ h₃

  -- stores one after the other
  pub puts : (cs : List (Column A)) (k i : ℕ) (xs : List A) → i ≡ length (column cs k).items → i + length xs ≤ (column cs k).width → sets (flat d cs ++ t) (offset cs k + i) xs ≡ flat d (extend cs k xs) ++ t
  puts cs k i [] e l = ap (λ (s : List (Column A)). flat d s ++ t) (sym (extend_none cs k))
  puts cs k i (x ∷ xs) e l =
      let n : suc (offset cs k + i) ≡ offset (push cs k x) k + suc i = omega (arith, push-offset cs k k x) in
      ap (λ (s : List A). sets s (suc (offset cs k + i)) xs) (put cs k i x e (omega arith))
      ∙ ap (λ (j : ℕ). sets (flat d (push cs k x) ++ t) j xs) n
      ∙ puts (push cs k x) k (suc i) xs (omega (arith, push-length cs k x (omega arith))) (omega (arith, push-width cs k x))
      ∙ ap (λ (s : List (Column A)). flat d s ++ t) (extend_push cs k x xs)

-- a store of several at once
pub store-next : (cs : List (Column ℕ)) (t : List ℕ) (k i : ℕ) (xs : List ℕ) → i ≡ length (column cs k).items → i + length xs ≤ (column cs k).width → store (flat 0 cs ++ t) (offset cs k + i) xs ≡ flat 0 (extend cs k xs) ++ t
unfolding store
store-next cs t k i xs e l =
    let s = flat 0 cs ++ t in
    let j = offset cs k + i in
    sym (append_assoc (take j s) xs (drop (j + length xs) s))
    ∙ sym (sets-eq xs s j (omega (arith, column-inside cs k, length-flat 0 cs, length-append (flat 0 cs) t)))
    ∙ puts 0 t cs k i xs e l

module _ {A : Type 0} (d : A) where
  -- the default at the end of a column says nothing
  default_last : (xs : List A) (i : ℕ) → get_or (xs ++ (d ∷ [])) i d ≡ get_or xs i d
  default_last [] zero = refl
  default_last [] (suc i) = refl
  default_last (x ∷ xs) zero = refl
  default_last (x ∷ xs) (suc i) = default_last xs i

  pub push_default : (cs : List (Column A)) (k : ℕ) → flat d (push cs k d) ≡ flat d cs
  unfolding flat pad
  push_default [] k = refl
  push_default (c ∷ cs) zero = ap (λ (l : List A). l ++ flat d cs) (values_ext (λ i. get_or (c.items ++ (d ∷ [])) i d) (λ i. get_or c.items i d) 0 c.width (λ j _. default_last c.items j))
  push_default (c ∷ cs) (suc k) = ap (λ (l : List A). pad d c.width c.items ++ l) (push_default cs k)

  -- columns without items
  pub blank : (cs : List (Column A)) → allb (λ c. eqb (length c.items) 0) cs ≡ true → replicate (offset cs (length cs)) d ≡ flat d cs
  blank cs e =
      let n = offset cs (length cs) in
      ext_get_or d (replicate n d) (flat d cs) (length-replicate n d ∙ sym (length-flat d cs)) (λ i _. same_everywhere d n i ∙ sym (at_blank d cs e i))
