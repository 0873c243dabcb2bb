-- Lists by number: what a function gives for each number, what a list that grew still has, and columns read back.
use Prim.Native.Nat.{ℕ, zero, suc, ◌+◌, ◌-◌, ◌≤◌, ◌<◌}
use mathlib.Core.List.{List, [], ◌∷◌, ◌++◌, map, append-nil, append_assoc}
use mathlib.Core.Bool.{Bool, true}
use mathlib.Core.Path.{◌≡◌, refl, sym, ap, ◌∙◌, subst}
use native.Mathlib.Nat.{zero-add, add_assoc}
use native.Mathlib.Omega.{arith}
use lib.Dec.{eqb, ltb}
use lib.ListN.{length, get_or, take, drop, length-append, get_or-append, get_or-eq_default}
use lib.Seq.{ext_get_or, slice, length-slice, get_or-take, get_or-drop, get_or-append-add, get_or-append_seam}
use borrow.Author.Tests.{eqb-true, ltb-true, ltb-false}
use Rattle.base.specs.Lists.{allb, values_from, values}
use Rattle.base.specs.Columns.{Column, pad, flat, offset, column}
use Rattle.base.proofs.Bools.{bool_cases, and_left, and_right}
use Rattle.base.proofs.Lists.{length-values_from, at-values_from, Extends}
use Rattle.base.proofs.Columns.{at-flat, at-pad, length-pad}

-- a place below n or not
pub below_or : (P : Type 0) (i n : ℕ) → (i < n → P) → (n ≤ i → P) → P
below_or P i n f g = bool_cases (λ b. ltb i n ≡ b → P) (ltb i n) (λ _ e. f (ltb-true i n e)) (λ _ e. g (ltb-false i n e)) refl

pub at_map : {A B : Type 0} (f : A → B) (xs : List A) (i : ℕ) (d : A) (e : B) → i < length xs → get_or (map f xs) i e ≡ f (get_or xs i d)
at_map f [] i d e l = absurd (omega arith)
at_map f (x ∷ xs) zero d e l = refl
at_map f (x ∷ xs) (suc i) d e l = at_map f xs i d e (omega arith)

pub any_default : {A : Type 0} (xs : List A) (i : ℕ) (d e : A) → i < length xs → get_or xs i d ≡ get_or xs i e
any_default [] i d e l = absurd (omega arith)
any_default (x ∷ xs) zero d e l = refl
any_default (x ∷ xs) (suc i) d e l = any_default xs i d e (omega arith)

-- P holds of each item of xs with its number
abbrev pub ByNumber : {A : Type 0} → (ℕ → A → Type 0) → List A → Type 0
ByNumber {A} P xs = (i : ℕ) (d : A) → i < length xs → P i (get_or xs i d)

pub by_number-none : {A : Type 0} (P : ℕ → A → Type 0) → ByNumber P []
by_number-none P i d l = absurd (omega arith)

-- one item more
pub by_number_snoc : {A : Type 0} (P : ℕ → A → Type 0) (xs : List A) (x : A) → ByNumber P xs → P (length xs) x → ByNumber P (xs ++ (x ∷ []))
by_number_snoc {A} P xs x h e i d l =
    below_or (P i (get_or (xs ++ (x ∷ [])) i d)) i (length xs)
    (λ k. subst (P i) (sym (get_or-append xs (x ∷ []) d i k)) (h i d k))
    (λ k. let q : i ≡ length xs = omega (arith, length-append xs (x ∷ [])) in
    subst (λ (j : ℕ). P j (get_or (xs ++ (x ∷ [])) j d)) (sym q) (subst (P (length xs)) (sym (get_or-append_seam xs x [] d)) e))

-- f gives the items of xs by their numbers; p holds of each with its number
abbrev pub Gives : {A : Type 0} → (ℕ → A) → List A → Type 0
Gives f = ByNumber (λ i x. f i ≡ x)

abbrev pub Each : {A : Type 0} → (ℕ → A → Bool) → List A → Type 0
Each p = ByNumber (λ i x. p i x ≡ true)

module _ {A : Type 0} (f : ℕ → A) where
  pub gives-front : (xs ys : List A) → Gives f (xs ++ ys) → Gives f xs
  gives-front xs ys h i d l = h i d (omega (arith, length-append xs ys)) ∙ get_or-append xs ys d i l

  pub gives_back : (xs ys : List A) → Gives f (xs ++ ys) → (j : ℕ) (d : A) → j < length ys → f (length xs + j) ≡ get_or ys j d
  gives_back xs ys h j d l = h (length xs + j) d (omega (arith, length-append xs ys)) ∙ get_or-append-add xs ys j d

  pub gives-end : (xs : List A) (x : A) → Gives f (xs ++ (x ∷ [])) → f (length xs) ≡ x
  gives-end xs x h = h (length xs) x (omega (arith, length-append xs (x ∷ []))) ∙ get_or-append_seam xs x [] x

  -- as many values of f from number i on
  pub values_from-is : (i : ℕ) (xs : List A) → ((j : ℕ) (d : A) → j < length xs → f (i + j) ≡ get_or xs j d) → values_from f i (length xs) ≡ xs
  unfolding values_from
  values_from-is i [] h = refl
  values_from-is i (x ∷ xs) h =
      ext_get_or x (values_from f i (length (x ∷ xs))) (x ∷ xs) (length-values_from f i (length (x ∷ xs))) (λ j l.
      let l' : j < length (x ∷ xs) = omega (arith, length-values_from f i (length (x ∷ xs))) in
      at-values_from f i (length (x ∷ xs)) j x l' ∙ h j x l')

  pub values-is : (n : ℕ) (xs : List A) → n ≡ length xs → Gives f xs → values f n ≡ xs
  values-is n xs e h = ap (values f) e ∙ values_from-is 0 xs (λ j d l. ap f (zero-add j) ∙ h j d l)

-- a part of a list, by its places
pub slice_is : {A : Type 0} (d : A) (l w : List A) (f : ℕ) → f + length w ≤ length l → ((j : ℕ) → j < length w → get_or l (f + j) d ≡ get_or w j d) → slice f (f + length w) l ≡ w
slice_is d l w f h e =
    let t = f + length w in
    ext_get_or d (slice f t l) w (omega (arith, length-slice f t l h)) (λ j k.
    let k' : j < length w = omega (arith, length-slice f t l h) in
    get_or-drop f (take t l) j d ∙ get_or-take t l (f + j) d (omega arith) ∙ e j k')

module _ {A : Type 0} where
  pub extends_refl : (xs : List A) → Extends xs xs
  extends_refl xs = ([], sym (append-nil xs))

  pub extends_more : (xs t : List A) → Extends xs (xs ++ t)
  extends_more xs t = (t, refl)

  pub extends_trans : (xs ys zs : List A) → Extends xs ys → Extends ys zs → Extends xs zs
  extends_trans xs ys zs (t, e) (u, q) = (t ++ u, q ∙ ap (λ (l : List A). l ++ u) e ∙ append_assoc xs t u)

  pub extends_length : (xs ys : List A) → Extends xs ys → length xs ≤ length ys
  extends_length xs ys (t, e) = omega (arith, ap length e, length-append xs t)

  pub gives-before : (f : ℕ → A) (xs ys : List A) → Extends xs ys → Gives f ys → Gives f xs
  gives-before f xs ys (t, e) h = gives-front f xs t (subst (Gives f) e h)

-- ---- columns
module _ {A : Type 0} (d : A) where
  -- a place that no item takes has the default
  pub at_unused : (cs : List (Column A)) (k i : ℕ) → i < (column cs k).width → length (column cs k).items ≤ i → get_or (flat d cs) (offset cs k + i) d ≡ d
  at_unused cs k i l u = at-flat d cs k i l ∙ get_or-eq_default (column cs k).items d u

  -- a column of rows: place i has the field of row i
  pub at-column : {X : Type 0} (cs : List (Column A)) (k : ℕ) (f : X → A) (xs : List X) → (column cs k).items ≡ map f xs → length xs ≤ (column cs k).width → (i : ℕ) (x : X) → i < length xs → get_or (flat d cs) (offset cs k + i) d ≡ f (get_or xs i x)
  at-column cs k f xs e w i x l = at-flat d cs k i (omega arith) ∙ ap (λ (l : List A). get_or l i d) e ∙ at_map f xs i x d l

  pub at-items : (cs : List (Column A)) (k : ℕ) (xs : List A) → (column cs k).items ≡ xs → length xs ≤ (column cs k).width → Gives (λ i. get_or (flat d cs) (offset cs k + i) d) xs
  at-items cs k xs e w i x l = at-flat d cs k i (omega arith) ∙ ap (λ (l : List A). get_or l i d) e ∙ any_default xs i d x l

  -- from column k on
  pub at_rest : (cs : List (Column A)) (k i : ℕ) → get_or (flat d cs) (offset cs k + i) d ≡ get_or (flat d (drop k cs)) i d
  unfolding flat
  at_rest [] zero i = refl
  at_rest [] (suc k) i = refl
  at_rest (c ∷ cs) zero i = ap (λ (j : ℕ). get_or (flat d (c ∷ cs)) j d) (zero-add i)
  at_rest (c ∷ cs) (suc k) i =
      let xs = pad d c.width c.items in
      ap (λ (j : ℕ). get_or (xs ++ flat d cs) j d) (add_assoc c.width (offset cs k) i ∙ ap (λ (j : ℕ). j + (offset cs k + i)) (sym (length-pad d c.width c.items)))
      ∙ get_or-append-add xs (flat d cs) (offset cs k + i) d
      ∙ at_rest cs k i

  -- where all that follows the first column is the default, its items are all there is
  pub at_first : (c : Column A) (cs : List (Column A)) → length c.items ≤ c.width → ((i : ℕ) → get_or (flat d cs) i d ≡ d) → (i : ℕ) → get_or (flat d (c ∷ cs)) i d ≡ get_or c.items i d
  unfolding flat
  at_first c cs w h i =
      let xs = pad d c.width c.items in
      let n : length xs ≡ c.width = length-pad d c.width c.items in
      below_or (get_or (xs ++ flat d cs) i d ≡ get_or c.items i d) i c.width
      (λ l. get_or-append xs (flat d cs) d i (omega arith) ∙ at-pad d c.width c.items i l)
      (λ l. let e : i ≡ length xs + (i - length xs) = omega arith in
      ap (λ (j : ℕ). get_or (xs ++ flat d cs) j d) e ∙ get_or-append-add xs (flat d cs) (i - length xs) d ∙ h (i - length xs) ∙ sym (get_or-eq_default c.items d (omega arith)))

  -- columns without items
  pub at_blank : (cs : List (Column A)) → allb (λ c. eqb (length c.items) 0) cs ≡ true → (i : ℕ) → get_or (flat d cs) i d ≡ d
  unfolding flat allb
  at_blank [] h i = refl
  at_blank (c ∷ cs) h i =
      let z : length c.items ≡ 0 = eqb-true (length c.items) 0 (and_left _ _ h) in
      at_first c cs (omega arith) (at_blank cs (and_right (eqb (length c.items) 0) _ h)) i ∙ get_or-eq_default c.items d (omega arith)
