-- `member`, `anyb`, `allb` and `ascending` of lists put together, and of lists as sets; the list of a function's values.
use Prim.Native.Nat.{ℕ, zero, suc, ◌+◌, ◌<◌}
use mathlib.Core.List.{List, [], ◌∷◌, ◌++◌, map}
use mathlib.Core.Bool.{Bool, true, not, ◌&&◌, ◌||◌, or_assoc, and_assoc, or-true, not-not}
use mathlib.Core.Path.{◌≡◌, refl, sym, ap, ap₂, ◌∙◌}
use mathlib.Core.Logic.{⊎_elim}
use native.Mathlib.Nat.{add-zero, zero-add, suc-add, add-suc}
use native.Mathlib.Omega.{arith}
use lib.Dec.{eqb, ltb}
use lib.ListN.{length, get_or, replicate}
use Rattle.base.specs.Bounded.{some}
use Rattle.base.specs.Lists.{member, anyb, allb, values_from, values, ascending}
use Rattle.base.proofs.Bools.{and_left, and_right, and_both, or_cases, or_known, same_test, not_or}

-- zeros, whatever their number
pub zeros_at : (n i : ℕ) → get_or {A = ℕ} (replicate n 0) i 0 ≡ 0
zeros_at zero i = refl
zeros_at (suc n) zero = refl
zeros_at (suc n) (suc i) = zeros_at n i

pub member_append : (x : ℕ) (a b : List ℕ) → member x (a ++ b) ≡ (member x a || member x b)
unfolding member
member_append x [] b = refl
member_append x (y ∷ a) b = ap (λ (c : Bool). eqb x y || c) (member_append x a b) ∙ sym (or_assoc (eqb x y) (member x a) (member x b))

pub allb_append : {A : Type 0} (p : A → Bool) (a b : List A) → allb p (a ++ b) ≡ (allb p a && allb p b)
unfolding allb
allb_append p [] b = refl
allb_append p (y ∷ a) b = ap (λ (c : Bool). p y && c) (allb_append p a b) ∙ sym (and_assoc (p y) (allb p a) (allb p b))

-- a greater number at the end
pub ascending_snoc : (l : List ℕ) (n : ℕ) → ascending l ≡ true → allb (λ v. ltb v n) l ≡ true → ascending (l ++ (n ∷ [])) ≡ true
unfolding ascending allb
ascending_snoc [] n e h = refl
ascending_snoc (x ∷ l) n e h =
    and_both (allb (λ y. ltb x y) (l ++ (n ∷ []))) (ascending (l ++ (n ∷ [])))
    (allb_append (λ y. ltb x y) l (n ∷ []) ∙ and_both (allb (λ y. ltb x y) l) (ltb x n && true) (and_left (allb (λ y. ltb x y) l) (ascending l) e) (and_both (ltb x n) true (and_left (ltb x n) (allb (λ v. ltb v n) l) h) refl))
    (ascending_snoc l n (and_right (allb (λ y. ltb x y) l) (ascending l) e) (and_right (ltb x n) (allb (λ v. ltb v n) l) h))

pub anyb_append : {A : Type 0} (p : A → Bool) (a b : List A) → anyb p (a ++ b) ≡ (anyb p a || anyb p b)
unfolding anyb
anyb_append p [] b = refl
anyb_append p (y ∷ a) b = ap (λ (c : Bool). p y || c) (anyb_append p a b) ∙ sym (or_assoc (p y) (anyb p a) (anyb p b))

module _ {A : Type 0} (f : ℕ → A) where
  pub length-values_from : (i n : ℕ) → length (values_from f i n) ≡ n
  unfolding values_from
  length-values_from i zero = refl
  length-values_from i (suc n) = ap suc (length-values_from (suc i) n)

  pub at-values_from : (i n j : ℕ) (d : A) → j < n → get_or (values_from f i n) j d ≡ f (i + j)
  unfolding values_from
  at-values_from i zero j d l = absurd (omega arith)
  at-values_from i (suc n) zero d l = ap f (sym (add-zero i))
  at-values_from i (suc n) (suc j) d l = at-values_from (suc i) n j d (omega arith) ∙ ap f (suc-add i j ∙ sym (add-suc i j))

  pub at-values : (n j : ℕ) (d : A) → j < n → get_or (values f n) j d ≡ f j
  at-values n j d l = at-values_from 0 n j d l ∙ ap f (zero-add j)

  -- one value more
  pub values_from_snoc : (i n : ℕ) → values_from f i (suc n) ≡ values_from f i n ++ (f (i + n) ∷ [])
  unfolding values_from
  values_from_snoc i zero = ap (λ (k : ℕ). f k ∷ []) (sym (add-zero i))
  values_from_snoc i (suc n) = ap (λ (l : List A). f i ∷ l) (values_from_snoc (suc i) n ∙ ap (λ (k : ℕ). values_from f (suc i) n ++ (f k ∷ [])) (suc-add i n ∙ sym (add-suc i n)))

  -- a test of some value is a test of some number
  pub any-values : (p : A → Bool) (n : ℕ) → anyb p (values f n) ≡ some (λ i. p (f i)) n
  unfolding anyb some values_from
  any-values p zero = refl
  any-values p (suc n) =
      ap (anyb p) (values_from_snoc 0 n) ∙ anyb_append p (values f n) (f (0 + n) ∷ [])
      ∙ ap₂ (λ (a b : Bool). a || b) (any-values p n) (mathlib.Core.Bool.or-false (p (f (0 + n))) ∙ ap (λ (k : ℕ). p (f k)) (zero-add n))
      ∙ mathlib.Core.Bool.or_comm (some (λ i. p (f i)) n) (p (f n))

pub values_ext : {A : Type 0} (f g : ℕ → A) (i n : ℕ) → ((j : ℕ) → j < i + n → f j ≡ g j) → values_from f i n ≡ values_from g i n
unfolding values_from
values_ext f g i zero h = refl
values_ext {A} f g i (suc n) h = ap₂ (λ (x : A) (l : List A). x ∷ l) (h i (omega arith)) (values_ext f g (suc i) n (λ j l. h j (omega arith)))

-- `allb` is "for every place"
module _ {A : Type 0} (p : A → Bool) where
  pub allb-at : (l : List A) (d : A) → allb p l ≡ true → (i : ℕ) → i < length l → p (get_or l i d) ≡ true
  unfolding allb
  allb-at [] d e i h = absurd (omega arith)
  allb-at (x ∷ l) d e zero h = and_left (p x) (allb p l) e
  allb-at (x ∷ l) d e (suc i) h = allb-at l d (and_right (p x) (allb p l) e) i (omega arith)

  pub allb-all : (l : List A) (d : A) → ((i : ℕ) → i < length l → p (get_or l i d) ≡ true) → allb p l ≡ true
  unfolding allb
  allb-all [] d h = refl
  allb-all (x ∷ l) d h = and_both (p x) (allb p l) (h 0 (omega arith)) (allb-all l d (λ i k. h (suc i) (omega arith)))

  -- of the default too, and so of what stands at any number
  pub allb_default : (l : List A) (d : A) → allb p l ≡ true → p d ≡ true → (i : ℕ) → p (get_or l i d) ≡ true
  unfolding allb
  allb_default [] d e h i = h
  allb_default (x ∷ l) d e h zero = and_left (p x) (allb p l) e
  allb_default (x ∷ l) d e h (suc i) = allb_default l d (and_right (p x) (allb p l) e) h i

-- a test that every value of f passes
pub allb_map : {A B : Type 0} (f : A → B) (p : B → Bool) (xs : List A) → ((x : A) → p (f x) ≡ true) → allb p (map f xs) ≡ true
unfolding allb
allb_map f p [] h = refl
allb_map f p (x ∷ xs) h = and_both (p (f x)) (allb p (map f xs)) (h x) (allb_map f p xs h)

-- every element passes exactly when none fails
pub allb-anyb : {A : Type 0} (p : A → Bool) (xs : List A) → allb p xs ≡ not (anyb (λ x. not (p x)) xs)
unfolding allb anyb
allb-anyb p [] = refl
allb-anyb p (x ∷ xs) = ap₂ (λ (a b : Bool). a && b) (sym (not-not (p x))) (allb-anyb p xs) ∙ sym (not_or (not (p x)) (anyb (λ x. not (p x)) xs))

-- a weaker test of every element, of some element
pub allb_weaker : {A : Type 0} (p q : A → Bool) (xs : List A) → ((x : A) → p x ≡ true → q x ≡ true) → allb p xs ≡ true → allb q xs ≡ true
unfolding allb
allb_weaker p q [] h e = refl
allb_weaker p q (x ∷ xs) h e = and_both (q x) (allb q xs) (h x (and_left (p x) (allb p xs) e)) (allb_weaker p q xs h (and_right (p x) (allb p xs) e))

pub anyb_weaker : {A : Type 0} (p q : A → Bool) (xs : List A) → ((x : A) → p x ≡ true → q x ≡ true) → anyb p xs ≡ true → anyb q xs ≡ true
unfolding anyb
anyb_weaker p q [] h e = e
anyb_weaker p q (x ∷ xs) h e = ⊎_elim (λ a. ap (λ (b : Bool). b || anyb q xs) (h x a)) (λ a. ap (λ (b : Bool). q x || b) (anyb_weaker p q xs h a) ∙ or-true (q x)) (or_cases (p x) (anyb p xs) e)

-- an element more changes no test of some element that it passes only where one before it does
pub anyb_again : {A : Type 0} (p : A → Bool) (xs : List A) (x : A) (ys : List A) → (p x ≡ true → anyb p xs ≡ true) → anyb p (xs ++ (x ∷ ys)) ≡ anyb p (xs ++ ys)
unfolding anyb
anyb_again p xs x ys h = anyb_append p xs (x ∷ ys) ∙ or_known (anyb p xs) (p x) (anyb p ys) h ∙ sym (anyb_append p xs ys)

-- Lists as sets, where `same` is the test of equality: a test of some or of every element asks only which elements there
-- are, not how often or in which order.
module _ {A : Type 0} (same : A → A → Bool) (same_refl : (x : A) → same x x ≡ true) (same-is : (x y : A) → same x y ≡ true → x ≡ y) where
  -- where every element of xs stands in ys, what some element of xs passes, some element of ys passes
  among : (p : A → Bool) (xs ys : List A) → ((x : A) → anyb (λ y. same y x) xs ≡ true → anyb (λ y. same y x) ys ≡ true) → anyb p xs ≡ true → anyb p ys ≡ true
  unfolding anyb
  among p [] ys h e = absurd (mathlib.Core.Bool.true≢false (sym e))
  among p (x ∷ xs) ys h e = ⊎_elim
      (λ a. anyb_weaker (λ y. same y x) p ys (λ y s. ap p (same-is y x s) ∙ a) (h x (ap (λ (b : Bool). b || anyb (λ y. same y x) xs) (same_refl x))))
      (λ a. among p xs ys (λ z k. h z (ap (λ (b : Bool). same x z || b) k ∙ or-true (same x z))) a)
      (or_cases (p x) (anyb p xs) e)

  module _ (xs ys : List A) (alike : (x : A) → anyb (λ y. same y x) xs ≡ anyb (λ y. same y x) ys) where
    pub anyb-set : (p : A → Bool) → anyb p xs ≡ anyb p ys
    anyb-set p = same_test (anyb p xs) (anyb p ys) (among p xs ys (λ x e. sym (alike x) ∙ e)) (among p ys xs (λ x e. alike x ∙ e))

    pub allb-set : (p : A → Bool) → allb p xs ≡ allb p ys
    allb-set p = allb-anyb p xs ∙ ap not (anyb-set (λ x. not (p x))) ∙ sym (allb-anyb p ys)

-- ys goes on where xs ends
abbrev pub Extends : {A : Type 0} → List A → List A → Type 0
Extends {A} xs ys = (t : List A) × (ys ≡ xs ++ t)
