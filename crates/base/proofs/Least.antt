-- The least number that has a property: what the definition finds, and how a search comes to it.
use Prim.Native.Nat.{ℕ, zero, suc, ◌+◌, ◌-◌, ◌≤◌, ◌<◌, zero-le}
use mathlib.Core.Bool.{Bool, true, false, not, cond}
use mathlib.Core.Logic.{◌↔◌}
use mathlib.Core.Option.{Option, some-injective, some-ne-none, none-ne-some}
use mathlib.Core.Path.{◌≡◌, refl, sym, ap, ap₂, ◌∙◌, subst}
use native.Mathlib.Nat.{zero-add, add-zero, add-suc, suc-add}
use native.Mathlib.Omega.{arith}
use lib.Dec.{eqb, ltb}
use borrow.Author.Tests.{eq-eqb, eqb-true, eqb-false, ltb-true, ltb-false, lt-ltb, le-ltb, not-true}
use Rattle.base.specs.Bounded.{some, every}
use Rattle.base.specs.Least.{next_of, next_from, least, least_of, IsLeast}
use Rattle.base.proofs.Bools.{bool_cases, same_test}
use Rattle.base.proofs.Bounded.{every-at, every-all, some_at, some_ext, some-none}

-- r is the least number from i on and below n that has p, or n where there is none
pub record Next (p : ℕ → Bool) (i n r : ℕ) : Type 0 where
  pub onward : i ≤ r
  pub within : r ≤ n
  pub none : (j : ℕ) → i ≤ j → j < r → p j ≡ false
  pub hit : r < n → p r ≡ true

module _ (p : ℕ → Bool) (n : ℕ) where
  pub next-end : (i : ℕ) → n ≤ i → next_from p i n ≡ n
  unfolding next_from next_of
  next-end i l = ap (next_of p n) (let e : n - i ≡ 0 = omega arith in e)

  -- the number i itself, or one after it
  pub next-step : (i : ℕ) → i < n → next_from p i n ≡ cond (p i) i (next_from p (suc i) n)
  unfolding next_from next_of
  next-step i l =
      let e : n - i ≡ suc (n - suc i) = omega arith in
      let f : n - suc (n - suc i) ≡ i = omega arith in
      ap (next_of p n) e ∙ ap (λ (j : ℕ). cond (p j) j (next_of p n (n - suc i))) f

  pub next_here : (i : ℕ) → i < n → p i ≡ true → next_from p i n ≡ i
  next_here i l h = next-step i l ∙ ap (λ (b : Bool). cond b i (next_from p (suc i) n)) h

  next_past : (i : ℕ) → i < n → p i ≡ false → next_from p i n ≡ next_from p (suc i) n
  next_past i l h = next-step i l ∙ ap (λ (b : Bool). cond b i (next_from p (suc i) n)) h

  -- k numbers that have not p
  pub next_skip : (k i : ℕ) → i + k ≤ n → ((j : ℕ) → j < k → p (i + j) ≡ false) → next_from p i n ≡ next_from p (i + k) n
  next_skip zero i l h = ap (λ (j : ℕ). next_from p j n) (sym (add-zero i))
  next_skip (suc k) i l h =
      next_past i (omega arith) (ap p (sym (add-zero i)) ∙ h 0 (omega arith))
      ∙ next_skip k (suc i) (omega arith) (λ j m. ap p (suc-add i j ∙ sym (add-suc i j)) ∙ h (suc j) (omega arith))
      ∙ ap (λ (j : ℕ). next_from p j n) (suc-add i k ∙ sym (add-suc i k))

  pub next-none : (k i : ℕ) → i ≤ n → n - i ≤ k → ((j : ℕ) → j < k → p (i + j) ≡ false) → next_from p i n ≡ n
  next-none k i l m h = next_skip (n - i) i (omega arith) (λ j q. h j (omega arith)) ∙ next-end (i + (n - i)) (omega arith)

  -- what the definition finds
  found : (k i : ℕ) → i + k ≡ n → Next p i n (next_from p i n)
  found zero i e = subst (λ (r : ℕ). Next p i n r) (sym (next-end i (omega arith))) (record { onward = omega arith; within = omega arith; none = λ j a b. absurd (omega arith); hit = λ l. absurd (omega arith) })
  found (suc k) i e = bool_cases (λ b. p i ≡ b → Next p i n (next_from p i n)) (p i)
      (λ _ h. subst (λ (r : ℕ). Next p i n r) (sym (next_here i (omega arith) h)) (record { onward = omega arith; within = omega arith; none = λ j a b. absurd (omega arith); hit = λ l. h }))
      (λ _ h. let x : Next p (suc i) n (next_from p (suc i) n) = found k (suc i) (omega arith) in subst (λ (r : ℕ). Next p i n r) (sym (next_past i (omega arith) h)) (record {
        onward = omega (arith, x.onward);
        within = x.within;
        none = λ j a b. bool_cases (λ t. eqb i j ≡ t → p j ≡ false) (eqb i j) (λ _ q. ap p (sym (eqb-true i j q)) ∙ h) (λ _ q. let ne : i ≡ j → ⊥ = eqb-false i j q in x.none j (omega arith) b) refl;
        hit = x.hit;
      }))
      refl

  pub next-found : (i : ℕ) → i ≤ n → Next p i n (next_from p i n)
  next-found i l = found (n - i) i (omega arith)

-- the same numbers below n, the same next one
pub next_ext : (p q : ℕ → Bool) (i n : ℕ) → ((m : ℕ) → m < n → p m ≡ q m) → next_from p i n ≡ next_from q i n
unfolding next_from next_of
next_ext p q i n h = go (n - i) (omega arith)
  where
    go : (k : ℕ) → k ≤ n → next_of p n k ≡ next_of q n k
    go zero l = refl
    go (suc k) l = ap₂ (λ (b : Bool) (r : ℕ). cond b (n - suc k) r) (h (n - suc k) (omega arith)) (go k (omega arith))

-- the search goes on
pub next-after : (p : ℕ → Bool) {n x r : ℕ} → x < n → r ≡ next_from p (x + 1) n → x < r
next-after p {n} {x} {r} l f = omega (arith, f, (next-found p n (x + 1) (omega arith)).onward)

-- no number below n: the search comes to n
pub empty-below : (p : ℕ → Bool) (n : ℕ) → eqb (least p n) n ≡ every (λ x. not (p x)) n
empty-below p n = same_test (eqb (least p n) n) (every (λ x. not (p x)) n)
    (λ e. let x : Next p 0 n (least p n) = next-found p n 0 zero-le in every-all (λ x. not (p x)) n (λ j l. ap not (x.none j zero-le (subst (λ (k : ℕ). j < k) (sym (eqb-true (least p n) n e)) l))))
    (λ h. eq-eqb (least p n) n (next-none p n n 0 zero-le (omega arith) (λ j l. not-true (p (0 + j)) (every-at (λ x. not (p x)) n h (0 + j) (omega arith)))))

-- a number that has p, and none below it
pub least-is : (p : ℕ → Bool) (n k : ℕ) → k < n → ((j : ℕ) → j < k → p j ≡ false) → p k ≡ true → least p n ≡ k
least-is p n k l none hit = next_skip p n k 0 (omega arith) (λ j h. ap p (zero-add j) ∙ none j h) ∙ ap (λ (i : ℕ). next_from p i n) (zero-add k) ∙ next_here p n k l hit

-- one number more that has not p
pub none_more : (p : ℕ → Bool) (k : ℕ) → ((j : ℕ) → j < k → p j ≡ false) → p k ≡ false → (j : ℕ) → j < k + 1 → p j ≡ false
none_more p k h e j l = bool_cases (λ b. eqb j k ≡ b → p j ≡ false) (eqb j k) (λ _ q. ap p (eqb-true j k q) ∙ e) (λ _ q. let ne : j ≡ k → ⊥ = eqb-false j k q in h j (omega arith)) refl

-- the search comes to a number below n exactly when one has p
pub found_some : (p : ℕ → Bool) (n : ℕ) {r : ℕ} → r ≡ least p n → ltb r n ≡ some p n
found_some p n {r} e = go (ltb r n) refl
  where
    next : Next p 0 n r
    next = subst (Next p 0 n) (sym e) (next-found p n 0 zero-le)

    go : (b : Bool) → ltb r n ≡ b → b ≡ some p n
    go true q = sym (some_at p n r (ltb-true r n q) (next.hit (ltb-true r n q)))
    go false q = sym (some_ext p (λ i. false) n (λ i l. next.none i zero-le (let h : n ≤ r = ltb-false r n q in omega arith)) ∙ some-none n)

-- ---- the least number, where there is one, in words of logic
module _ (p : ℕ → Bool) (n : ℕ) where
  found_of : least p n < n → least_of p n ≡ Option.some (least p n)
  unfolding least_of
  found_of l = ap (λ (b : Bool). cond b (Option.some (least p n)) Option.none) (lt-ltb (least p n) n l)

  none_of : n ≤ least p n → least_of p n ≡ Option.none
  unfolding least_of
  none_of l = ap (λ (b : Bool). cond b (Option.some (least p n)) Option.none) (le-ltb (least p n) n l)

  -- what a search found: a number below n, or n
  pub least_of_lem : {r : ℕ} → r ≡ least p n → least_of p n ≡ cond (ltb r n) (Option.some r) Option.none
  unfolding least_of
  least_of_lem e = ap (λ (r : ℕ). cond (ltb r n) (Option.some r) Option.none) (sym e)

  pub least_of_iff : (k : ℕ) → (least_of p n ≡ Option.some k) ↔ IsLeast p n k
  least_of_iff k = (there, λ h. let e : least p n ≡ k = least-is p n k h.0 h.2 h.1 in found_of (subst (λ (r : ℕ). r < n) (sym e) h.0) ∙ ap (λ (r : ℕ). Option.some r) e)
    where
      x : Next p 0 n (least p n)
      x = next-found p n 0 zero-le

      there : least_of p n ≡ Option.some k → IsLeast p n k
      there e = bool_cases (λ b. ltb (least p n) n ≡ b → IsLeast p n k) (ltb (least p n) n)
          (λ _ q. let l = ltb-true (least p n) n q in subst (λ (r : ℕ). IsLeast p n r) (some-injective (least p n) k (sym (found_of l) ∙ e)) (l, x.hit l, λ j h. x.none j zero-le h))
          (λ _ q. absurd (none-ne-some k (sym (none_of (ltb-false (least p n) n q)) ∙ e))) refl

  pub least_of_none : (least_of p n ≡ Option.none) ↔ ((j : ℕ) → j < n → p j ≡ false)
  least_of_none = (there, λ h. none_of (subst (λ (r : ℕ). n ≤ r) (sym (next-none p n n 0 zero-le (omega arith) (λ j l. ap p (zero-add j) ∙ h j l))) (omega arith)))
    where
      there : least_of p n ≡ Option.none → (j : ℕ) → j < n → p j ≡ false
      there e j l = bool_cases (λ b. ltb (least p n) n ≡ b → p j ≡ false) (ltb (least p n) n)
          (λ _ q. absurd (some-ne-none (least p n) (sym (found_of (ltb-true (least p n) n q)) ∙ e)))
          (λ _ q. let h : n ≤ least p n = ltb-false (least p n) n q in (next-found p n 0 zero-le).none j zero-le (omega arith)) refl

-- the same numbers below n have the property: the same is the least
pub least_of_ext : (p q : ℕ → Bool) (n : ℕ) → ((m : ℕ) → m < n → p m ≡ q m) → least_of p n ≡ least_of q n
unfolding least_of
least_of_ext p q n h = ap (λ (r : ℕ). cond (ltb r n) (Option.some r) Option.none) (next_ext p q 0 n h)
