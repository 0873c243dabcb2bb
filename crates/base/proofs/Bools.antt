-- Tests that were passed and tests that failed, taken apart.
use Prim.Native.Nat.{ℕ, ◌<◌}
use mathlib.Core.Bool.{Bool, true, false, not, cond, ◌&&◌, ◌||◌, or-true, true≢false}
use mathlib.Core.Path.{◌≡◌, refl, sym, ap, ◌∙◌}
use mathlib.Core.Logic.{◌⊎◌, inl, inr}
use lib.Dec.{eqb, ltb}
use borrow.Author.Tests.{eq-eqb, eqb-true, ltb-true}

pub bool_cases : (P : Bool → Type 0) (b : Bool) → (b ≡ true → P true) → (b ≡ false → P false) → P b
bool_cases P true t f = t refl
bool_cases P false t f = f refl

-- two conditionals with one test, whose first arms are the same where the test holds
pub cond_same : {A : Type 0} (t u : Bool) (x y d : A) → t ≡ u → (u ≡ true → x ≡ y) → cond t x d ≡ cond u y d
cond_same t u x y d e f = ap (λ (k : Bool). cond k x d) e ∙ bool_cases (λ k. cond k x d ≡ cond k y d) u f (λ n. refl)

-- both halves of a test that passed
pub and_left : (a b : Bool) → (a && b) ≡ true → a ≡ true
and_left true b e = refl
and_left false b e = e

pub and_right : (a b : Bool) → (a && b) ≡ true → b ≡ true
and_right true b e = e
and_right false b e = absurd (true≢false (sym e))

pub and_both : (a b : Bool) → a ≡ true → b ≡ true → (a && b) ≡ true
and_both true b e f = f
and_both false b e f = e

pub or_cases : (a b : Bool) → (a || b) ≡ true → (a ≡ true) ⊎ (b ≡ true)
or_cases true b e = inl refl
or_cases false b e = inr e

pub or_left : (a b : Bool) → a ≡ true → (a || b) ≡ true
or_left a b e = ap (λ (x : Bool). x || b) e

pub or_right : (a b : Bool) → b ≡ true → (a || b) ≡ true
or_right a b e = ap (λ (x : Bool). a || x) e ∙ or-true a

-- an implication between tests, `not a || b`
pub implies_true : (a b : Bool) → (not a || b) ≡ true → a ≡ true → b ≡ true
implies_true true b e h = e
implies_true false b e h = absurd (true≢false (sym h))

pub true_implies : (a b : Bool) → (a ≡ true → b ≡ true) → (not a || b) ≡ true
true_implies true b h = h refl
true_implies false b h = refl

-- tests that pass together are the same test
pub same_test : (a b : Bool) → (a ≡ true → b ≡ true) → (b ≡ true → a ≡ true) → a ≡ b
same_test true b f g = sym (f refl)
same_test false true f g = g refl
same_test false false f g = refl

-- a test that cannot pass
pub never_true : (a : Bool) → (a ≡ true → ⊥) → a ≡ false
never_true true h = absurd (h refl)
never_true false h = refl

pub never_both : {a : Bool} → a ≡ true → a ≡ false → ⊥
never_both {a = true} e f = true≢false f
never_both {a = false} e f = true≢false (sym e)

pub not-not : (b : Bool) → not (not b) ≡ b
not-not true = refl
not-not false = refl

pub not_and : (a b : Bool) → not (a && b) ≡ (not a || not b)
not_and true b = refl
not_and false b = refl

pub not_or : (a b : Bool) → not (a || b) ≡ (not a && not b)
not_or true b = refl
not_or false b = refl

pub not_implies : (a b : Bool) → not (not a || b) ≡ (a && not b)
not_implies true b = refl
not_implies false b = refl

pub and_swap : (a b c : Bool) → (a && (b && c)) ≡ (b && (a && c))
and_swap true b c = refl
and_swap false true c = refl
and_swap false false c = refl

pub or_swap : (a b c d : Bool) → ((a || b) || (c || d)) ≡ ((a || c) || (b || d))
or_swap true b c d = refl
or_swap false true true d = refl
or_swap false true false d = refl
or_swap false false c d = refl

-- what holds only where a does adds nothing to a
pub or_known : (a b c : Bool) → (b ≡ true → a ≡ true) → (a || (b || c)) ≡ (a || c)
or_known true b c h = refl
or_known false true c h = absurd (true≢false (sym (h refl)))
or_known false false c h = refl

-- ---- tests of numbers
pub eqb_comm : (a b : ℕ) → eqb a b ≡ eqb b a
eqb_comm a b = same_test (eqb a b) (eqb b a) (λ e. eq-eqb b a (sym (eqb-true a b e))) (λ e. eq-eqb a b (sym (eqb-true b a e)))

-- both numbers are below their bounds
pub two-below : (a m b n : ℕ) → (ltb a m && ltb b n) ≡ true → (a < m) × (b < n)
two-below a m b n h = (ltb-true a m (and_left (ltb a m) (ltb b n) h), ltb-true b n (and_right (ltb a m) (ltb b n) h))
