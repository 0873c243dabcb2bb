-- The laws of answers: a value is no refusal; which answer is given, by the caller's tests in their order, and what it leaves.
use Prim.Native.Nat.{ℕ}
use Rattle.std.specs.Prelude.{Result, Ok, Err, is_ok}
use mathlib.Core.Bool.{Bool, true, false, cond, true≢false}
use mathlib.Core.Path.{◌≡◌, refl, sym, ap, ◌∙◌}
use Rattle.model.specs.declared.Refusal.{Refusal}
use Rattle.model.specs.Answers.{Answer, value, refusal, answer_of, is_given, checked_then, checked, unless_refused, refusal_number, refusal_line, value_or}

module _ {A : Type 0} where
  pub same-value : {a b : A} → value a ≡ value b → a ≡ b
  same-value {a} e = ap (value_or a) e

  pub same_refusal : {j k line at : ℕ} → ◌≡◌ {A = Answer A} (refusal j line) (refusal k at) → (j ≡ k) × (line ≡ at)
  same_refusal e = (ap refusal_number e, ap refusal_line e)

  -- a result is a value exactly where an answer is given
  pub given-ok : (x : Result A Refusal) → is_ok x ≡ is_given (answer_of x)
  given-ok (Ok a) = refl
  given-ok (Err r) = refl

  pub not_refused : {a : A} {k line : ℕ} → value a ≡ refusal k line → ⊥
  not_refused e = true≢false (ap is_given e)

-- ---- the answer x after the tests for 8, 9 and 10: one law for each way through
pub record Checked {A : Type 0} (long formed there : Bool) (a : A) (x : Answer A) : Type 0 where
  pub answer : x ≡ checked long formed there a

module _ {A : Type 0} {long formed there : Bool} {a : A} {x : Answer A} (o : Checked long formed there a x) where
  pub is-short : long ≡ false → refusal 8 0 ≡ x
  is-short l = sym (o.answer ∙ rw l)

  module _ (l : long ≡ true) where
    pub is_malformed : formed ≡ false → refusal 9 0 ≡ x
    is_malformed w = sym (o.answer ∙ rw (l, w))

    module _ (w : formed ≡ true) where
      pub is_absent : there ≡ false → refusal 10 0 ≡ x
      is_absent t = sym (o.answer ∙ rw (l, w, t))

      pub is_done : there ≡ true → {b : A} → b ≡ a → value b ≡ x
      is_done t p = ap value p ∙ sym (o.answer ∙ rw (l, w, t))

-- the same, with what is left, y, of something lent
pub record Answering {A B : Type 0} (long formed there : Bool) (a : A) (new old : B) (x : Answer A) (y : B) : Type 0 where
  pub answer : x ≡ checked long formed there a
  pub left : y ≡ unless_refused x new old

module _ {A B : Type 0} {long formed there : Bool} {a : A} {new old : B} {x : Answer A} {y : B} (o : Answering long formed there a new old x y) where
  checks : Checked long formed there a x
  checks = record { answer = o.answer }

  with-left : {z : Answer A} → z ≡ x → (z ≡ x) × (unless_refused z new old ≡ y)
  with-left e = (e, ap (λ (z : Answer A). unless_refused z new old) e ∙ sym o.left)

  pub short : long ≡ false → (refusal 8 0 ≡ x) × (old ≡ y)
  short l = with-left (is-short checks l)

  module _ (l : long ≡ true) where
    pub malformed : formed ≡ false → (refusal 9 0 ≡ x) × (old ≡ y)
    malformed w = with-left (is_malformed checks l w)

    module _ (w : formed ≡ true) where
      pub absent : there ≡ false → (refusal 10 0 ≡ x) × (old ≡ y)
      absent t = with-left (is_absent checks l w t)

      pub done : there ≡ true → {b : A} {z : B} → b ≡ a → z ≡ new → (value b ≡ x) × (z ≡ y)
      done t p q = let e = with-left (is_done checks l w t p) in (e.0, q ∙ e.1)

-- what is given passed every test
pub given_passed : {A : Type 0} (long formed there : Bool) (x : Answer A) → is_given (checked_then long formed there x) ≡ true → (long ≡ true) × (formed ≡ true) × (there ≡ true) × (checked_then long formed there x ≡ x)
given_passed true true true x g = (refl, refl, refl, refl)
given_passed true true false x g = absurd (true≢false (sym g))
given_passed true false there x g = absurd (true≢false (sym g))
given_passed false formed there x g = absurd (true≢false (sym g))

-- what is left, by a test of the answer
pub left_by : {A B : Type 0} (t : Bool) (x y : Answer A) (new old : B) → unless_refused (cond t x y) new old ≡ cond t (unless_refused x new old) (unless_refused y new old)
left_by true x y new old = refl
left_by false x y new old = refl
