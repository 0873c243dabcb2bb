-- What the code that was read says of an entry and of a step.
use Prim.Native.Nat.{ℕ, suc, ◌≤◌}
use mathlib.Core.List.{List}
use mathlib.Core.Bool.{Bool, true, false, not, cond, ◌&&◌, and-false}
use mathlib.Core.Path.{◌≡◌, refl, sym, ap, ◌∙◌}
use native.Mathlib.Omega.{arith}
use lib.Dec.{eqb, ltb, leb}
use lib.IntN.{ℤ, pos}
use lib.ListN.{get_or-eq_default}
use borrow.Author.Tests.{ne_eqb, eqb-true, lt-leb, ltb-true, ltb-false}
use Rattle.base.specs.Bounded.{every}
use Rattle.base.proofs.Bools.{bool_cases, and_right}
use Rattle.base.proofs.Bounded.{every-at}
use Rattle.model.specs.Graph.{holds}
use Rattle.tables.specs.Codes as codes
use Rattle.tables.specs.Layout.{form_count, form_code_at, form_first_at, form_second_at, form_third_at, form_fourth_at}
use Rattle.tables.specs.Entries.{Entry, entry_of}
use Rattle.tables.specs.Decode.{entry_at}
use Rattle.plan.specs.Steps.{step_of}
use Rattle.plan.specs.Layout.{step_at, step_code_at, step_first_at, step_second_at, step_third_at, step_fourth_at}
use Rattle.plan.specs.Sets.{test_of, links_of}
use Rattle.plan.specs.WellFormed.{test_ok, closed_ok, step_ok}

-- two tests that agree on the codes below n, by computing, and on the others agree on all
agree : (b c : Bool) → cond b c (not c) ≡ true → b ≡ c
agree true c e = sym e
agree false true e = e
agree false false e = refl

by_code : (f g : ℕ → Bool) (n : ℕ) → every (λ k. cond (f k) (g k) (not (g k))) n ≡ true → ((k : ℕ) → n ≤ k → f k ≡ g k) → (k : ℕ) → f k ≡ g k
by_code f g n e h k = bool_cases (λ b. ltb k n ≡ b → f k ≡ g k) (ltb k n) (λ _ q. agree (f k) (g k) (every-at (λ k. cond (f k) (g k) (not (g k))) n e k (ltb-true k n q))) (λ _ q. h k (ltb-false k n q)) refl

module _ (cs : List ℕ) where
  -- ---- form entry e: its code alone says whether it is a test, and whether it is `closed`, whatever its V
  module _ (e : ℕ) where
    abbrev pub entry_by : ℤ → ℕ → Entry
    entry_by x k = entry_of k (form_first_at cs e) (form_second_at cs e) (form_third_at cs e) (form_fourth_at cs e) x

    pub test_code : (x : ℤ) (k : ℕ) → holds (λ t. true) (test_of cs (entry_by x k)) ≡ (leb codes.form_kind k && leb k codes.form_below)
    unfolding holds test_of entry_of every
    test_code x = by_code (λ k. holds (λ t. true) (test_of cs (entry_by x k))) (λ k. leb codes.form_kind k && leb k codes.form_below) (suc codes.form_onelang) refl
        (λ k l. rw (get_or-eq_default, lt-leb k codes.form_below (omega arith), and-false (leb codes.form_kind k)))

    closed-code : (x : ℤ) (k : ℕ) → holds (λ ps. true) (links_of cs (entry_by x k)) ≡ eqb k codes.form_closed
    unfolding holds links_of entry_of every
    closed-code x = by_code (λ k. holds (λ ps. true) (links_of cs (entry_by x k))) (λ k. eqb k codes.form_closed) (suc codes.form_onelang) refl
        (λ k l. rw (get_or-eq_default, ne_eqb k codes.form_closed (λ q. let z : ⊥ = omega arith in z)))

    pub test_read : (k : ℕ) → k ≡ form_code_at cs e → (ltb e (form_count cs) && (leb codes.form_kind k && leb k codes.form_below)) ≡ test_ok cs e
    unfolding test_ok entry_at
    test_read k x = ap (λ (b : Bool). ltb e (form_count cs) && b) (sym (test_code (pos 0) k) ∙ ap (λ (j : ℕ). holds (λ t. true) (test_of cs (entry_by (pos 0) j))) x)

    pub closed_read : (k : ℕ) → k ≡ form_code_at cs e → (ltb e (form_count cs) && eqb k codes.form_closed) ≡ closed_ok cs e
    unfolding closed_ok entry_at
    closed_read k x = ap (λ (b : Bool). ltb e (form_count cs) && b) (sym (closed-code (pos 0) k) ∙ ap (λ (j : ℕ). holds (λ ps. true) (links_of cs (entry_by (pos 0) j))) x)

    -- the code of an entry that is a test; of one that is `closed`
    pub test_codes : test_ok cs e ≡ true → (leb codes.form_kind (form_code_at cs e) && leb (form_code_at cs e) codes.form_below) ≡ true
    test_codes w = and_right (ltb e (form_count cs)) (leb codes.form_kind (form_code_at cs e) && leb (form_code_at cs e) codes.form_below) (test_read (form_code_at cs e) refl ∙ w)

    pub closed-codes : closed_ok cs e ≡ true → form_code_at cs e ≡ codes.form_closed
    closed-codes w = eqb-true (form_code_at cs e) codes.form_closed (and_right (ltb e (form_count cs)) (eqb (form_code_at cs e) codes.form_closed) (closed_read (form_code_at cs e) refl ∙ w))

  -- ---- step k: the answers by code
  module _ (ps : List ℕ) (k : ℕ) where
    abbrev pub step_by_lem : ℕ → ℕ → ℕ → Bool
    step_by_lem a b code = step_ok cs k (step_of code a b (step_third_at ps k) (step_fourth_at ps k))

    pub step_by : (a b code : ℕ) → a ≡ step_first_at ps k → b ≡ step_second_at ps k → code ≡ step_code_at ps k → step_by_lem a b code ≡ step_ok cs k (step_at ps k)
    unfolding step_at
    step_by a b code p q x = rw (p, q, x)

    pub step-unknown : (a b code : ℕ) → 25 ≤ code → false ≡ step_by_lem a b code
    unfolding step_of step_ok
    step-unknown a b code l = rw get_or-eq_default
