-- Reading a decimal and writing one are inverse.
use Prim.Native.Nat.{ℕ, zero, suc, ◌+◌, ◌-◌, ◌*◌, ◌/◌, ◌%◌, ◌<◌, ◌≤◌}
use mathlib.Core.Path.{◌≡◌, refl, sym, ap, ◌∙◌, subst}
use mathlib.Core.List.{List, [], ◌∷◌, ◌++◌, append_assoc, map}
use mathlib.Core.Bool.{Bool, true, false, not, cond, ◌&&◌, ◌||◌, true≢false, and-true}
use mathlib.Core.Logic.{◌⊎◌, inl, inr, ⊎_elim, ◌↔◌}
use native.Mathlib.Nat.{div-lt_self, mod-lt, div-add-mod', le_refl}
use native.Mathlib.Omega.{arith}
use borrow.Author.Tests.{ne_eqb, eqb-true, eqb-false, ltb-true, ltb-false, lt-ltb, le-ltb, leb-true, leb-false, le-leb, lt-leb, not-true}
use lib.Dec.{eqb, ltb, leb}
use lib.IntN.{ℤ, pos, negsuc, neg_ℤ}
use lib.ListN.{length, get_or, length-append, get_or-append}
use Rattle.base.specs.Range.{in_range}
use Rattle.base.specs.Lists.{allb}
use Rattle.base.specs.Bytes.{bytes}
use Rattle.base.proofs.Bools.{bool_cases, and_left, and_right, and_both, or_cases, same_test}
use Rattle.base.proofs.Lists.{allb_append}
use Rattle.text.specs.Items.{edge}
use Rattle.text.specs.Decimals.{digits_of, decimal, signed, digit, value_from, is_mag, positive_of, negative_of, number_of, bound_of}
use Rattle.text.proofs.Words.{plain, digits-plain}
use Rattle.model.specs.Limits.{max_count}
use Rattle.std.specs.Prelude.{Result, Ok, Err}
use Rattle.text.specs.declared.NumberError.{NumberError}
use Rattle.text.specs.declared.NumberError.TheVariants.{Malformed, Range}

-- ---- the two equations of `decimal`
-- any bound above n gives the same digits
digits-bound : (j k n : ℕ) (one : Bool) → ltb n 10 ≡ one → n < j → n < k → digits_of j one n ≡ digits_of k one n
unfolding digits_of
digits-bound zero k n one e h l = absurd (omega arith)
digits-bound (suc j) zero n one e h l = absurd (omega arith)
digits-bound (suc j) (suc k) n true e h l = refl
digits-bound (suc j) (suc k) n false e h l =
    let t = ltb-false n 10 e in
    let d : n / 10 < n = div-lt_self (omega arith) (omega arith) in
    ap (λ (r : List ℕ). r ++ ((48 + n % 10) ∷ [])) (digits-bound j k (n / 10) (ltb (n / 10) 10) refl (omega arith) (omega arith))

pub decimal_digit : (n : ℕ) → n < 10 → decimal n ≡ (48 + n) ∷ []
unfolding decimal digits_of
decimal_digit n h = rw (lt-ltb n 10 h)

pub decimal-more : (n : ℕ) → 10 ≤ n → decimal n ≡ decimal (n / 10) ++ ((48 + n % 10) ∷ [])
unfolding decimal digits_of
decimal-more n h =
    let d : n / 10 < n = div-lt_self (omega arith) (omega arith) in
    rw (le-ltb n 10 h) (ap (λ (r : List ℕ). r ++ ((48 + n % 10) ∷ [])) (digits-bound n (suc (n / 10)) (n / 10) (ltb (n / 10) 10) refl d (le_refl (suc (n / 10)))))

-- a digit after a number above zero
decimal_snoc : (v c : ℕ) → 0 < v → c < 10 → decimal (v * 10 + c) ≡ decimal v ++ ((48 + c) ∷ [])
decimal_snoc v c h l =
    let n : ℕ = v * 10 + c in
    let e = div-add-mod' n 10 in
    let m : n % 10 < 10 = mod-lt n (omega arith) in
    let q : n / 10 ≡ v = omega arith in
    let r : n % 10 ≡ c = omega arith in
    decimal-more n (omega arith) ∙ rw (q, r)

-- digits of n, one at a time: what holds of one digit and of one more holds of all
decimal_induction : (P : ℕ → Type 0) → ((n : ℕ) → n < 10 → P n) → ((n : ℕ) → 10 ≤ n → P (n / 10) → P n) → (n : ℕ) → P n
decimal_induction P small more n = below (suc n) n (le_refl (suc n))
  where
    below : (k n : ℕ) → n < k → P n
    below zero n h = absurd (omega arith)
    below (suc k) n h = bool_cases (λ b. ltb n 10 ≡ b → P n) (ltb n 10)
        (λ _ e. small n (ltb-true n 10 e))
        (λ _ e. let t = ltb-false n 10 e in let d : n / 10 < n = div-lt_self (omega arith) (omega arith) in more n t (below k (n / 10) (omega arith)))
        refl

-- ---- what a decimal looks like
digit_of : (c : ℕ) → c < 10 → digit (48 + c) ≡ true
unfolding digit
digit_of c h = and_both (leb 48 (48 + c)) (leb (48 + c) 57) (le-leb 48 (48 + c) (omega arith)) (le-leb (48 + c) 57 (omega arith))

pub decimal-digits : (n : ℕ) → allb digit (decimal n) ≡ true
unfolding allb
decimal-digits = decimal_induction (λ n. allb digit (decimal n) ≡ true)
    (λ n h. rw (decimal_digit n h) (and_both (digit (48 + n)) true (digit_of n h) refl))
    (λ n h ih. rw (decimal-more n h) (allb_append digit (decimal (n / 10)) ((48 + n % 10) ∷ []) ∙ and_both (allb digit (decimal (n / 10))) (digit (48 + n % 10) && true) ih (and_both (digit (48 + n % 10)) true (digit_of (n % 10) (mod-lt n (omega arith))) refl)))

pub decimal-some : (n : ℕ) → 0 < length (decimal n)
decimal-some = decimal_induction (λ n. 0 < length (decimal n))
    (λ n h. rw (decimal_digit n h) (omega arith))
    (λ n h ih. rw (decimal-more n h) (omega (arith, length-append (decimal (n / 10)) ((48 + n % 10) ∷ []))))

-- it begins with 0 only for 0
pub decimal-first : (n : ℕ) → 0 < n → get_or (decimal n) 0 0 ≡ 48 → ⊥
decimal-first = decimal_induction (λ n. 0 < n → get_or (decimal n) 0 0 ≡ 48 → ⊥)
    (λ n h p e. let z : 48 + n ≡ 48 = rw (decimal_digit n h) at e in omega arith)
    (λ n h ih p e.
    let d = div-add-mod' n 10 in
    let m : n % 10 < 10 = mod-lt n (omega arith) in
    ih (omega arith) (sym (get_or-append (decimal (n / 10)) ((48 + n % 10) ∷ []) 0 0 (decimal-some (n / 10))) ∙ (rw (decimal-more n h) at e)))

-- ---- the value of what was written, and what was written of a value
value_snoc : (v : ℕ) (s : List ℕ) (d : ℕ) → value_from v (s ++ (d ∷ [])) ≡ value_from v s * 10 + (d - 48)
unfolding value_from
value_snoc v [] d = refl
value_snoc v (x ∷ s) d = value_snoc (v * 10 + (x - 48)) s d

pub value-decimal : (n : ℕ) → value_from 0 (decimal n) ≡ n
unfolding value_from
value-decimal = decimal_induction (λ n. value_from 0 (decimal n) ≡ n)
    (λ n h. rw (decimal_digit n h) (omega arith))
    (λ n h ih. rw (decimal-more n h) (value_snoc 0 (decimal (n / 10)) (48 + n % 10) ∙ rw ih (omega (arith, div-add-mod' n 10))))

digit_low : (d : ℕ) → digit d ≡ true → 48 ≤ d
unfolding digit
digit_low d e = leb-true 48 d (and_left (leb 48 d) (leb d 57) e)

digit-high : (d : ℕ) → digit d ≡ true → d ≤ 57
unfolding digit
digit-high d e = leb-true d 57 (and_right (leb 48 d) (leb d 57) e)

decimal-value : (w : List ℕ) (v : ℕ) → 0 < v → allb digit w ≡ true → decimal (value_from v w) ≡ decimal v ++ w
unfolding value_from allb
decimal-value [] v p e = sym (mathlib.Core.List.append-nil (decimal v))
decimal-value (d ∷ w) v p e =
    let q = and_left (digit d) (allb digit w) e in
    let l = digit_low d q in
    let h = digit-high d q in
    let b : 48 + (d - 48) ≡ d = omega arith in
    decimal-value w (v * 10 + (d - 48)) (omega arith) (and_right (digit d) (allb digit w) e)
    ∙ ap (λ (r : List ℕ). r ++ w) (decimal_snoc v (d - 48) p (omega arith))
    ∙ rw b (append_assoc (decimal v) (d ∷ []) w)

-- digits without a leading zero are the decimal of their value
pub mag_decimal : (s : List ℕ) → is_mag s ≡ true → decimal (value_from 0 s) ≡ s
unfolding is_mag value_from allb
mag_decimal [] e = absurd (true≢false (sym e))
mag_decimal (d ∷ w) e =
    let r : Bool = not (eqb d 48) || eqb (length (d ∷ w)) 1 in
    let t = and_right (ltb 0 (length (d ∷ w))) (allb digit (d ∷ w) && r) e in
    let ds = and_left (allb digit (d ∷ w)) r t in
    let l = digit_low d (and_left (digit d) (allb digit w) ds) in
    let h = digit-high d (and_left (digit d) (allb digit w) ds) in
    let b : 48 + (d - 48) ≡ d = omega arith in
    let v : 0 * 10 + (d - 48) ≡ d - 48 = omega arith in
    let c : decimal (d - 48) ≡ d ∷ [] = decimal_digit (d - 48) (omega arith) ∙ ap (λ (n : ℕ). n ∷ []) b in
    rw v
    (⊎_elim
    (λ n. decimal-value w (d - 48) (let z = eqb-false d 48 (not-true (eqb d 48) n) in above l z) (and_right (digit d) (allb digit w) ds) ∙ ap (λ (q : List ℕ). q ++ w) c)
    (λ n. let o = eqb-true (length (d ∷ w)) 1 n in alone w (omega arith) c)
    (or_cases (not (eqb d 48)) (eqb (length (d ∷ w)) 1) (and_right (allb digit (d ∷ w)) r t)))
  where
    above : 48 ≤ d → (d ≡ 48 → ⊥) → 0 < d - 48
    above l n = omega arith

    alone : (w : List ℕ) → length w ≡ 0 → decimal (d - 48) ≡ d ∷ [] → decimal (value_from (d - 48) w) ≡ d ∷ w
    alone [] o c = c
    alone (x ∷ w) o c = absurd (omega arith)

pub decimal_mag : (n : ℕ) → is_mag (decimal n) ≡ true
unfolding is_mag
decimal_mag n =
    let s : List ℕ = decimal n in
    let r : Bool = not (eqb (get_or s 0 0) 48) || eqb (length s) 1 in
    and_both (ltb 0 (length s)) (allb digit s && r) (lt-ltb 0 (length s) (decimal-some n)) (and_both (allb digit s) r (decimal-digits n) (front n))
  where
    front : (n : ℕ) → (not (eqb (get_or (decimal n) 0 0) 48) || eqb (length (decimal n)) 1) ≡ true
    front zero = rw (decimal_digit 0 (omega arith))
    front (suc n) = rw (ne_eqb (get_or (decimal (suc n)) 0 0) 48 (decimal-first (suc n) (omega arith)))

-- ---- a reading of what is written of some values, and of no other text
-- `val` for the values that pass `ok`, `out` for the others, `none` for any other text; `tell` tells the three apart
record Reading {A N : Type 0} (write : A → List ℕ) (ok : A → Bool) (read : List ℕ → N) (val : A → N) (out none : N) : Type 0 where
  tell : N → ℕ
  tells : (a : A) → (tell (val a) ≡ 0) × (tell out ≡ 1) × (tell none ≡ 2)
  same : (a b : A) → val a ≡ val b → a ≡ b
  forth : (a : A) → read (write a) ≡ cond (ok a) (val a) out
  back : (s : List ℕ) → (read s ≡ none) ⊎ ((a : A) × (s ≡ write a))

module _ {A N : Type 0} {write : A → List ℕ} {ok : A → Bool} {read : List ℕ → N} {val : A → N} {out none : N} (r : Reading write ok read val out none) where
  -- two of the three for one text
  val_out : {x : N} (a : A) → x ≡ val a → x ≡ out → ⊥
  val_out a e f = let t = r.tells a in let z : ◌≡◌ {A = ℕ} 0 1 = sym t.0 ∙ ap r.tell (sym e ∙ f) ∙ t.1 in omega arith

  val_none : {x : N} (a : A) → x ≡ val a → x ≡ none → ⊥
  val_none a e f = let t = r.tells a in let z : ◌≡◌ {A = ℕ} 0 2 = sym t.0 ∙ ap r.tell (sym e ∙ f) ∙ t.2 in omega arith

  out_none : {x : N} (a : A) → x ≡ out → x ≡ none → ⊥
  out_none a e f = let t = r.tells a in let z : ◌≡◌ {A = ℕ} 1 2 = sym t.1 ∙ ap r.tell (sym e ∙ f) ∙ t.2 in omega arith

  takes : (s : List ℕ) (a : A) → s ≡ write a → read s ≡ cond (ok a) (val a) out
  takes s a e = ap read e ∙ r.forth a

  value_iff : (s : List ℕ) (a : A) → (read s ≡ val a) ↔ ((s ≡ write a) × (ok a ≡ true))
  value_iff s a = (
    λ e. ⊎_elim (λ n. absurd (val_none a e n)) (λ w. pick w.0 w.1 (ok w.0) refl (sym e ∙ takes s w.0 w.1)) (r.back s),
    λ w. takes s a w.0 ∙ ap (λ (b : Bool). cond b (val a) out) w.1,
  )
    where
      pick : (b : A) → s ≡ write b → (t : Bool) → ok b ≡ t → val a ≡ cond t (val b) out → (s ≡ write a) × (ok a ≡ true)
      pick b q true k e = let z = r.same a b e in (q ∙ ap write (sym z), ap ok z ∙ k)
      pick b q false k e = absurd (val_out a refl e)

  -- some value is there, so that the three are told apart
  out_iff : A → (s : List ℕ) → (read s ≡ out) ↔ ((a : A) × (s ≡ write a) × (ok a ≡ false))
  out_iff any s = (
    λ e. ⊎_elim (λ n. absurd (out_none any e n)) (λ w. (w.0, w.1, pick w.0 (ok w.0) refl (sym (takes s w.0 w.1) ∙ e))) (r.back s),
    λ w. takes s w.0 w.1 ∙ ap (λ (b : Bool). cond b (val w.0) out) w.2,
  )
    where
      pick : (b : A) (t : Bool) → ok b ≡ t → cond t (val b) out ≡ out → ok b ≡ false
      pick b true k e = absurd (val_out b refl e)
      pick b false k e = k

  none_iff : (s : List ℕ) → (read s ≡ none) ↔ ((a : A) → s ≡ write a → ⊥)
  none_iff s = (
    λ e a q. pick a (ok a) (sym (takes s a q) ∙ e),
    λ n. ⊎_elim (λ e. e) (λ w. absurd (n w.0 w.1)) (r.back s),
  )
    where
      pick : (b : A) (t : Bool) → cond t (val b) out ≡ none → ⊥
      pick b true e = val_none b refl e
      pick b false e = out_none b refl e

-- ---- signed decimals
module _ where
  no_minus : (n : ℕ) → eqb (get_or (decimal n) 0 0) 45 ≡ false
  unfolding allb
  no_minus n = go (decimal n) (decimal-some n) (decimal-digits n)
    where
      go : (s : List ℕ) → 0 < length s → allb digit s ≡ true → eqb (get_or s 0 0) 45 ≡ false
      go [] h e = absurd (omega arith)
      go (d ∷ s) h e = let l = digit_low d (and_left (digit d) (allb digit s) e) in ne_eqb d 45 (λ z. omega arith)

  low_test : (n : ℕ) → ltb n 9223372036854775808 ≡ leb n 9223372036854775807
  low_test n = same_test (ltb n 9223372036854775808) (leb n 9223372036854775807)
      (λ e. let h = ltb-true n 9223372036854775808 e in le-leb n 9223372036854775807 (omega arith))
      (λ e. let h = leb-true n 9223372036854775807 e in lt-ltb n 9223372036854775808 (omega arith))

  signed_forth : (z : ℤ) → number_of (signed z) ≡ cond (in_range z) (Ok z) (Err Range)
  unfolding number_of positive_of negative_of signed in_range
  signed_forth (pos n) = rw (no_minus n, decimal_mag n, value-decimal n, low_test n)
  signed_forth (negsuc n) = rw (decimal_mag (suc n), value-decimal (suc n), ne_eqb (suc n) 0 (λ z. omega arith), low_test n, and-true (leb n 9223372036854775807))

  abbrev Written : List ℕ → Type 0
  Written s = (number_of s ≡ Err Malformed) ⊎ ((z : ℤ) × (s ≡ signed z))

  -- after a minus
  minus-back : (w : List ℕ) → Written (45 ∷ w)
  unfolding number_of negative_of signed
  minus-back w = bool_cases (λ b. (is_mag w && not (eqb v 0)) ≡ b → Written (45 ∷ w)) (is_mag w && not (eqb v 0))
      (λ _ e. inr (negsuc (v - 1), ap (λ (l : List ℕ). 45 ∷ l) (sym (mag_decimal w (and_left (is_mag w) (not (eqb v 0)) e)) ∙ ap decimal (above (eqb-false v 0 (not-true (eqb v 0) (and_right (is_mag w) (not (eqb v 0)) e)))))))
      (λ _ e. inl (rw e))
      refl
    where
      v : ℕ
      v = value_from 0 w

      above : (v ≡ 0 → ⊥) → v ≡ suc (v - 1)
      above n = omega arith

  plain_back : (s : List ℕ) → eqb (get_or s 0 0) 45 ≡ false → Written s
  unfolding number_of positive_of signed
  plain_back s q = bool_cases (λ b. is_mag s ≡ b → Written s) (is_mag s)
      (λ _ e. inr (pos (value_from 0 s), sym (mag_decimal s e)))
      (λ _ e. inl (rw (q, e)))
      refl

  signed_back : (s : List ℕ) → Written s
  signed_back [] = plain_back [] refl
  signed_back (x ∷ s) = bool_cases (λ b. eqb x 45 ≡ b → Written (x ∷ s)) (eqb x 45)
      (λ _ e. subst (λ (n : ℕ). Written (n ∷ s)) (sym (eqb-true x 45 e)) (minus-back s))
      (λ _ e. plain_back (x ∷ s) e)
      refl

abbrev tell_number : Result ℤ NumberError → ℕ
tell_number (Ok z) = 0
tell_number (Err Range) = 1
tell_number (Err Malformed) = 2

numbers : Reading signed in_range number_of Ok (Err Range) (Err Malformed)
numbers = record { tell = tell_number; tells = λ a. (refl, refl, refl); same = λ a b e. cc; forth = signed_forth; back = signed_back }

-- a number of the range is read from what is written of it, and from no other text
pub number-value : (s : List ℕ) (z : ℤ) → (number_of s ≡ Ok z) ↔ ((s ≡ signed z) × (in_range z ≡ true))
number-value = value_iff numbers

-- out of the range: what is written of a number that is not in it
pub number_range : (s : List ℕ) → (number_of s ≡ Err Range) ↔ ((z : ℤ) × (s ≡ signed z) × (in_range z ≡ false))
number_range = out_iff numbers (pos 0)

-- not a number: what is written of none
pub number-not : (s : List ℕ) → (number_of s ≡ Err Malformed) ↔ ((z : ℤ) → s ≡ signed z → ⊥)
number-not = none_iff numbers

-- ---- bounds
module _ where
  bound_forth : (n : ℕ) → bound_of (decimal n) ≡ cond (leb n max_count) (Ok n) (Err Range)
  unfolding bound_of
  bound_forth n = rw (decimal_mag n, value-decimal n)

  bound-back : (s : List ℕ) → (bound_of s ≡ Err Malformed) ⊎ ((n : ℕ) × (s ≡ decimal n))
  unfolding bound_of
  bound-back s = bool_cases (λ b. is_mag s ≡ b → (bound_of s ≡ Err Malformed) ⊎ ((n : ℕ) × (s ≡ decimal n))) (is_mag s)
      (λ _ e. inr (value_from 0 s, sym (mag_decimal s e)))
      (λ _ e. inl (rw e))
      refl

abbrev tell_bound : Result ℕ NumberError → ℕ
tell_bound (Ok n) = 0
tell_bound (Err Range) = 1
tell_bound (Err Malformed) = 2

bounds : Reading decimal (λ n. leb n max_count) bound_of Ok (Err Range) (Err Malformed)
bounds = record { tell = tell_bound; tells = λ a. (refl, refl, refl); same = λ a b e. cc; forth = bound_forth; back = bound-back }

pub bound-value : (s : List ℕ) (n : ℕ) → (bound_of s ≡ Ok n) ↔ ((s ≡ decimal n) × (n ≤ max_count))
bound-value s n =
    let i = value_iff bounds s n in
    (λ e. ((i.0 e).0, leb-true n max_count (i.0 e).1), λ w. i.1 (w.0, le-leb n max_count w.1))

pub bound-over : (s : List ℕ) → (bound_of s ≡ Err Range) ↔ ((n : ℕ) × (s ≡ decimal n) × (max_count < n))
bound-over s =
    let i = out_iff bounds 0 s in
    (λ e. let w = i.0 e in (w.0, w.1, leb-false w.0 max_count w.2), λ w. i.1 (w.0, w.1, lt-leb w.0 max_count w.2))

pub bound-not : (s : List ℕ) → (bound_of s ≡ Err Malformed) ↔ ((n : ℕ) → s ≡ decimal n → ⊥)
bound-not = none_iff bounds

-- ---- a decimal is an item
pub decimal-plain : (n : ℕ) → allb plain (decimal n) ≡ true
decimal-plain n = digits-plain (decimal n) (decimal-digits n)

pub signed-plain : (z : ℤ) → allb plain (signed z) ≡ true
unfolding signed allb edge
signed-plain (pos n) = decimal-plain n
signed-plain (negsuc n) = decimal-plain (suc n)

-- ---- the edges, computed
abbrev Cases : Type 0
Cases =
    (map (λ s. number_of (bytes s)) ("-0" ∷ "+1" ∷ "01" ∷ "--1" ∷ "" ∷ "-" ∷ []) ≡ Err Malformed ∷ (Err Malformed) ∷ (Err Malformed) ∷ (Err Malformed) ∷ (Err Malformed) ∷ (Err Malformed) ∷ [])
    × (map (λ s. number_of (bytes s)) ("9223372036854775807" ∷ "-9223372036854775808" ∷ "0" ∷ "-1" ∷ []) ≡ map Ok (pos 9223372036854775807 ∷ neg_ℤ (pos 9223372036854775808) ∷ pos 0 ∷ neg_ℤ (pos 1) ∷ []))
    × (map (λ s. number_of (bytes s)) ("9223372036854775808" ∷ "-9223372036854775809" ∷ []) ≡ Err Range ∷ (Err Range) ∷ [])
    × (map (λ s. bound_of (bytes s)) ("0" ∷ "1024" ∷ "1025" ∷ "99999999999999999999" ∷ "01" ∷ "-1" ∷ "" ∷ []) ≡ Ok 0 ∷ Ok 1024 ∷ (Err Range) ∷ (Err Range) ∷ (Err Malformed) ∷ (Err Malformed) ∷ (Err Malformed) ∷ [])
    × (map signed (neg_ℤ (pos 9223372036854775808) ∷ pos 0 ∷ pos 1024 ∷ []) ≡ bytes "-9223372036854775808" ∷ bytes "0" ∷ bytes "1024" ∷ [])

pub cases : Cases
unfolding number_of positive_of negative_of bound_of is_mag value_from allb digit signed decimal digits_of
cases = (refl, refl, refl, refl, refl)
