-- Decimals by position: the value of digits, and what a part is read as in each case.
use Prim.Native.Nat.{ℕ, zero, suc, ◌+◌, ◌-◌, ◌*◌, ◌<◌, ◌≤◌}
use mathlib.Core.Path.{◌≡◌, refl, ap, ◌∙◌}
use mathlib.Core.List.{List, [], ◌∷◌}
use mathlib.Core.Bool.{Bool, true, false, not, cond, ◌&&◌, ◌||◌, and-eq-true_iff}
use mathlib.Core.Logic.{⊎_elim}
use native.Mathlib.Numerals.{add-one, sub-one}
use native.Mathlib.Nat.{zero-add, eq-or-lt_of_le, le_refl}
use native.Mathlib.Omega.{arith}
use borrow.Author.Tests.{leb-true, ltb-false, ne_eqb, le-ltb, lt-ltb, lt-leb}
use lib.Dec.{ltb, leb, eqb}
use lib.IntN.{ℤ, pos, negsuc, neg_ℤ, ◌-ℤ◌}
use lib.ListN.{length, get_or, drop, drop_of_length-le}
use lib.Seq.{slice, length-slice, slice-cons, slice_empty, drop-cons}
use mir.Syntax.{w64}
use mir.Val.{to_z, of_z, SFits}
use mir.Facts.{to_z-of_z}
use Rattle.base.specs.Lists.{allb}
use Rattle.text.specs.Decimals.{digit, value_from, is_mag, mag_of, positive_of, negative_of, number_of, bound_of}
use Rattle.model.specs.Limits.{max_count}
use Rattle.std.specs.Prelude.{Ok, Err}
use Rattle.text.specs.declared.NumberError.{NumberError}
use Rattle.text.specs.declared.NumberError.TheVariants.{Malformed, Range}

-- ---- digits from a place on
module _ (w : List ℕ) (i : ℕ) (h : i < length w) where
  pub digits-first : allb digit (drop i w) ≡ true → (48 ≤ get_or w i 0) × (get_or w i 0 ≤ 57) × (allb digit (drop (i + 1) w) ≡ true)
  unfolding digit allb
  digits-first e =
      let e' = rw (drop-cons w i 0 h) at e in
      let p = (and-eq-true_iff _ _).0 e' in
      let q = (and-eq-true_iff _ _).0 p.0 in
      (leb-true 48 _ q.0, leb-true _ 57 q.1, rw add-one p.1)

  pub value-step : (v : ℕ) → value_from v (drop i w) ≡ value_from (v * 10 + (get_or w i 0 - 48)) (drop (i + 1) w)
  unfolding value_from
  value-step v = rw (add-one i) (rw (drop-cons w i 0 h))

pub value_grows : (v : ℕ) (w : List ℕ) → v ≤ value_from v w
unfolding value_from
value_grows v [] = le_refl v
value_grows v (d ∷ w) = omega (arith, value_grows (v * 10 + (d - 48)) w)

pub value_none : (v : ℕ) (w : List ℕ) (i : ℕ) → length w ≤ i → value_from v (drop i w) ≡ v
unfolding value_from
value_none v w i h = rw (drop_of_length-le w h)

pub value-over : (w : List ℕ) (i : ℕ) → i < length w → (v : ℕ) → 1000000000000000000 ≤ v → 10000000000000000000 ≤ value_from v (drop i w)
value-over w i h v l = rw (value-step w i h v) (omega (arith, value_grows (v * 10 + (get_or w i 0 - 48)) (drop (i + 1) w)))

pub is_mag-at : (s : List ℕ) (f t : ℕ) → f ≤ t → t ≤ length s
    → (ltb f t && (allb digit (slice f t s) && (not (eqb (get_or s f 0) 48) || eqb (t - f) 1))) ≡ is_mag (slice f t s)
unfolding is_mag
is_mag-at s f t h k = ⊎_elim
    (λ (e : f ≡ t). rw (length-slice f t s k, le-ltb f t (omega arith), le-ltb 0 (t - f) (omega arith)))
    (λ (l : f < t). rw (length-slice f t s k, lt-ltb f t l, lt-ltb 0 (t - f) (omega arith), slice-cons f t s 0 l k))
    (eq-or-lt_of_le h)

pub mag_digits : (s : List ℕ) → is_mag s ≡ true → allb digit s ≡ true
unfolding is_mag
mag_digits s e =
    let r : Bool = not (eqb (get_or s 0 0) 48) || eqb (length s) 1 in
    ((and-eq-true_iff (allb digit s) r).0 ((and-eq-true_iff (ltb 0 (length s)) (allb digit s && r)).0 e).1).0

-- ---- a magnitude and its value
module _ (s : List ℕ) where
  pub mag_not : is_mag s ≡ false → mag_of s ≡ Err Malformed
  unfolding mag_of
  mag_not e = rw e

  pub mag_over : is_mag s ≡ true → 10000000000000000000 ≤ value_from 0 s → mag_of s ≡ Err Range
  unfolding mag_of
  mag_over e h = rw (e, le-ltb (value_from 0 s) 10000000000000000000 h)

  pub mag_is : is_mag s ≡ true → (v : ℕ) → value_from 0 s ≡ v → v < 10000000000000000000 → mag_of s ≡ Ok v
  unfolding mag_of
  mag_is e v p h = rw (e, p, lt-ltb v 10000000000000000000 h)

  -- and back
  pub not_mag : mag_of s ≡ Err Malformed → is_mag s ≡ false
  unfolding mag_of
  not_mag p = go (is_mag s) (ltb (value_from 0 s) 10000000000000000000) p
    where
      go : (a b : Bool) → cond a (cond b (Ok (value_from 0 s)) (Err Range)) (Err Malformed) ≡ Err Malformed → a ≡ false
      go true true p = let z : ◌≡◌ {A = ℕ} 0 1 = cc in absurd (omega arith)
      go true false p = let z : ◌≡◌ {A = ℕ} 0 1 = cc in absurd (omega arith)
      go false b p = refl

  pub over_mag : mag_of s ≡ Err Range → (is_mag s ≡ true) × (10000000000000000000 ≤ value_from 0 s)
  unfolding mag_of
  over_mag p = let q = go (is_mag s) (ltb (value_from 0 s) 10000000000000000000) p in (q.0, ltb-false (value_from 0 s) 10000000000000000000 q.1)
    where
      go : (a b : Bool) → cond a (cond b (Ok (value_from 0 s)) (Err Range)) (Err Malformed) ≡ Err Range → (a ≡ true) × (b ≡ false)
      go true true p = let z : ◌≡◌ {A = ℕ} 0 1 = cc in absurd (omega arith)
      go true false p = (refl, refl)
      go false b p = let z : ◌≡◌ {A = ℕ} 0 1 = cc in absurd (omega arith)

  pub is_mag_lem : (v : ℕ) → mag_of s ≡ Ok v → (is_mag s ≡ true) × (value_from 0 s ≡ v)
  unfolding mag_of
  is_mag_lem v p = go (is_mag s) (ltb (value_from 0 s) 10000000000000000000) p
    where
      go : (a b : Bool) → cond a (cond b (Ok (value_from 0 s)) (Err Range)) (Err Malformed) ≡ Ok v → (a ≡ true) × (value_from 0 s ≡ v)
      go true true p = (refl, cc)
      go true false p = let z : ◌≡◌ {A = ℕ} 0 1 = cc in absurd (omega arith)
      go false b p = let z : ◌≡◌ {A = ℕ} 0 1 = cc in absurd (omega arith)

neg_suc : (v : ℕ) → (v ≡ 0 → ⊥) → neg_ℤ (pos v) ≡ negsuc (v - 1)
neg_suc zero n = absurd (n refl)
neg_suc (suc v) n = rw sub-one

-- ---- the readings, by magnitude
-- no magnitude, no reading, for the same reason
module _ (s : List ℕ) where
  pub positive_err : (e : NumberError) → mag_of s ≡ Err e → positive_of s ≡ Err e
  unfolding positive_of
  positive_err Malformed e = rw (not_mag s e)
  positive_err Range e = let m = over_mag s e in rw (m.0, le-ltb (value_from 0 s) 9223372036854775808 (omega arith))

  pub negative_err : (e : NumberError) → mag_of s ≡ Err e → negative_of s ≡ Err e
  unfolding negative_of
  negative_err Malformed e = rw (not_mag s e)
  negative_err Range e = let m = over_mag s e in rw (m.0, ne_eqb (value_from 0 s) 0 (λ z. omega arith), lt-leb (value_from 0 s) 9223372036854775808 (omega arith))

  pub bound_err : (e : NumberError) → mag_of s ≡ Err e → bound_of s ≡ Err e
  unfolding bound_of
  bound_err Malformed e = rw (not_mag s e)
  bound_err Range e = let m = over_mag s e in rw (m.0, lt-leb (value_from 0 s) max_count (omega arith))

module _ (s : List ℕ) (v : ℕ) (e : mag_of s ≡ Ok v) where
  pub positive-is : positive_of s ≡ cond (ltb v 9223372036854775808) (Ok (pos v)) (Err Range)
  unfolding positive_of
  positive-is = let m = is_mag_lem s v e in rw (m.0, m.1)

  pub negative_zero : v ≡ 0 → negative_of s ≡ Err Malformed
  unfolding negative_of
  negative_zero z = let m = is_mag_lem s v e in rw (m.0, m.1, z)

  pub negative_is : (v ≡ 0 → ⊥) → negative_of s ≡ cond (leb v 9223372036854775808) (Ok (negsuc (v - 1))) (Err Range)
  unfolding negative_of
  negative_is n = let m = is_mag_lem s v e in rw (m.0, m.1, ne_eqb v 0 n) (ap (λ (z : ℤ). cond (leb v 9223372036854775808) (Ok z) (Err Range)) (neg_suc v n))

  pub bound-is : bound_of s ≡ cond (leb v max_count) (Ok v) (Err Range)
  unfolding bound_of
  bound-is = let m = is_mag_lem s v e in rw (m.0, m.1)

-- ---- the sign
module _ (s : List ℕ) (f t : ℕ) (k : t ≤ length s) where
  pub number-none : f ≡ t → number_of (slice f t s) ≡ Err Malformed
  unfolding number_of positive_of is_mag
  number-none e = rw (e, slice_empty t s)

  pub number-minus : f < t → get_or s f 0 ≡ 45 → number_of (slice f t s) ≡ negative_of (slice (f + 1) t s)
  unfolding number_of
  number-minus l e = rw (add-one f) (rw (slice-cons f t s 0 l k, e))

  pub number-plain : f < t → (get_or s f 0 ≡ 45 → ⊥) → number_of (slice f t s) ≡ positive_of (slice f t s)
  unfolding number_of
  number-plain l n = rw (slice-cons f t s 0 l k, ne_eqb (get_or s f 0) 45 n)

-- the least i64 is reached from below zero: -1 - n is the number after n on the other side
pub minus_one : (n : ℕ) → negsuc 0 -ℤ pos n ≡ negsuc n
minus_one zero = refl
minus_one (suc n) = ap (λ (k : ℕ). negsuc (suc k)) (zero-add n)

pub minus-one_to_z : (n : ℕ) → n < 9223372036854775808 → negsuc 0 -ℤ to_z w64 n ≡ negsuc n
minus-one_to_z n h = rw (lt-ltb n 9223372036854775808 h) (minus_one n)

pub minus-one-fits : (n : ℕ) → n < 9223372036854775808 → SFits w64 (negsuc 0 -ℤ to_z w64 n)
minus-one-fits n h = rw (minus-one_to_z n h) (record { sfits = h })

pub minus-one-back : (n : ℕ) → n < 9223372036854775808 → to_z w64 (of_z w64 (negsuc 0 -ℤ to_z w64 n)) ≡ negsuc n
minus-one-back n h = to_z-of_z (minus-one-fits n h) ∙ minus-one_to_z n h
