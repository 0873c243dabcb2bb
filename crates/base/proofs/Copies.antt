-- The first values of a list over those of another.
use Prim.Native.Nat.{ℕ, zero, suc, ◌+◌, ◌<◌, ◌≤◌, min}
use mathlib.Core.List.{List, [], ◌∷◌, ◌++◌}
use mathlib.Core.Path.{◌≡◌, refl, sym, ap, ◌∙◌}
use native.Mathlib.Numerals.{add-one}
use native.Mathlib.Omega.{arith}
use lib.ListN.{length, get_or, set, take, drop, length-drop}
use lib.Seq.{take-nil, drop-nil, take_all, length-take-le}

module _ {A : Type 0} where
  -- as many as there is room for, and then what stood there
  abbrev pub over : List A → List A → List A
  over old xs = take (length old) xs ++ drop (length xs) old

  pub over-none : (old : List A) → over old [] ≡ old
  over-none old = ap (λ (l : List A). l ++ old) (take-nil (length old))

  -- one value more
  over_suc : (d : A) (old xs : List A) (i : ℕ) → i < length xs → set (over old (take i xs)) i (get_or xs i d) ≡ over old (take (suc i) xs)
  over_suc d old [] i l = absurd (omega arith)
  over_suc d [] (x ∷ xs) i l = ap (λ (r : List A). set r i (get_or (x ∷ xs) i d)) (drop-nil (length (take i (x ∷ xs)))) ∙ sym (drop-nil (length (take (suc i) (x ∷ xs))))
  over_suc d (y ∷ old) (x ∷ xs) zero l = ap (λ (r : List A). x ∷ r) (sym (over-none old))
  over_suc d (y ∷ old) (x ∷ xs) (suc i) l = ap (λ (r : List A). x ∷ r) (over_suc d old xs i (omega arith))

  pub over_more : {now : List A} (d : A) (old xs : List A) (i : ℕ) → i < length xs → now ≡ over old (take i xs) → set now i (get_or xs i d) ≡ over old (take (i + 1) xs)
  over_more d old xs i l e = ap (λ (r : List A). set r i (get_or xs i d)) e ∙ over_suc d old xs i l ∙ ap (λ (n : ℕ). over old (take n xs)) (sym (add-one i))

  pub over-all : {now : List A} (old xs : List A) (i : ℕ) → length xs ≤ i → now ≡ over old (take i xs) → now ≡ over old xs
  over-all old xs i l e = e ∙ ap (over old) (take_all i xs l)

  -- what there is no room for counts for nothing
  pub over_room : (old xs : List A) (n : ℕ) → n ≡ min (length old) (length xs) → over old (take n xs) ≡ over old xs
  over_room [] xs n e = drop-nil (length (take n xs)) ∙ sym (drop-nil (length xs))
  over_room (y ∷ old) [] n e = ap (over (y ∷ old)) (take-nil n)
  over_room (y ∷ old) (x ∷ xs) zero e = absurd (omega arith)
  over_room (y ∷ old) (x ∷ xs) (suc n) e = ap (λ (r : List A). x ∷ r) (over_room old xs n (omega arith))

  -- as many values as there is room for are all that stands there
  pub over_whole : (old xs : List A) → length old ≡ length xs → over old xs ≡ xs
  over_whole [] [] e = refl
  over_whole [] (x ∷ xs) e = absurd (omega arith)
  over_whole (y ∷ old) [] e = absurd (omega arith)
  over_whole (y ∷ old) (x ∷ xs) e = ap (λ (r : List A). x ∷ r) (over_whole old xs (omega arith))

  pub over_part : (l xs : List A) (at n : ℕ) → n ≡ length xs → at + length xs ≤ length l → over (take n (drop at l)) xs ≡ xs
  over_part l xs at n e room = over_whole (take n (drop at l)) xs (length-take-le n (drop at l) (omega (arith, length-drop at l)) ∙ e)
