-- Where an item ends, and what a name is, by position.
use Prim.Native.Nat.{ℕ, suc, ◌+◌, ◌-◌, ◌<◌, ◌≤◌, min, zero-le, suc-le-suc}
use mathlib.Core.Path.{◌≡◌, refl, sym, ap, ◌∙◌}
use mathlib.Core.List.{List, [], ◌∷◌}
use mathlib.Core.Bool.{Bool, true, false, cond, ◌&&◌}
use native.Mathlib.Numerals.{add-one}
use native.Mathlib.Nat.{add-zero, le_refl}
use native.Mathlib.Omega.{arith}
use borrow.Author.Tests.{ltb-true, ltb-false, leb-true, le-ltb, lt-ltb, le-leb, lt-leb}
use lib.Dec.{ltb, leb}
use lib.ListN.{length, get_or, take, drop, drop_of_length-le, length-drop}
use lib.Seq.{slice, drop-cons, length-slice}
use Rattle.base.specs.Lists.{allb}
use Rattle.base.proofs.Bools.{bool_cases, and_left, and_right}
use Rattle.text.specs.Items.{edge, item_len, item_end, name_byte, is_name}
use Rattle.model.specs.Limits.{max_name}
use Rattle.std.specs.List.{position_or_len}
use Rattle.std.specs.Option.{unwrap_or}
use Rattle.std.specs.Prelude.{Option, Some, None}
use Rattle.std.proofs.lemmas.List.Recursion.{is_position_or_len}
use Rattle.std.proofs.lemmas.Slice.{between_to_end}

module _ (s : List ℕ) (i : ℕ) where
  pub item_end_out : length s ≤ i → item_end s i ≡ i
  unfolding item_end item_len
  item_end_out h = rw (drop_of_length-le s h) (add-zero i)

  pub item_end-edge : i < length s → edge (get_or s i 0) ≡ true → item_end s i ≡ i
  unfolding item_end item_len
  item_end-edge h e = rw (drop-cons s i 0 h) (rw e (add-zero i))

  pub item_end-step : i < length s → edge (get_or s i 0) ≡ false → item_end s i ≡ item_end s (i + 1)
  unfolding item_end item_len
  item_end-step h e = rw (drop-cons s i 0 h, e, add-one) (omega arith)

step_le : (e : Bool) (m n : ℕ) → m ≤ n → cond e 0 (suc m) ≤ suc n
step_le true m n h = zero-le
step_le false m n h = suc-le-suc h

item_len_le : (s : List ℕ) → item_len s ≤ length s
unfolding item_len
item_len_le [] = zero-le
item_len_le (b ∷ s) = step_le (edge b) (item_len s) (length s) (item_len_le s)

pub item_end-from : (s : List ℕ) (i : ℕ) → i ≤ item_end s i
unfolding item_end
item_end-from s i = omega arith

pub item_end-within : (s : List ℕ) (i : ℕ) → i ≤ length s → item_end s i ≤ length s
unfolding item_end
item_end-within s i h = omega (arith, item_len_le (drop i s), length-drop i s)

-- ---- the first byte that ends an item, as the library finds it
len_first : (s : List ℕ) → item_len s ≡ position_or_len edge s
unfolding item_len
len_first s = is_position_or_len item_len edge refl (λ x xs. let e : suc (item_len xs) ≡ 1 + item_len xs = omega arith in ap (λ (n : ℕ). cond (edge x) 0 n) e) s

or_all : (m n : ℕ) (b : Bool) → ltb m n ≡ b → m ≤ n → unwrap_or (cond b (Some m) None) n ≡ m
or_all m n true e h = refl
or_all m n false e h = let k = ltb-false m n e in omega arith

-- from a position past the end nothing is left
rest_from : (s : List ℕ) (at m : ℕ) → m ≡ min at (length s) → drop m s ≡ drop at s
rest_from s at m e = bool_cases (λ b. ltb at (length s) ≡ b → drop m s ≡ drop at s) (ltb at (length s))
    (λ _ t. let l = ltb-true at (length s) t in let q : m ≡ at = omega arith in ap (λ (k : ℕ). drop k s) q)
    (λ _ t. let l = ltb-false at (length s) t in drop_of_length-le s (omega arith) ∙ sym (drop_of_length-le s l)) refl

pub item-found : (s : List ℕ) (at m : ℕ) → m ≡ min at (length s) → {p : Option ℕ} {r : ℕ} → let d = take (length s - m) (drop m s) in
    p ≡ cond (ltb (position_or_len edge d) (length d)) (Some (position_or_len edge d)) None → r ≡ unwrap_or p (length d) → at + r ≡ item_end s at
unfolding item_end
item-found s at m e {p} {r} q u =
    let d : List ℕ = take (length s - m) (drop m s) in
    let le : position_or_len edge d ≤ length d = omega (arith, len_first d, item_len_le d) in
    ap (λ (n : ℕ). at + n) (u ∙ ap (λ (o : Option ℕ). unwrap_or o (length d)) q ∙ or_all (position_or_len edge d) (length d) _ refl le ∙ sym (len_first d) ∙ ap item_len (between_to_end s m (length s) (le_refl (length s)) ∙ rest_from s at m e))

-- ---- where an end lies
-- ---- what a name is, by the length of a part
module _ (s : List ℕ) (f t : ℕ) (k : t ≤ length s) where
  pub is_name-none : t ≡ f → is_name (slice f t s) ≡ false
  unfolding is_name
  is_name-none e = rw (length-slice f t s k, le-ltb 0 (t - f) (omega arith))

  pub is_name-long : max_name < t - f → is_name (slice f t s) ≡ false
  unfolding is_name
  is_name-long h = rw (length-slice f t s k, lt-ltb 0 (t - f) (omega arith), lt-leb (t - f) max_name h)

  pub is_name-all : f ≤ t → (t ≡ f → ⊥) → t - f ≤ max_name → is_name (slice f t s) ≡ allb name_byte (slice f t s)
  unfolding is_name
  is_name-all h n l = rw (length-slice f t s k, lt-ltb 0 (t - f) (omega arith), le-leb (t - f) max_name l)

-- the three parts of what a name is
module _ (w : List ℕ) (e : is_name w ≡ true) where
  pub name_some : 0 < length w
  unfolding is_name
  name_some = borrow.Author.Tests.ltb-true 0 (length w) (and_left (ltb 0 (length w)) (leb (length w) max_name && allb name_byte w) e)

  pub name_short : length w ≤ max_name
  unfolding is_name
  name_short = leb-true (length w) max_name (and_left (leb (length w) max_name) (allb name_byte w) (and_right (ltb 0 (length w)) (leb (length w) max_name && allb name_byte w) e))

  pub name_bytes_lem : allb name_byte w ≡ true
  unfolding is_name
  name_bytes_lem = and_right (leb (length w) max_name) (allb name_byte w) (and_right (ltb 0 (length w)) (leb (length w) max_name && allb name_byte w) e)
