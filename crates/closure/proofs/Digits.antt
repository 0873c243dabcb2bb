-- The digits of a word: the lowest and the highest that is set, a digit taken away, and the word of a row that names 64 nodes.
use Prim.Native.Nat.{ℕ, suc, ◌+◌, ◌-◌, ◌*◌, ◌/◌, ◌%◌, ◌^◌, ◌≤◌, ◌<◌}
use mathlib.Core.Bool.{Bool, true, false, not, ◌&&◌, ◌||◌, and-false}
use mathlib.Core.List.{List}
use mathlib.Core.Logic.{⊎_elim}
use mathlib.Core.Path.{◌≡◌, refl, sym, ap, ap₂, ◌∙◌, subst}
use native.Mathlib.Nat.{div-eq_of_lt, div-eq_of_lt-le, eq-or-lt_of_le, pow-suc}
use native.Mathlib.Omega.{arith}
use lib.Bits.{bit_or, bit_and, bit_xor}
use lib.Count.{count_leading_zeros, leading_top, count_trailing_zeros, trailing_le}
use lib.Dec.{eqb}
use lib.ListN.{length, get_or, take, drop, length-drop}
use lib.Seq.{length-take-le}
use borrow.Author.Tests.{eq-eqb, eqb-true}
use Rattle.base.proofs.Bounded.{grown}
use Rattle.base.specs.Bounded.{size}
use Rattle.base.proofs.Bools.{bool_cases, and_left, never_both}
use Rattle.nodeset.specs.Words.{bit, has}
use Rattle.nodeset.proofs.Bits.{bit-bit_or, bit_without, bit_zero, bit_pow}
use Rattle.nodeset.proofs.Members.{trailing_hit}
use Rattle.nodeset.proofs.Sets.{shl_one, has-take, has-drop}
use Rattle.std.specs.List.{list_all}
use Rattle.std.proofs.lemmas.List.Folds.{list_all_at}
use Rattle.model.specs.Limits.{max_nodes}
use Rattle.closure.specs.Rows.{leads}

-- the word of row v that names m
pub leads-word : (rows : List ℕ) (v m : ℕ) → leads rows v m ≡ bit (get_or rows (16 * v + m / 64) 0) (m % 64)
unfolding has
leads-word rows v m = ap₂ (λ (i d : ℕ). bit (get_or rows i 0) d) (let z : (max_nodes * v + m) / 64 ≡ 16 * v + m / 64 = omega arith in z) (let z : (max_nodes * v + m) % 64 ≡ m % 64 = omega arith in z)

-- no digit past the word
bit_past : (x k : ℕ) → x < 2 ^ k → bit x k ≡ false
unfolding bit
bit_past x k l = ap (λ (y : ℕ). eqb (y % 2) 1) (div-eq_of_lt l)

-- the digit at the number's length
bit-top : (x k : ℕ) → 2 ^ k ≤ x → x < 2 ^ suc k → bit x k ≡ true
unfolding bit
bit-top x k low high = ap (λ (y : ℕ). eqb (y % 2) 1) (div-eq_of_lt-le {k = 1} (2 ^ k) (omega arith) (omega (arith, pow-suc 2 k)))

pub low_digit : (x : ℕ) → 0 < x → x < 2 ^ 64 → (count_trailing_zeros 64 x < 64) × (bit x (count_trailing_zeros 64 x) ≡ true)
low_digit x pos small = (⊎_elim (λ e. absurd (never_both (subst (λ (k : ℕ). bit x k ≡ true) e (trailing_hit 64 x pos small)) (bit_past x 64 small))) (λ l. l) (eq-or-lt_of_le (trailing_le 64 x)), trailing_hit 64 x pos small)

pub high_digit : (x : ℕ) → 0 < x → x < 2 ^ 64 → (63 - count_leading_zeros 64 x < 64) × (bit x (63 - count_leading_zeros 64 x) ≡ true)
high_digit x pos small =
    let (j, e, low, high) = leading_top 64 x pos small in
    (omega arith, ap (bit x) (let z : 63 - count_leading_zeros 64 x ≡ j = omega arith in z) ∙ bit-top x j low high)

pub leading_less : (x : ℕ) → 0 < x → x < 2 ^ 64 → count_leading_zeros 64 x ≤ 63
leading_less x pos small = let (j, e, low, high) = leading_top 64 x pos small in omega arith

-- the single digit that a shift makes
pub shifted-digit : (k : ℕ) → k < 64 → bit ((1 * 2 ^ k) % 2 ^ 64) k ≡ true
shifted-digit k l = ap (λ (x : ℕ). bit x k) (shl_one k l) ∙ bit_pow k k ∙ eq-eqb k k refl

-- word i of row v, in a copy of it
pub row_word : (rows : List ℕ) (v i m : ℕ) → m < 64 * 16 → m / 64 ≡ i → bit (get_or rows (16 * v + i) 0) (m % 64) ≡ leads rows v m
row_word rows v i m l e = ap (λ (j : ℕ). bit (get_or rows (16 * v + j) 0) (m % 64)) (sym e) ∙ sym (leads-word rows v m)

-- row v, as it is lent
module _ (rows : List ℕ) (v : ℕ) (room : 16 * v + 16 ≤ length rows) where
  abbrev pub row_in : List ℕ
  row_in = take (16 * v + 16 - 16 * v) (drop (16 * v) rows)

  has_row : (w : ℕ) → w < max_nodes → has row_in w ≡ leads rows v w
  has_row w l = has-take (drop (16 * v) rows) (16 * v + 16 - 16 * v) w (omega arith) ∙ has-drop rows (16 * v) w ∙ ap (has rows) (let z : 16 * v * 64 + w ≡ max_nodes * v + w = omega arith in z)

  length_row : length row_in ≡ 16
  length_row = length-take-le (16 * v + 16 - 16 * v) (drop (16 * v) rows) (omega (arith, room, length-drop (16 * v) rows)) ∙ omega arith

  -- nothing in its words
  pub row_empty : list_all (λ x. eqb x 0) row_in ≡ true → (w : ℕ) → w < max_nodes → leads rows v w ≡ false
  unfolding has
  row_empty e w l = sym (has_row w l) ∙ ap (λ (x : ℕ). bit x (w % 64)) (bool_cases (λ b. eqb (get_or row_in (w / 64) 0) 0 ≡ b → get_or row_in (w / 64) 0 ≡ 0) (eqb (get_or row_in (w / 64) 0) 0)
      (λ _ h. eqb-true (get_or row_in (w / 64) 0) 0 h)
      (λ _ h. absurd (never_both e (list_all_at (λ x. eqb x 0) row_in (w / 64) 0 (omega (arith, length_row)) h))) refl) ∙ bit_zero (w % 64)

-- a word and one digit more, taken from a word
pub drop-digit : (x word d : ℕ) → d < 64 → (y : ℕ) → bit (bit_xor x (bit_and x (bit_or word ((1 * 2 ^ d) % 2 ^ 64)))) y ≡ (bit x y && not (bit word y || eqb y d))
drop-digit x word d l y =
    bit_without x (bit_or word ((1 * 2 ^ d) % 2 ^ 64)) y
    ∙ ap (λ (b : Bool). bit x y && not b) (bit-bit_or word ((1 * 2 ^ d) % 2 ^ 64) y ∙ ap (λ (b : Bool). bit word y || b) (ap (λ (z : ℕ). bit z y) (shl_one d l) ∙ bit_pow d y))

-- one digit alone
pub drop-one : (x d : ℕ) → d < 64 → (y : ℕ) → bit (bit_xor x (bit_and x ((1 * 2 ^ d) % 2 ^ 64))) y ≡ (bit x y && not (eqb y d))
drop-one x d l y = bit_without x ((1 * 2 ^ d) % 2 ^ 64) y ∙ ap (λ (b : Bool). bit x y && not b) (ap (λ (z : ℕ). bit z y) (shl_one d l) ∙ bit_pow d y)

-- fewer digits are set where one is gone and none is new
pub fewer_digits : (x y d : ℕ) → d < 64 → bit x d ≡ true → bit y d ≡ false → ((k : ℕ) → bit y k ≡ true → bit x k ≡ true) → size (bit y) 64 < size (bit x) 64
fewer_digits x y d l h gone less = ⊎_elim (λ same. absurd (never_both (sym (same d l) ∙ h) gone)) (λ g. g) (grown (bit y) (bit x) less 64)

pub drop_sub : (x d : ℕ) → d < 64 → (y : ℕ) → bit (bit_xor x (bit_and x ((1 * 2 ^ d) % 2 ^ 64))) y ≡ true → bit x y ≡ true
drop_sub x d l y h = and_left (bit x y) (not (eqb y d)) (sym (drop-one x d l y) ∙ h)

pub drop-less : (x d : ℕ) → d < 64 → bit x d ≡ true → size (bit (bit_xor x (bit_and x ((1 * 2 ^ d) % 2 ^ 64)))) 64 < size (bit x) 64
drop-less x d l h = fewer_digits x (bit_xor x (bit_and x ((1 * 2 ^ d) % 2 ^ 64))) d l h (drop-one x d l d ∙ ap (λ (b : Bool). bit x d && not b) (eq-eqb d d refl) ∙ and-false (bit x d)) (drop_sub x d l)
