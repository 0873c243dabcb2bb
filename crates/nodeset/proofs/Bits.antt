-- The binary digits of words: of words put together digit by digit, of a single bit, of a word made from its digits, and how many are set.
use Prim.Native.Nat.{ℕ, zero, suc, ◌+◌, ◌-◌, ◌*◌, ◌/◌, ◌%◌, ◌^◌, ◌≤◌, ◌<◌}
use mathlib.Core.Bool.{Bool, true, false, not, ◌&&◌, ◌||◌}
use mathlib.Core.Path.{◌≡◌, refl, sym, ap, ap₂, ◌∙◌, subst}
use mathlib.Core.Logic.{◌⊎◌, inl, inr, ⊎_elim}
use native.Mathlib.Nat.{le_refl, le-suc, le_trans, mod-lt, div-eq_of_lt, div_self, mul_comm, mul-div_cancel, mul-mod_left, pow-suc, eq-or-lt_of_le, le_of_suc-le-suc}
use native.Mathlib.Numerals.{add-one, one-add}
use native.Mathlib.Omega.{arith}
use lib.Dec.{eqb, ltb, lit<}
use lib.Arith.{digits_lt, lt-one, le-zero}
use lib.Pow.{pow_pos, pow-lt, pow-add, shr_lt, split, high, low, field, mod-mod-pow}
use lib.Bits.{bit_or, bit_and, bit_xor, or_shr, and_shr, xor_shr, or_mod, and_mod, xor_mod}
use lib.Count.{ones, ones_cat}
use borrow.Author.Tests.{eqb-true, eqb-false, lt-ltb, le-ltb, ltb-true, ltb-false}
use Rattle.base.specs.Bounded.{one, size}
use Rattle.nodeset.specs.Words.{bit, word_of}
use Rattle.base.proofs.Bounded.{size_ext}

pub two : (P : ℕ → Type 0) → P 0 → P 1 → (x : ℕ) → x < 2 → P x
two P a b zero h = a
two P a b (suc zero) h = b
two P a b (suc (suc x)) h = absurd (omega arith)

two_pos : 0 < 2
two_pos = lit< tt

-- an operation that goes digit by digit, and the test that it is on digits
module _ (op : ℕ → ℕ → ℕ) (f : Bool → Bool → Bool)
    (shr : (a b k : ℕ) → op a b / 2 ^ k ≡ op (a / 2 ^ k) (b / 2 ^ k)) (low1 : (a b k : ℕ) → op a b % 2 ^ k ≡ op (a % 2 ^ k) (b % 2 ^ k))
    (e00 : eqb (op 0 0) 1 ≡ f false false) (e01 : eqb (op 0 1) 1 ≡ f false true) (e10 : eqb (op 1 0) 1 ≡ f true false) (e11 : eqb (op 1 1) 1 ≡ f true true) where
  digit : (x y : ℕ) → x < 2 → y < 2 → eqb (op x y) 1 ≡ f (eqb x 1) (eqb y 1)
  digit x y hx hy =
      two (λ (x : ℕ). eqb (op x y) 1 ≡ f (eqb x 1) (eqb y 1))
      (two (λ (y : ℕ). eqb (op 0 y) 1 ≡ f (eqb 0 1) (eqb y 1)) e00 e01 y hy)
      (two (λ (y : ℕ). eqb (op 1 y) 1 ≡ f (eqb 1 1) (eqb y 1)) e10 e11 y hy) x hx

  bit_op : (a b k : ℕ) → bit (op a b) k ≡ f (bit a k) (bit b k)
  unfolding bit
  bit_op a b k = ap (λ (x : ℕ). eqb (x % 2) 1) (shr a b k) ∙ ap (λ (x : ℕ). eqb x 1) (low1 (a / 2 ^ k) (b / 2 ^ k) 1) ∙ digit (a / 2 ^ k % 2) (b / 2 ^ k % 2) (mod-lt (a / 2 ^ k) two_pos) (mod-lt (b / 2 ^ k) two_pos)

pub bit-bit_or : (a b k : ℕ) → bit (bit_or a b) k ≡ (bit a k || bit b k)
bit-bit_or = bit_op bit_or (λ a b. a || b) or_shr or_mod refl refl refl refl

pub bit-bit_and : (a b k : ℕ) → bit (bit_and a b) k ≡ (bit a k && bit b k)
bit-bit_and = bit_op bit_and (λ a b. a && b) and_shr and_mod refl refl refl refl

-- of a ^ (a & b)
pub bit_without : (a b k : ℕ) → bit (bit_xor a (bit_and a b)) k ≡ (bit a k && not (bit b k))
bit_without = bit_op (λ a b. bit_xor a (bit_and a b)) (λ a b. a && not b)
    (λ a b k. xor_shr a (bit_and a b) k ∙ ap (bit_xor (a / 2 ^ k)) (and_shr a b k)) (λ a b k. xor_mod a (bit_and a b) k ∙ ap (bit_xor (a % 2 ^ k)) (and_mod a b k)) refl refl refl refl

pub bit_zero : (k : ℕ) → bit 0 k ≡ false
unfolding bit
bit_zero k = ap (λ (x : ℕ). eqb (x % 2) 1) (div-eq_of_lt (pow_pos k))

-- the digits of a power of two
pub bit_pow : (j k : ℕ) → bit (2 ^ j) k ≡ eqb k j
unfolding bit
bit_pow j k = go (eqb k j) refl
  where
    more : (d : ℕ) → 2 ^ (suc d + k) / 2 ^ k % 2 ≡ 0
    more d = ap (λ (x : ℕ). x / 2 ^ k % 2) (pow-add 2 (suc d) k) ∙ ap (λ (x : ℕ). x % 2) (mul-div_cancel (2 ^ suc d) (pow_pos k)) ∙ ap (λ (x : ℕ). x % 2) (pow-suc 2 d) ∙ mul-mod_left (2 ^ d) 2

    other : (k ≡ j → ⊥) → (j < k) ⊎ (k < j) → 2 ^ j / 2 ^ k % 2 ≡ 0
    other ne (inl l) = ap (λ (x : ℕ). x % 2) (div-eq_of_lt (pow-lt l))
    other ne (inr l) = subst (λ (n : ℕ). 2 ^ n / 2 ^ k % 2 ≡ 0) (let e : suc (j - suc k) + k ≡ j = omega arith in e) (more (j - suc k))

    side : (k ≡ j → ⊥) → (b : Bool) → ltb j k ≡ b → (j < k) ⊎ (k < j)
    side ne true e = inl (ltb-true j k e)
    side ne false e = inr (let l : k ≤ j = ltb-false j k e in omega arith)

    go : (b : Bool) → eqb k j ≡ b → eqb (2 ^ j / 2 ^ k % 2) 1 ≡ b
    go true e = ap (λ (n : ℕ). eqb (2 ^ n / 2 ^ k % 2) 1) (sym (eqb-true k j e)) ∙ ap (λ (n : ℕ). eqb (n % 2) 1) (div_self (pow_pos k))
    go false e = ap (λ (n : ℕ). eqb n 1) (other (eqb-false k j e) (side (eqb-false k j e) (ltb j k) refl))

-- the digits below m are those of the remainder
pub bit_mod : (x m k : ℕ) → k < m → bit (x % 2 ^ m) k ≡ bit x k
unfolding bit
bit_mod x m k l =
    let d : ℕ = m - suc k in
    let e : suc d + k ≡ m = omega arith in
    ap (λ (n : ℕ). eqb (x % 2 ^ n / 2 ^ k % 2) 1) (sym e) ∙ ap (λ (n : ℕ). eqb (n % 2) 1) (field x (suc d) k)
    ∙ ap (λ (n : ℕ). eqb (x / 2 ^ k % 2 ^ n % 2) 1) (sym (add-one d)) ∙ ap (λ (n : ℕ). eqb n 1) (mod-mod-pow (x / 2 ^ k) d 1)

-- ones: how many digits are set
one_ones : (x : ℕ) → x < 2 → ones x ≡ one (eqb (x % 2) 1)
unfolding ones one
one_ones = two (λ (x : ℕ). ones x ≡ one (eqb (x % 2) 1)) refl refl

pub ones_size : (k x : ℕ) → x < 2 ^ k → ones x ≡ size (bit x) k
unfolding ones size bit
ones_size zero x h = ap ones (lt-one h)
ones_size (suc k) x h =
    ap ones (sym (split x k)) ∙ ones_cat k (x / 2 ^ k) (x % 2 ^ k) (mod-lt x (pow_pos k))
    ∙ ap₂ (λ (a b : ℕ). a + b)
    (one_ones (x / 2 ^ k) (shr_lt 1 k (subst (λ (n : ℕ). x < 2 ^ n) (sym (one-add k)) h)))
    (ones_size k (x % 2 ^ k) (mod-lt x (pow_pos k)) ∙ size_ext (bit (x % 2 ^ k)) (bit x) k (λ i l. bit_mod x k i l))

-- a word put together from its digits
pub word_of_lt : (p : ℕ → Bool) (k : ℕ) → word_of p k < 2 ^ k
unfolding word_of one
word_of_lt p zero = lit< tt
word_of_lt p (suc k) = subst (λ (n : ℕ). one (p k) * 2 ^ k + word_of p k < n) (sym (pow-suc 2 k ∙ mul_comm (2 ^ k) 2)) (digits_lt (small (p k)) (word_of_lt p k))
  where
    small : (b : Bool) → one b < 2
    small true = lit< tt
    small false = lit< tt

pub word_of_ext : (p q : ℕ → Bool) (k : ℕ) → ((i : ℕ) → i < k → p i ≡ q i) → word_of p k ≡ word_of q k
unfolding word_of
word_of_ext p q zero h = refl
word_of_ext p q (suc k) h = ap₂ (λ (a : Bool) (b : ℕ). one a * 2 ^ k + b) (h k (le_refl (suc k))) (word_of_ext p q k (λ i l. h i (le_trans l (le-suc k))))

one_bit : (x : ℕ) → x < 2 → one (eqb (x % 2) 1) ≡ x
unfolding one
one_bit = two (λ (x : ℕ). one (eqb (x % 2) 1) ≡ x) refl refl

pub word_of-bit : (k x : ℕ) → x < 2 ^ k → word_of (bit x) k ≡ x
unfolding word_of bit
word_of-bit zero x h = sym (lt-one h)
word_of-bit (suc k) x h =
    ap₂ (λ (a b : ℕ). a * 2 ^ k + b)
    (one_bit (x / 2 ^ k) (shr_lt 1 k (subst (λ (n : ℕ). x < 2 ^ n) (sym (one-add k)) h)))
    (word_of_ext (bit x) (bit (x % 2 ^ k)) k (λ i l. sym (bit_mod x k i l)) ∙ word_of-bit k (x % 2 ^ k) (mod-lt x (pow_pos k)))
    ∙ split x k

bit-one : (b : Bool) → eqb (one b % 2) 1 ≡ b
unfolding one
bit-one true = refl
bit-one false = refl

pub bit-word_of : (p : ℕ → Bool) (m k : ℕ) → k < m → bit (word_of p m) k ≡ p k
unfolding bit word_of
bit-word_of p zero k l = absurd (omega arith)
bit-word_of p (suc m) k l = ⊎_elim (λ e. top e) (λ l'. low_digit l' (bit-word_of p m k l')) (eq-or-lt_of_le (le_of_suc-le-suc l))
  where
    top : k ≡ m → eqb (word_of p (suc m) / 2 ^ k % 2) 1 ≡ p k
    top e = ap (λ (n : ℕ). eqb (word_of p (suc m) / 2 ^ n % 2) 1) e ∙ ap (λ (n : ℕ). eqb (n % 2) 1) (high (one (p m)) m (word_of_lt p m)) ∙ bit-one (p m) ∙ ap p (sym e)

    low_digit : k < m → bit (word_of p m) k ≡ p k → eqb (word_of p (suc m) / 2 ^ k % 2) 1 ≡ p k
    low_digit l' ih = sym (bit_mod (word_of p (suc m)) m k l') ∙ ap (λ (n : ℕ). bit n k) (low (one (p m)) m (word_of_lt p m)) ∙ ih

-- the word of the digits below r alone
pub word_of-below : (r k : ℕ) → r ≤ k → word_of (λ j. ltb j r) k + 1 ≡ 2 ^ r
unfolding word_of one
word_of-below r zero h = ap (λ (n : ℕ). 2 ^ n) (sym (le-zero h))
word_of-below r (suc k) h = ⊎_elim (λ e. top e (word_of-below k k (le_refl k))) (λ l. rest (le_of_suc-le-suc l) (word_of-below r k (le_of_suc-le-suc l))) (eq-or-lt_of_le h)
  where
    rest : r ≤ k → word_of (λ j. ltb j r) k + 1 ≡ 2 ^ r → one (ltb k r) * 2 ^ k + word_of (λ j. ltb j r) k + 1 ≡ 2 ^ r
    rest l e = rw (le-ltb k r l) (omega arith)

    top : r ≡ suc k → word_of (λ j. ltb j k) k + 1 ≡ 2 ^ k → one (ltb k r) * 2 ^ k + word_of (λ j. ltb j r) k + 1 ≡ 2 ^ r
    top q e =
        let w : word_of (λ j. ltb j r) k ≡ word_of (λ j. ltb j k) k = word_of_ext (λ j. ltb j r) (λ j. ltb j k) k (λ j l. lt-ltb j r (omega arith) ∙ sym (lt-ltb j k l)) in
        rw (lt-ltb k r (omega arith)) (omega (arith, ap (λ (n : ℕ). 2 ^ n) q, pow-suc 2 k))
