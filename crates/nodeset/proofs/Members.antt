-- The next member of a set, as a search word by word finds it.
use Prim.Native.Nat.{ℕ, zero, suc, ◌+◌, ◌-◌, ◌*◌, ◌/◌, ◌%◌, ◌^◌, ◌≤◌, ◌<◌}
use mathlib.Core.Bool.{Bool, true, false}
use mathlib.Core.List.{List}
use mathlib.Core.Path.{◌≡◌, refl, sym, ap, ap₂, ◌∙◌, subst}
use native.Mathlib.Nat.{le_of_suc-le-suc, lt_of_le_of_lt, lt_of_lt_of_le, div-eq_of_lt}
use native.Mathlib.Numerals.{one-add, add-one}
use native.Mathlib.Omega.{arith}
use lib.Dec.{eqb, ltb}
use lib.Arith.{lt-one, le-zero}
use lib.Count.{under, count_trailing_zeros}
use lib.ListN.{get_or}
use lib.Pow.{shr-shr, shr_lt, shr_le, pow_mono}
use borrow.Author.Tests.{ltb-true, ltb-false}
use Rattle.base.proofs.Bools.{bool_cases, never_both}
use Rattle.base.specs.Least.{next_from}
use Rattle.base.proofs.Least.{next_here, next_skip, next-none}
use Rattle.nodeset.specs.Words.{bit, has}
use Rattle.nodeset.proofs.Bits.{bit_zero}
use Rattle.nodeset.proofs.Sets.{has-at}

-- ---- the digits of a word from a place on

-- digit i from digit k on
bit_shr : (x k i : ℕ) → bit (x / 2 ^ k) i ≡ bit x (k + i)
unfolding bit
bit_shr x k i = ap (λ (y : ℕ). eqb (y % 2) 1) (shr-shr x k i)

bit_high : (x m j : ℕ) → x < 2 ^ m → m ≤ j → bit x j ≡ false
unfolding bit
bit_high x m j l h = ap (λ (y : ℕ). eqb (y % 2) 1) (div-eq_of_lt (lt_of_lt_of_le l (pow_mono h)))

bit-first : (x : ℕ) → bit x 0 ≡ eqb (x % 2) 1
unfolding bit
bit-first x = ap (λ (y : ℕ). eqb (y % 2) 1) (let e : x / 1 ≡ x = omega arith in e)

bit-rest : (x i : ℕ) → bit x (suc i) ≡ bit (x / 2) i
bit-rest x i = ap (bit x) (sym (one-add i)) ∙ sym (bit_shr x 1 i)

-- the zeros below the lowest digit that is set, and that digit
pub trailing_low : (k x i : ℕ) → i < count_trailing_zeros k x → bit x i ≡ false
unfolding count_trailing_zeros
trailing_low zero x i l = absurd (omega arith)
trailing_low (suc k) x i l = go i (x % 2) refl l (λ j h. trailing_low k (x / 2) j h)
  where
    go : (i d : ℕ) → x % 2 ≡ d → i < under d (count_trailing_zeros k (x / 2)) → ((j : ℕ) → j < count_trailing_zeros k (x / 2) → bit (x / 2) j ≡ false) → bit x i ≡ false
    go zero zero e l ih = bit-first x ∙ ap (λ (y : ℕ). eqb y 1) e
    go (suc i) zero e l ih = bit-rest x i ∙ ih i (le_of_suc-le-suc l)
    go i (suc d) e l ih = absurd (omega arith)

pub trailing_hit : (k x : ℕ) → 0 < x → x < 2 ^ k → bit x (count_trailing_zeros k x) ≡ true
unfolding count_trailing_zeros
trailing_hit zero x a b = absurd (omega (arith, lt-one b))
trailing_hit (suc k) x a b = go (x % 2) refl (λ h. trailing_hit k (x / 2) h (shr_lt k 1 (subst (λ (m : ℕ). x < 2 ^ m) (sym (add-one k)) b)))
  where
    go : (d : ℕ) → x % 2 ≡ d → (0 < x / 2 → bit (x / 2) (count_trailing_zeros k (x / 2)) ≡ true) → bit x (under d (count_trailing_zeros k (x / 2))) ≡ true
    go zero e ih = bit-rest x (count_trailing_zeros k (x / 2)) ∙ ih (omega arith)
    go (suc zero) e ih = bit-first x ∙ ap (λ (y : ℕ). eqb y 1) e
    go (suc (suc d)) e ih = absurd (omega arith)

-- ---- the search, word by word: what the word w of number i, with the digits of p, has from i on

module _ (p : ℕ → Bool) (i w : ℕ) (digits : (k : ℕ) → k < 64 → p (i / 64 * 64 + k) ≡ bit w k) where
  -- the word's digits from i on
  abbrev pub rest : ℕ
  rest = w / 2 ^ (i % 64)

  has_rest : (j : ℕ) → j < 64 - i % 64 → p (i + j) ≡ bit rest j
  has_rest j l =
      ap p (let e : i + j ≡ i / 64 * 64 + (i % 64 + j) = omega arith in e)
      ∙ digits (i % 64 + j) (omega arith) ∙ sym (bit_shr w (i % 64) j)

  -- nothing is left in the word
  rest-none : (x : ℕ) → x ≡ rest → x ≡ 0 → (j : ℕ) → j < 64 - i % 64 → p (i + j) ≡ false
  rest-none x e z j l = has_rest j l ∙ ap (λ (y : ℕ). bit y j) (sym e ∙ z) ∙ bit_zero j

  module _ (x : ℕ) (e : x ≡ rest) (pos : 0 < x) (small : w < 2 ^ 64) where
    rest_lt : x < 2 ^ (64 - i % 64)
    rest_lt = subst (λ (y : ℕ). y < 2 ^ (64 - i % 64)) (sym e) (shr_lt (64 - i % 64) (i % 64) (subst (λ (m : ℕ). w < 2 ^ m) (let q : 64 ≡ 64 - i % 64 + i % 64 = omega arith in q) small))

    x_lt : x < 2 ^ 64
    x_lt = subst (λ (y : ℕ). y < 2 ^ 64) (sym e) (lt_of_le_of_lt (shr_le w (i % 64)) small)

    -- the lowest digit that is set lies in the word
    place : count_trailing_zeros 64 x < 64 - i % 64
    place = bool_cases (λ b. ltb (count_trailing_zeros 64 x) (64 - i % 64) ≡ b → count_trailing_zeros 64 x < 64 - i % 64) (ltb (count_trailing_zeros 64 x) (64 - i % 64)) (λ _ h. ltb-true (count_trailing_zeros 64 x) (64 - i % 64) h)
        (λ _ h. absurd (never_both (trailing_hit 64 x pos x_lt) (bit_high x (64 - i % 64) (count_trailing_zeros 64 x) rest_lt (ltb-false (count_trailing_zeros 64 x) (64 - i % 64) h)))) refl

    rest-low : (j : ℕ) → j < count_trailing_zeros 64 x → p (i + j) ≡ false
    rest-low j l = has_rest j (omega (arith, place)) ∙ ap (λ (y : ℕ). bit y j) (sym e) ∙ trailing_low 64 x j l

    rest-hit : p (i + count_trailing_zeros 64 x) ≡ true
    rest-hit = has_rest (count_trailing_zeros 64 x) place ∙ ap (λ (y : ℕ). bit y (count_trailing_zeros 64 x)) (sym e) ∙ trailing_hit 64 x pos x_lt

  -- the search at i, where x is what the word has from i on
  module _ (n : ℕ) (l : i < n) (x : ℕ) (e : x ≡ rest) where
    pub search_hit : 0 < x → w < 2 ^ 64 → count_trailing_zeros 64 x < n - i → i + count_trailing_zeros 64 x ≡ next_from p i n
    search_hit pos small h = sym (next_skip p n (count_trailing_zeros 64 x) i (omega arith) (rest-low x e pos small) ∙ next_here p n (i + count_trailing_zeros 64 x) (omega arith) (rest-hit x e pos small))

    pub search_past : 0 < x → w < 2 ^ 64 → n - i ≤ count_trailing_zeros 64 x → n ≡ next_from p i n
    search_past pos small h = sym (next-none p n (count_trailing_zeros 64 x) i (omega arith) h (rest-low x e pos small))

    pub search_end : x ≤ 0 → n - i ≤ 64 - i % 64 → n ≡ next_from p i n
    search_end z h = sym (next-none p n (64 - i % 64) i (omega arith) h (rest-none x e (le-zero z)))

    pub search_on : x ≤ 0 → 64 - i % 64 < n - i → next_from p (i + (64 - i % 64)) n ≡ next_from p i n
    search_on z h = sym (next_skip p n (64 - i % 64) i (omega arith) (rest-none x e (le-zero z)))

-- the digits of two words put together are those of the two sets
pub kept-digits : (keeps : Bool → Bool → Bool) (a b : List ℕ) (i w : ℕ) → ((k : ℕ) → bit w k ≡ keeps (bit (get_or a (i / 64) 0) k) (bit (get_or b (i / 64) 0) k)) → (k : ℕ) → k < 64 → keeps (has a (i / 64 * 64 + k)) (has b (i / 64 * 64 + k)) ≡ bit w k
kept-digits keeps a b i w h k l = ap₂ keeps (has-at a (i / 64) k l) (has-at b (i / 64) k l) ∙ sym (h k)
