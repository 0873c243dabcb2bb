-- Laws of sets of words, for every number of words.
use Prim.Native.Nat.{ℕ, zero, suc, ◌+◌, ◌*◌, ◌/◌, ◌%◌, ◌^◌, ◌≤◌, ◌<◌}
use mathlib.Core.List.{List, [], ◌∷◌, ◌++◌}
use mathlib.Core.Bool.{Bool, true, false, not, cond, ◌&&◌, ◌||◌, or-false}
use mathlib.Core.Path.{◌≡◌, refl, sym, ap, ap₂, ◌∙◌, subst}
use native.Mathlib.Nat.{one-mul, lt_of_le_of_lt, mod-eq_of_lt, add-zero, zero-add, add-suc, suc-add}
use native.Mathlib.Numerals.{add-one}
use native.Mathlib.Omega.{arith}
use lib.Dec.{eqb, ltb, lit<}
use lib.Pow.{pow-lt}
use lib.ListN.{length, get_or, set, take, drop, replicate, length-set, length-replicate, get_or-eq_default}
use lib.Seq.{get_or-set_same, get_or-set_other, ext_get_or, get_or-take, get_or-drop, take-nil, drop-nil}
use lib.Bits.{bit_or, bit_and, and_le_r, or_lt}
use lib.Count.{ones}
use borrow.Author.Tests.{eq-eqb, ne_eqb, eqb-true, eqb-false, lt-ltb, le-ltb, ltb-true, ltb-false}
use Rattle.base.proofs.Lists.{zeros_at}
use Rattle.base.specs.Bounded.{size}
use Rattle.base.proofs.Bools.{same_test, eqb_comm}
use Rattle.base.proofs.Bounded.{size_ext, size_add, size_le}
use Rattle.nodeset.specs.Words.{bit, has, both, word_of, words_from, words_of, with, union, intersection, difference, ones_both}
use Rattle.nodeset.proofs.Bits.{bit-bit_or, bit-bit_and, bit_pow, bit_zero, ones_size, word_of-bit, word_of_ext, word_of_lt, bit-word_of, word_of-below}

-- ---- what words have

-- member k of word i
pub has-at : (ws : List ℕ) (i k : ℕ) → k < 64 → has ws (i * 64 + k) ≡ bit (get_or ws i 0) k
unfolding has
has-at ws i k l =
    let q : (i * 64 + k) / 64 ≡ i = omega arith in
    let r : (i * 64 + k) % 64 ≡ k = omega arith in
    ap₂ (λ (a b : ℕ). bit (get_or ws a 0) b) q r

-- nothing past the last word
pub has_out : (ws : List ℕ) (m : ℕ) → length ws ≤ m / 64 → has ws m ≡ false
unfolding has
has_out ws m l = ap (λ (y : ℕ). bit y (m % 64)) (get_or-eq_default ws 0 l) ∙ bit_zero (m % 64)

-- what a part from word i on has
pub has-drop : (ws : List ℕ) (i m : ℕ) → has (drop i ws) m ≡ has ws (i * 64 + m)
unfolding has
has-drop ws i m =
    let q : i + m / 64 ≡ (i * 64 + m) / 64 = omega arith in
    let r : m % 64 ≡ (i * 64 + m) % 64 = omega arith in
    ap (λ (y : ℕ). bit y (m % 64)) (get_or-drop i ws (m / 64) 0) ∙ ap₂ (λ (a b : ℕ). bit (get_or ws a 0) b) q r

-- what the first k words have
pub has-take : (ws : List ℕ) (k m : ℕ) → m < k * 64 → has (take k ws) m ≡ has ws m
unfolding has
has-take ws k m l = ap (λ (y : ℕ). bit y (m % 64)) (get_or-take k ws (m / 64) 0 (let e : m / 64 < k = omega arith in e))

-- ---- the words of a set

length-words_from : (p : ℕ → Bool) (i k : ℕ) → length (words_from p i k) ≡ k
unfolding words_from
length-words_from p i zero = refl
length-words_from p i (suc k) = ap suc (length-words_from p (suc i) k)

pub length-words_of : (p : ℕ → Bool) (k : ℕ) → length (words_of p k) ≡ k
unfolding words_of
length-words_of p k = length-words_from p 0 k

at-words_from : (p : ℕ → Bool) (i k j : ℕ) → j < k → get_or (words_from p i k) j 0 ≡ word_of (λ d. p ((i + j) * 64 + d)) 64
unfolding words_from
at-words_from p i zero j l = absurd (omega arith)
at-words_from p i (suc k) zero l = ap (λ (n : ℕ). word_of (λ d. p (n * 64 + d)) 64) (sym (add-zero i))
at-words_from p i (suc k) (suc j) l = at-words_from p (suc i) k j (omega arith) ∙ ap (λ (n : ℕ). word_of (λ d. p (n * 64 + d)) 64) (suc-add i j ∙ sym (add-suc i j))

pub at-words_of : (p : ℕ → Bool) (k j : ℕ) → j < k → get_or (words_of p k) j 0 ≡ word_of (λ d. p (j * 64 + d)) 64
unfolding words_of
at-words_of p k j l = at-words_from p 0 k j l ∙ ap (λ (n : ℕ). word_of (λ d. p (n * 64 + d)) 64) (zero-add j)

pub has-words_of : (p : ℕ → Bool) (k m : ℕ) → m < 64 * k → has (words_of p k) m ≡ p m
unfolding has
has-words_of p k m l =
    ap (λ (x : ℕ). bit x (m % 64)) (at-words_of p k (m / 64) (let e : m / 64 < k = omega arith in e))
    ∙ bit-word_of (λ d. p (m / 64 * 64 + d)) 64 (m % 64) (omega arith)
    ∙ ap p (let e : m / 64 * 64 + m % 64 ≡ m = omega arith in e)

pub small_words_of : (p : ℕ → Bool) (k i : ℕ) → get_or (words_of p k) i 0 < 2 ^ 64
small_words_of p k i = go (ltb i k) refl
  where
    go : (b : Bool) → ltb i k ≡ b → get_or (words_of p k) i 0 < 2 ^ 64
    go true e = subst (λ (x : ℕ). x < 2 ^ 64) (sym (at-words_of p k i (ltb-true i k e))) (word_of_lt (λ d. p (i * 64 + d)) 64)
    go false e = subst (λ (x : ℕ). x < 2 ^ 64) (sym (get_or-eq_default (words_of p k) 0 (subst (λ (x : ℕ). x ≤ i) (sym (length-words_of p k)) (ltb-false i k e)))) (lit< tt)

-- the canonical form: words that have what p has are the words of p
pub canonical : (ws : List ℕ) (p : ℕ → Bool) (k : ℕ) → length ws ≡ k → ((i : ℕ) → get_or ws i 0 < 2 ^ 64) → ((m : ℕ) → m < 64 * k → has ws m ≡ p m) → ws ≡ words_of p k
canonical ws p k e small h = ext_get_or 0 ws (words_of p k) (e ∙ sym (length-words_of p k)) λ i l.
    sym (word_of-bit 64 (get_or ws i 0) (small i))
    ∙ word_of_ext (bit (get_or ws i 0)) (λ d. p (i * 64 + d)) 64 (λ d ld. sym (has-at ws i d ld) ∙ h (i * 64 + d) (omega arith))
    ∙ sym (at-words_of p k i (let l' : i < k = omega arith in l'))

-- words are those of what they have
pub own : (ws : List ℕ) → ((i : ℕ) → get_or ws i 0 < 2 ^ 64) → ws ≡ words_of (has ws) (length ws)
own ws small = canonical ws (has ws) (length ws) refl small (λ m l. refl)

-- extensionality
pub words_of_ext : (p q : ℕ → Bool) (k : ℕ) → ((m : ℕ) → m < 64 * k → p m ≡ q m) → words_of p k ≡ words_of q k
words_of_ext p q k h = canonical (words_of p k) q k (length-words_of p k) (small_words_of p k) (λ m l. has-words_of p k m l ∙ h m l)

-- words that are the words of p
module _ {ws : List ℕ} (p : ℕ → Bool) (k : ℕ) (e : ws ≡ words_of p k) where
  pub has_of : (m : ℕ) → m < 64 * k → has ws m ≡ p m
  has_of m l = ap (λ (v : List ℕ). has v m) e ∙ has-words_of p k m l

  pub length_of : length ws ≡ k
  length_of = ap length e ∙ length-words_of p k

  pub small_of : (i : ℕ) → get_or ws i 0 < 2 ^ 64
  small_of i = subst (λ (v : List ℕ). get_or v i 0 < 2 ^ 64) (sym e) (small_words_of p k i)

-- ---- zeros

pub has_zeros : (k m : ℕ) → has (replicate k 0) m ≡ false
unfolding has
has_zeros k m = ap (λ (y : ℕ). bit y (m % 64)) (zeros_at k (m / 64)) ∙ bit_zero (m % 64)

pub zeros : (k : ℕ) → replicate k 0 ≡ words_of (λ m. false) k
zeros k = canonical (replicate k 0) (λ m. false) k (length-replicate k 0) (λ i. subst (λ (x : ℕ). x < 2 ^ 64) (sym (zeros_at k i)) (lit< tt)) (λ m l. has_zeros k m)

-- words over k zeros: what the words have below 64 * k
module _ (ws : List ℕ) (k : ℕ) (small : (i : ℕ) → get_or ws i 0 < 2 ^ 64) where
  pub over_zeros : take k ws ++ drop (length ws) (replicate k 0) ≡ words_of (has ws) k
  unfolding has
  over_zeros = canonical (take k ws ++ drop (length ws) (replicate k 0)) (has ws) k (many ws k) (λ i. fits i (ltb i k) refl) (λ m l. ap (λ (y : ℕ). bit y (m % 64)) (at ws k (m / 64) (let h : m / 64 < k = omega arith in h)))
    where
      many : (ws : List ℕ) (k : ℕ) → length (take k ws ++ drop (length ws) (replicate k 0)) ≡ k
      many [] k = ap (λ (l : List ℕ). length (l ++ replicate k 0)) (take-nil k) ∙ length-replicate k 0
      many (w ∷ ws) zero = ap (λ (l : List ℕ). length l) (drop-nil (length (w ∷ ws)))
      many (w ∷ ws) (suc k) = ap suc (many ws k)

      at : (ws : List ℕ) (k i : ℕ) → i < k → get_or (take k ws ++ drop (length ws) (replicate k 0)) i 0 ≡ get_or ws i 0
      at [] k i l = ap (λ (l : List ℕ). get_or (l ++ replicate k 0) i 0) (take-nil k) ∙ zeros_at k i
      at (w ∷ ws) zero i l = absurd (omega arith)
      at (w ∷ ws) (suc k) zero l = refl
      at (w ∷ ws) (suc k) (suc i) l = at ws k i (omega arith)

      fits : (i : ℕ) (b : Bool) → ltb i k ≡ b → get_or (take k ws ++ drop (length ws) (replicate k 0)) i 0 < 2 ^ 64
      fits i true e = subst (λ (x : ℕ). x < 2 ^ 64) (sym (at ws k i (ltb-true i k e))) (small i)
      fits i false e = subst (λ (x : ℕ). x < 2 ^ 64) (sym (get_or-eq_default (take k ws ++ drop (length ws) (replicate k 0)) 0 (subst (λ (x : ℕ). x ≤ i) (sym (many ws k)) (ltb-false i k e)))) (lit< tt)

-- ---- a word replaced

pub small_set : (ws : List ℕ) (i v : ℕ) → ((j : ℕ) → get_or ws j 0 < 2 ^ 64) → v < 2 ^ 64 → (j : ℕ) → get_or (set ws i v) j 0 < 2 ^ 64
small_set [] i v h l j = h j
small_set (w ∷ ws) zero v h l zero = l
small_set (w ∷ ws) zero v h l (suc j) = h (suc j)
small_set (w ∷ ws) (suc i) v h l zero = h zero
small_set (w ∷ ws) (suc i) v h l (suc j) = small_set ws i v (λ j. h (suc j)) l j

-- word i of the words of p replaced by that of q, which has the other numbers of p
pub set_words_lem : {ws : List ℕ} (p q : ℕ → Bool) (k i x : ℕ) → ws ≡ words_of p k → x < 2 ^ 64
    → ((m : ℕ) → m < 64 * k → m / 64 ≡ i → bit x (m % 64) ≡ q m) → ((m : ℕ) → m < 64 * k → (m / 64 ≡ i → ⊥) → p m ≡ q m) → set ws i x ≡ words_of q k
unfolding has
set_words_lem {ws} p q k i x e small here other = canonical (set ws i x) q k (length-set ws i x ∙ length_of p k e) (small_set ws i x (small_of p k e) small) (λ m l. go m l (eqb (m / 64) i) refl)
  where
    go : (m : ℕ) → m < 64 * k → (b : Bool) → eqb (m / 64) i ≡ b → bit (get_or (set ws i x) (m / 64) 0) (m % 64) ≡ q m
    go m l true f =
        let g : m / 64 ≡ i = eqb-true (m / 64) i f in
        ap (λ (j : ℕ). bit (get_or (set ws i x) j 0) (m % 64)) g ∙ ap (λ (y : ℕ). bit y (m % 64)) (get_or-set_same ws i x 0 (omega (arith, length_of p k e))) ∙ here m l g
    go m l false f =
        let ne : m / 64 ≡ i → ⊥ = eqb-false (m / 64) i f in
        ap (λ (y : ℕ). bit y (m % 64)) (get_or-set_other ws i (m / 64) x 0 ne) ∙ has_of p k e m l ∙ other m l ne

-- ---- words replaced from the first on

same-ltb : (a b c d : ℕ) → (a < b → c < d) → (c < d → a < b) → ltb a b ≡ ltb c d
same-ltb a b c d f g = same_test (ltb a b) (ltb c d) (λ e. lt-ltb c d (f (ltb-true a b e))) (λ e. lt-ltb a b (g (ltb-true c d e)))

-- the set p in the words before word i, and q from there on
abbrev pub up_to : (ℕ → Bool) → (ℕ → Bool) → ℕ → ℕ → Bool
up_to p q i m = cond (ltb (m / 64) i) (p m) (q m)

module _ (p q : ℕ → Bool) (k : ℕ) where
  up_to_by : (i m : ℕ) {b : Bool} → ltb (m / 64) i ≡ b → up_to p q i m ≡ cond b (p m) (q m)
  up_to_by i m e = ap (λ (b : Bool). cond b (p m) (q m)) e

  pub up_to-none : {ws : List ℕ} → ws ≡ words_of q k → ws ≡ words_of (up_to p q 0) k
  up_to-none e = e ∙ words_of_ext q (up_to p q 0) k (λ m l. sym (up_to_by 0 m (le-ltb (m / 64) 0 (omega arith))))

  pub up_to-more : {ws : List ℕ} (i x : ℕ) → ws ≡ words_of (up_to p q i) k → x < 2 ^ 64 → ((m : ℕ) → m < 64 * k → m / 64 ≡ i → bit x (m % 64) ≡ p m) → set ws i x ≡ words_of (up_to p q (i + 1)) k
  up_to-more i x e small h =
      set_words_lem (up_to p q i) (up_to p q (i + 1)) k i x e small
      (λ m l g. h m l g ∙ sym (up_to_by (i + 1) m (lt-ltb (m / 64) (i + 1) (omega arith))))
      (λ m l ne. up_to_by i m (same-ltb (m / 64) i (m / 64) (i + 1) (λ r. omega arith) (λ r. omega arith)))

  pub up_to-all : {ws : List ℕ} (i : ℕ) → i ≡ k → ws ≡ words_of (up_to p q i) k → ws ≡ words_of p k
  up_to-all i f e = e ∙ words_of_ext (up_to p q i) p k (λ m l. up_to_by i m (lt-ltb (m / 64) i (omega arith)))

-- ---- one more member

-- a single bit, as a shift makes it
pub shl_one : (k : ℕ) → k < 64 → (1 * 2 ^ k) % 2 ^ 64 ≡ 2 ^ k
shl_one k l = ap (λ (n : ℕ). n % 2 ^ 64) (one-mul (2 ^ k)) ∙ mod-eq_of_lt (pow-lt l)

-- as the code stores it
pub insert-code : (ws : List ℕ) (n : ℕ) → ((i : ℕ) → get_or ws i 0 < 2 ^ 64) → set ws (n / 64) (bit_or (get_or ws (n / 64) 0) ((1 * 2 ^ (n % 64)) % 2 ^ 64)) ≡ with ws n
unfolding with has
insert-code ws n small =
    ap (λ (x : ℕ). set ws (n / 64) (bit_or (get_or ws (n / 64) 0) x)) (shl_one (n % 64) (omega arith))
    ∙ set_words_lem (has ws) (λ m. has ws m || eqb m n) (length ws) (n / 64) (bit_or (get_or ws (n / 64) 0) (2 ^ (n % 64))) (own ws small)
    (or_lt 64 (get_or ws (n / 64) 0) (2 ^ (n % 64)) (small (n / 64)) (pow-lt {j = 64} (omega arith)))
    (λ m l e. bit-bit_or (get_or ws (n / 64) 0) (2 ^ (n % 64)) (m % 64) ∙ ap₂ (λ (a b : Bool). a || b) (ap (λ (i : ℕ). bit (get_or ws i 0) (m % 64)) (sym e)) (bit_pow (n % 64) (m % 64) ∙ digit m e))
    (λ m l ne. sym (or-false (has ws m)) ∙ ap (λ (b : Bool). has ws m || b) (sym (ne_eqb m n (λ q. ne (ap (λ (x : ℕ). x / 64) q)))))
  where
    digit : (m : ℕ) → m / 64 ≡ n / 64 → eqb (m % 64) (n % 64) ≡ eqb m n
    digit m e = same_test (eqb (m % 64) (n % 64)) (eqb m n) (λ h. eq-eqb m n (omega (arith, eqb-true (m % 64) (n % 64) h))) (λ h. eq-eqb (m % 64) (n % 64) (ap (λ (x : ℕ). x % 64) (eqb-true m n h)))

-- one more member of words of p: words of q
pub with-step : {ws : List ℕ} (p q : ℕ → Bool) (k n : ℕ) → ws ≡ words_of p k → ((m : ℕ) → m < 64 * k → (p m || eqb m n) ≡ q m) → with ws n ≡ words_of q k
unfolding with
with-step {ws} p q k n e h =
    ap (words_of (λ m. has ws m || eqb m n)) (length_of p k e)
    ∙ words_of_ext (λ m. has ws m || eqb m n) q k (λ m l. ap (λ (b : Bool). b || eqb m n) (has_of p k e m l) ∙ h m l)

-- the numbers below n + 1, in a loop that goes up
pub ltb-more : (m n : ℕ) → ltb m (n + 1) ≡ (ltb m n || eqb m n)
ltb-more m n = go (ltb m n) refl (eqb m n) refl
  where
    go : (b : Bool) → ltb m n ≡ b → (d : Bool) → eqb m n ≡ d → ltb m (n + 1) ≡ (b || d)
    go true e d f = lt-ltb m (n + 1) (omega (arith, ltb-true m n e))
    go false e true f = lt-ltb m (n + 1) (omega (arith, eqb-true m n f))
    go false e false f = le-ltb m (n + 1) (let h : n ≤ m = ltb-false m n e in let ne : m ≡ n → ⊥ = eqb-false m n f in omega arith)

-- what words have, and nothing more; and what they have with the one number of q
pub same-words : (ws : List ℕ) (q : ℕ → Bool) → ((i : ℕ) → get_or ws i 0 < 2 ^ 64) → ((m : ℕ) → q m ≡ false) → ws ≡ words_of (λ m. has ws m || q m) (length ws)
same-words ws q small h = own ws small ∙ words_of_ext (has ws) (λ m. has ws m || q m) (length ws) (λ m l. sym (or-false (has ws m)) ∙ ap (λ (b : Bool). has ws m || b) (sym (h m)))

pub with-words : (ws : List ℕ) (n : ℕ) (q : ℕ → Bool) → ((m : ℕ) → q m ≡ eqb m n) → with ws n ≡ words_of (λ m. has ws m || q m) (length ws)
unfolding with
with-words ws n q h = words_of_ext (λ m. has ws m || eqb m n) (λ m. has ws m || q m) (length ws) (λ m l. ap (λ (b : Bool). has ws m || b) (sym (h m)))

-- ---- two sets put together

module _ (f : Bool → Bool → Bool) (a b : List ℕ) where
  -- a turn of the loop that puts them together word by word, with the digits of the word by f
  pub combine_more : {ws : List ℕ} (k i x : ℕ) → ws ≡ words_of (up_to (λ m. f (has a m) (has b m)) (has a) i) k → x < 2 ^ 64
      → ((d : ℕ) → bit x d ≡ f (bit (get_or ws i 0) d) (bit (get_or b i 0) d)) → set ws i x ≡ words_of (up_to (λ m. f (has a m) (has b m)) (has a) (i + 1)) k
  unfolding has
  combine_more {ws} k i x e small h = up_to-more (λ m. f (has a m) (has b m)) (has a) k i x e small λ m l g.
      h (m % 64)
      ∙ ap₂ f
      (ap (λ (n : ℕ). bit (get_or ws n 0) (m % 64)) (sym g) ∙ has_of (up_to (λ m. f (has a m) (has b m)) (has a) i) k e m l ∙ up_to_by (λ m. f (has a m) (has b m)) (has a) k i m (le-ltb (m / 64) i (omega arith)))
      (ap (λ (n : ℕ). bit (get_or b n 0) (m % 64)) (sym g))

  -- of words of p and words of q
  combine_of : (p q : ℕ → Bool) (k : ℕ) → a ≡ words_of p k → b ≡ words_of q k → words_of (λ m. f (has a m) (has b m)) (length a) ≡ words_of (λ m. f (p m) (q m)) k
  combine_of p q k ea eb =
      ap (words_of (λ m. f (has a m) (has b m))) (length_of p k ea)
      ∙ words_of_ext (λ m. f (has a m) (has b m)) (λ m. f (p m) (q m)) k (λ m l. ap₂ f (has_of p k ea m l) (has_of q k eb m l))

module _ {a b : List ℕ} (p q : ℕ → Bool) (k : ℕ) (ea : a ≡ words_of p k) (eb : b ≡ words_of q k) where
  pub union_of_lem : union a b ≡ words_of (λ m. p m || q m) k
  unfolding union
  union_of_lem = combine_of (λ x y. x || y) a b p q k ea eb

  pub intersection_of : intersection a b ≡ words_of (λ m. p m && q m) k
  unfolding intersection
  intersection_of = combine_of (λ x y. x && y) a b p q k ea eb

  pub difference_of : difference a b ≡ words_of (λ m. p m && not (q m)) k
  unfolding difference
  difference_of = combine_of (λ x y. x && not y) a b p q k ea eb

-- a set of one number
pub single : (v k : ℕ) → with (replicate k 0) v ≡ words_of (λ m. eqb v m) k
single v k = with-step (λ m. false) (λ m. eqb v m) k v (zeros k) (λ m l. eqb_comm m v)

-- ---- the numbers below n

-- word i of them: r ones, as many as are in it
pub word_below : (n i r : ℕ) → r ≤ 64 → ((d : ℕ) → d < 64 → i * 64 + d < n → d < r) → ((d : ℕ) → d < 64 → d < r → i * 64 + d < n) → word_of (λ d. ltb (i * 64 + d) n) 64 + 1 ≡ 2 ^ r
word_below n i r l f g = ap (λ (x : ℕ). x + 1) (word_of_ext (λ d. ltb (i * 64 + d) n) (λ d. ltb d r) 64 (λ d h. same-ltb (i * 64 + d) n d r (f d h) (g d h))) ∙ word_of-below r 64 l

-- ---- the members that two sets share

-- the word of both sets
ones_word : (a b : List ℕ) (i : ℕ) → get_or b i 0 < 2 ^ 64 → ones (bit_and (get_or a i 0) (get_or b i 0)) ≡ size (λ d. both a b (i * 64 + d)) 64
ones_word a b i h =
    ones_size 64 (bit_and (get_or a i 0) (get_or b i 0)) (lt_of_le_of_lt (and_le_r (get_or a i 0) (get_or b i 0)) h)
    ∙ size_ext (bit (bit_and (get_or a i 0) (get_or b i 0))) (λ d. both a b (i * 64 + d)) 64 (λ d l. bit-bit_and (get_or a i 0) (get_or b i 0) d ∙ sym (ap₂ (λ (x y : Bool). x && y) (has-at a i d l) (has-at b i d l)))

-- in the first k words
pub size-first : (a b : List ℕ) (k : ℕ) → size (both (take k a) (take k b)) (k * 64) ≡ size (both a b) (k * 64)
size-first a b k = size_ext (both (take k a) (take k b)) (both a b) (k * 64) (λ m l. ap₂ (λ (x y : Bool). x && y) (has-take a k m l) (has-take b k m l))

-- the ones of the ANDed words are as many as the shared members
pub ones_both_lem : (a b : List ℕ) (k : ℕ) → ((i : ℕ) → get_or b i 0 < 2 ^ 64) → ones_both a b k ≡ size (both a b) (k * 64)
unfolding ones_both size
ones_both_lem a b zero h = refl
ones_both_lem a b (suc k) h =
    ap₂ (λ (x y : ℕ). x + y) (ones_both_lem a b k h) (ones_word a b k (h k)) ∙ sym (size_add (both a b) (k * 64) 64)
    ∙ ap (size (both a b)) (let e : k * 64 + 64 ≡ suc k * 64 = omega arith in e)

-- four words more
pub ones_four : (a b : List ℕ) (i : ℕ) → ones_both a b i + (ones (bit_and (get_or a i 0) (get_or b i 0)) + ones (bit_and (get_or a (i + 1) 0) (get_or b (i + 1) 0)) + ones (bit_and (get_or a (i + 2) 0) (get_or b (i + 2) 0)) + ones (bit_and (get_or a (i + 3) 0) (get_or b (i + 3) 0))) ≡ ones_both a b (i + 4)
unfolding ones_both
ones_four a b i =
    let p = ones_more a b i in
    let q = ones_more a b (i + 1) in
    let r = ones_more a b (i + 2) in
    let t = ones_more a b (i + 3) in
    omega (arith, p, ap (ones_both a b) (let z : i + 1 + 1 ≡ i + 2 = omega arith in z), q, ap (ones_both a b) (let z : i + 2 + 1 ≡ i + 3 = omega arith in z), r, ap (ones_both a b) (let z : i + 3 + 1 ≡ i + 4 = omega arith in z), t)
  where
    ones_more : (a b : List ℕ) (k : ℕ) → ones_both a b (k + 1) ≡ ones_both a b k + ones (bit_and (get_or a k 0) (get_or b k 0))
    ones_more a b k = ap (ones_both a b) (add-one k)

pub ones_both_le : (a b : List ℕ) (k : ℕ) → ((i : ℕ) → get_or b i 0 < 2 ^ 64) → ones_both a b k ≤ k * 64
ones_both_le a b k h = subst (λ (n : ℕ). n ≤ k * 64) (sym (ones_both_lem a b k h)) (size_le (both a b) (k * 64))
