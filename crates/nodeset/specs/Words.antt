-- A set of numbers as words of 64 bits: n is at bit n mod 64 of word n div 64. For any number of words; a node set has sixteen.
use Rattle.std.specs.Prelude.{ℕ, zero, suc, ◌+◌, ◌*◌, ◌/◌, ◌%◌, ◌^◌, List, [], ◌∷◌, ◌++◌, Bool, not, ◌&&◌, ◌||◌, eqb, ltb, get_or, length, take, drop}
use Rattle.std.specs.Int.Bits.{bit_and}
use Rattle.std.specs.Int.Count.{ones}
use Rattle.base.specs.Bounded.{one}

-- binary digit k of x
unfoldable pub bit : ℕ → ℕ → Bool
bit x k = eqb (x / 2 ^ k % 2) 1

-- n is in the set; no number past the last word is
unfoldable pub has : List ℕ → ℕ → Bool
has ws n = bit (get_or ws (n / 64) 0) (n % 64)

-- n is in both sets
abbrev pub both : List ℕ → List ℕ → ℕ → Bool
both a b n = has a n && has b n

-- the number whose k binary digits are p 0, p 1, ..
unfoldable pub word_of : (ℕ → Bool) → ℕ → ℕ
word_of p zero = 0
word_of p (suc k) = one (p k) * 2 ^ k + word_of p k

-- the k words, from word i on, of the set p
unfoldable pub words_from : (ℕ → Bool) → ℕ → ℕ → List ℕ
words_from p i zero = []
words_from p i (suc k) = word_of (λ j. p (i * 64 + j)) 64 ∷ words_from p (suc i) k

-- the k words of the set p; its numbers from 64 * k on are left out
unfoldable pub words_of : (ℕ → Bool) → ℕ → List ℕ
words_of p k = words_from p 0 k

-- the sixteen words of the numbers below n that have p
unfoldable pub nodes_of : (ℕ → Bool) → ℕ → List ℕ
nodes_of p n = words_of (λ v. ltb v n && p v) 16

-- the set with n
unfoldable pub with : List ℕ → ℕ → List ℕ
with ws n = words_of (λ m. has ws m || eqb m n) (length ws)

-- the numbers in one of two sets, in both, in the first alone; in as many words as the first
unfoldable pub union : List ℕ → List ℕ → List ℕ
union a b = words_of (λ m. has a m || has b m) (length a)

unfoldable pub intersection : List ℕ → List ℕ → List ℕ
intersection a b = words_of (λ m. has a m && has b m) (length a)

unfoldable pub difference : List ℕ → List ℕ → List ℕ
difference a b = words_of (λ m. has a m && not (has b m)) (length a)

-- the ones in the first k words of two sets, each word of the one ANDed with that of the other
unfoldable pub ones_both : List ℕ → List ℕ → ℕ → ℕ
ones_both a b zero = 0
ones_both a b (suc k) = ones_both a b k + ones (bit_and (get_or a k 0) (get_or b k 0))

-- the words ws, as many as there is room for in old, and then what stood there past them
unfoldable pub stored : List ℕ → List ℕ → List ℕ
stored old ws = take (length old) ws ++ drop (length ws) old
