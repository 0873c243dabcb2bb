-- The steps of a plan, in the words of document 01: by code, their operands as numbers.
use Rattle.std.specs.Prelude.{ℕ, List, [], ◌∷◌, get_or}

-- by code from 0, in this order; `opened` is Open, and `bad` is a code that is none of these
pub data Step : Type 0 where
  all none : Step
  -- a node
  is isnot : ℕ → Step
  -- the form entry that is the test
  test untest : ℕ → Step
  -- two steps
  both either : ℕ → ℕ → Step
  -- a path entry, a step, LO and HI (65,535 is `*`)
  count : ℕ → ℕ → ℕ → ℕ → Step
  -- a path entry and a step
  every : ℕ → ℕ → Step
  -- a path entry (65,535 is `id`) and a link
  equal unequal apart meet : ℕ → ℕ → Step
  -- the form entry that has the list
  closed opened : ℕ → Step
  -- a path entry and a link
  less notless lesseq notlesseq : ℕ → ℕ → Step
  -- a path entry
  onelang manylang : ℕ → Step
  -- a link; a link; a node
  from into typed : ℕ → Step
  bad : Step

-- the first code that is none of these
abbrev pub step_unknown : ℕ
step_unknown = 25

-- from a code and four operands
unfoldable pub step_of : ℕ → ℕ → ℕ → ℕ → ℕ → Step
step_of code a b c d =
    get_or
    (all ∷ none ∷ is a ∷ isnot a ∷ test a ∷ untest a ∷ both a b ∷ either a b ∷ count a b c d ∷ every a b ∷ equal a b ∷ unequal a b
    ∷ apart a b ∷ meet a b ∷ closed a ∷ opened a ∷ less a b ∷ notless a b ∷ lesseq a b ∷ notlesseq a b ∷ onelang a ∷ manylang a
    ∷ from a ∷ into a ∷ typed a ∷ [])
    code bad

-- the code and the operands of a step; an operand that it has not is 0
unfoldable pub numbers_of : Step → List ℕ
numbers_of all = 0 ∷ 0 ∷ 0 ∷ 0 ∷ 0 ∷ []
numbers_of none = 1 ∷ 0 ∷ 0 ∷ 0 ∷ 0 ∷ []
numbers_of (is c) = 2 ∷ c ∷ 0 ∷ 0 ∷ 0 ∷ []
numbers_of (isnot c) = 3 ∷ c ∷ 0 ∷ 0 ∷ 0 ∷ []
numbers_of (test e) = 4 ∷ e ∷ 0 ∷ 0 ∷ 0 ∷ []
numbers_of (untest e) = 5 ∷ e ∷ 0 ∷ 0 ∷ 0 ∷ []
numbers_of (both i j) = 6 ∷ i ∷ j ∷ 0 ∷ 0 ∷ []
numbers_of (either i j) = 7 ∷ i ∷ j ∷ 0 ∷ 0 ∷ []
numbers_of (count p j lo hi) = 8 ∷ p ∷ j ∷ lo ∷ hi ∷ []
numbers_of (every p j) = 9 ∷ p ∷ j ∷ 0 ∷ 0 ∷ []
numbers_of (equal p l) = 10 ∷ p ∷ l ∷ 0 ∷ 0 ∷ []
numbers_of (unequal p l) = 11 ∷ p ∷ l ∷ 0 ∷ 0 ∷ []
numbers_of (apart p l) = 12 ∷ p ∷ l ∷ 0 ∷ 0 ∷ []
numbers_of (meet p l) = 13 ∷ p ∷ l ∷ 0 ∷ 0 ∷ []
numbers_of (closed e) = 14 ∷ e ∷ 0 ∷ 0 ∷ 0 ∷ []
numbers_of (opened e) = 15 ∷ e ∷ 0 ∷ 0 ∷ 0 ∷ []
numbers_of (less p l) = 16 ∷ p ∷ l ∷ 0 ∷ 0 ∷ []
numbers_of (notless p l) = 17 ∷ p ∷ l ∷ 0 ∷ 0 ∷ []
numbers_of (lesseq p l) = 18 ∷ p ∷ l ∷ 0 ∷ 0 ∷ []
numbers_of (notlesseq p l) = 19 ∷ p ∷ l ∷ 0 ∷ 0 ∷ []
numbers_of (onelang p) = 20 ∷ p ∷ 0 ∷ 0 ∷ 0 ∷ []
numbers_of (manylang p) = 21 ∷ p ∷ 0 ∷ 0 ∷ 0 ∷ []
numbers_of (from l) = 22 ∷ l ∷ 0 ∷ 0 ∷ 0 ∷ []
numbers_of (into l) = 23 ∷ l ∷ 0 ∷ 0 ∷ 0 ∷ []
numbers_of (typed c) = 24 ∷ c ∷ 0 ∷ 0 ∷ 0 ∷ []
numbers_of bad = step_unknown ∷ 0 ∷ 0 ∷ 0 ∷ 0 ∷ []
