-- The consoles' tallies (document 02, Job 2): for each console, how many of its questions were answered.
use Rattle.std.specs.Prelude.{ℕ, ◌+◌, List, cond, eqb, get_or, set, replicate}

-- the consoles are 0 to 7
abbrev pub console_count : ℕ
console_count = 8

-- eight zeros
abbrev pub no_tallies : List ℕ
no_tallies = replicate console_count 0

-- a tally stays at the greatest number of 32 bits
abbrev pub greatest : ℕ
greatest = 4294967295

-- one more, up to the greatest
unfoldable pub one_more : ℕ → ℕ
one_more t = cond (eqb t greatest) t (t + 1)

-- one more for console c; no other tally moves
unfoldable pub counted : ℕ → List ℕ → List ℕ
counted c ts = set ts c (one_more (get_or ts c 0))
