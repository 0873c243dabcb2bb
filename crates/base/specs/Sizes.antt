-- What it is for a number to be a size, without a way to count.
use Rattle.std.specs.Prelude.{ℕ, ◌≡◌, List, Bool, true, ◌&&◌, ltb, length}
use Rattle.base.specs.Lists.{member, ascending}

-- k is how many numbers below n have p: the length of a list that has each of them once and no others
pub record HasSize (p : ℕ → Bool) (n k : ℕ) : Type 0 where
  pub numbers : List ℕ
  pub once : ascending numbers ≡ true
  pub those : (v : ℕ) → member v numbers ≡ (ltb v n && p v)
  pub many : length numbers ≡ k
