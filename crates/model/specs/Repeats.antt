-- A relation between the nodes below n, repeated (document 02, Job 1).
use Rattle.std.specs.Prelude.{ℕ, zero, suc, Bool, ◌&&◌, ◌||◌, eqb}
use Rattle.base.specs.Bounded.{some}

module _ (r : ℕ → ℕ → Bool) (n : ℕ) where
  -- v leads to w by k repetitions
  unfoldable pub times : ℕ → ℕ → ℕ → Bool
  times zero v w = eqb v w
  times (suc k) v w = some (λ u. r v u && times k u w) n

  -- by k repetitions or fewer
  unfoldable pub up_to : ℕ → ℕ → ℕ → Bool
  up_to zero v w = eqb v w
  up_to (suc k) v w = eqb v w || some (λ u. r v u && up_to k u w) n

  -- zero or more: as many as there are nodes are enough
  unfoldable pub star : ℕ → ℕ → Bool
  star v w = up_to n v w

  -- one or more: a step, and then zero or more
  unfoldable pub plus : ℕ → ℕ → Bool
  plus v w = some (λ u. r v u && star u w) n
