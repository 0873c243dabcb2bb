-- The least number that has a property.
use Rattle.std.specs.Prelude.{ℕ, zero, suc, ◌-◌, ◌<◌, Bool, true, false, cond, ◌≡◌, ltb}
use Rattle.std.proofs.Math.Option.{Option}

-- the least of the last k numbers below n that has p; n where there is none
unfoldable pub next_of : (ℕ → Bool) → ℕ → ℕ → ℕ
next_of p n zero = n
next_of p n (suc k) = cond (p (n - suc k)) (n - suc k) (next_of p n k)

-- the least number from i on and below n that has p; n where there is none
unfoldable pub next_from : (ℕ → Bool) → ℕ → ℕ → ℕ
next_from p i n = next_of p n (n - i)

-- the least number below n that has p; n where there is none
abbrev pub least : (ℕ → Bool) → ℕ → ℕ
least p n = next_from p 0 n

-- the least number below n that has p, or none
unfoldable pub least_of : (ℕ → Bool) → ℕ → Option ℕ
least_of p n = cond (ltb (least p n) n) (Option.some (least p n)) Option.none

-- the same in words of logic: k is below n and has p, and no lower number has (`least_of_iff`, proofs/Least)
abbrev pub IsLeast : (ℕ → Bool) → ℕ → ℕ → Type 0
IsLeast p n k = (k < n) × (p k ≡ true) × ((j : ℕ) → j < k → p j ≡ false)
