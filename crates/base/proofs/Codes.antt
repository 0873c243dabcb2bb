-- What the last arms of a match on codes know: a number from m on that is none of the n codes there is past them.
use Prim.Native.Nat.{ℕ, zero, suc, ◌+◌, ◌≤◌}
use mathlib.Core.Path.{◌≡◌}
use native.Mathlib.Omega.{arith}

-- k is none of the n codes from m on; R is what else is known
abbrev pub Nots : Type 0 → ℕ → ℕ → ℕ → Type 0
Nots R k m zero = R
Nots R k m (suc n) = Nots R k m n × (k ≡ m + n → ⊥)

pub nots_past : (R : Type 0) (k m n : ℕ) → m ≤ k → Nots R k m n → m + n ≤ k
nots_past R k m zero l r = omega arith
nots_past R k m (suc n) l r = let low : m + n ≤ k = nots_past R k m n l r.0 in let other : k ≡ m + n → ⊥ = r.1 in omega (arith, low, other)
