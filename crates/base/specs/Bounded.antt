-- Tests of numbers below a bound: some number passes, every number passes, how many pass, and which.
use Rattle.std.specs.Prelude.{ℕ, zero, suc, ◌+◌, List, [], ◌∷◌, ◌++◌, Bool, true, false, not, cond, ◌&&◌, ◌||◌}

infixr 25 ◌⇒◌
-- if a, then b
abbrev pub ◌⇒◌ : Bool → Bool → Bool
a ⇒ b = not a || b

-- p holds of some number below n
unfoldable pub some : (ℕ → Bool) → ℕ → Bool
some p zero = false
some p (suc n) = p n || some p n

-- p holds of every number below n
unfoldable pub every : (ℕ → Bool) → ℕ → Bool
every p zero = true
every p (suc n) = p n && every p n

unfoldable pub one : Bool → ℕ
one true = 1
one false = 0

-- how many numbers below n have p
unfoldable pub size : (ℕ → Bool) → ℕ → ℕ
size p zero = 0
size p (suc n) = one (p n) + size p n

-- the numbers below n that have p, lowest first
unfoldable pub members : (ℕ → Bool) → ℕ → List ℕ
members p zero = []
members p (suc n) = members p n ++ cond (p n) (n ∷ []) []
