-- Searches: the first number that has a property, the first pair of numbers, and what the answers of the code say was found.
use Rattle.std.specs.Prelude.{ℕ, zero, suc, ◌≤◌, ◌<◌, Bool, true, false, cond, ◌&&◌, List, ◌≡◌, get_or}
use Rattle.std.proofs.Math.Option.{Option, map, or_else}
use Rattle.plan.specs.Conditions.{in_one}
use Rattle.std.specs.Prelude as std
use Rattle.model.specs.declared.NodeNo.{NodeNo}
use Rattle.conditions.specs.declared.Side.{Side}
use Rattle.conditions.specs.declared.Side.TheVariants.{SecondLacks, FirstLacks}

-- the first number below n that has p
unfoldable pub first : (ℕ → Bool) → ℕ → Option ℕ
first p zero = Option.none
first p (suc n) = or_else (first p n) (cond (p n) (Option.some n) Option.none)

-- the first pair in r with a first number below m and a second one below n, by the first number and then by the second
unfoldable pub first_row : (ℕ → ℕ → Bool) → ℕ → ℕ → Option (ℕ × ℕ)
first_row r n zero = Option.none
first_row r n (suc m) = or_else (first_row r n m) (map (λ y. (m, y)) (first (r m) n))

-- the first pair of numbers below n in r
unfoldable pub first_pair : (ℕ → ℕ → Bool) → ℕ → Option (ℕ × ℕ)
first_pair r n = first_row r n n

-- a pair of a member of a and one of b, in r
abbrev pub among : (ℕ → Bool) → (ℕ → Bool) → (ℕ → ℕ → Bool) → ℕ → ℕ → Bool
among a b r x y = a x && (b y && r x y)

-- the first number below n in exactly one of two sets, and whether the first set has it
unfoldable pub first_in_one : ℕ → (ℕ → Bool) → (ℕ → Bool) → Option (ℕ × Bool)
first_in_one n a b = map (λ x. (x, a x)) (first (in_one a b) n)

-- the number before n, which 0 has not
unfoldable pub before : ℕ → Option ℕ
before zero = Option.none
before (suc i) = Option.some i

-- something was found; nothing was
abbrev pub found : {A : Type 0} → Option A → Bool
found Option.none = false
found (Option.some x) = true

abbrev pub nothing : {A : Type 0} → Option A → Bool
nothing Option.none = true
nothing (Option.some x) = false

-- ---- what each answer of a search says was found
abbrev pub node_found : std.Option NodeNo → Option ℕ
node_found (std.Some v) = Option.some v.0
node_found std.None = Option.none

abbrev pub pair_found : std.Option (NodeNo × NodeNo) → Option (ℕ × ℕ)
pair_found (std.Some p) = Option.some (p.0.0, p.1.0)
pair_found std.None = Option.none

abbrev pub side_found : std.Option Side → Option (ℕ × Bool)
side_found (std.Some (SecondLacks v)) = Option.some (v.0, true)
side_found (std.Some (FirstLacks v)) = Option.some (v.0, false)
side_found std.None = Option.none

abbrev pub fact_found : std.Option ℕ → Option ℕ
fact_found (std.Some i) = Option.some i
fact_found std.None = Option.none

-- the first count places of a list have the members of p below n, lowest first
pub record MembersListed (p : ℕ → Bool) (n : ℕ) (xs : List ℕ) (count : ℕ) : Type 0 where
  pub few : count ≤ n
  pub inside : (j : ℕ) → j < count → (get_or xs j 0 < n) × (p (get_or xs j 0) ≡ true)
  pub rising : (i j : ℕ) → i < j → j < count → get_or xs i 0 < get_or xs j 0
  pub all : (x : ℕ) → x < n → p x ≡ true → (j : ℕ) × (j < count) × (get_or xs j 0 ≡ x)
