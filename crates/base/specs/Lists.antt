-- Tests of lists, and the list of a function's first values.
use Rattle.std.specs.Prelude.{ℕ, zero, suc, List, [], ◌∷◌, Bool, true, false, ◌&&◌, ◌||◌, eqb, ltb}

module _ {A : Type 0} where
  -- p holds of some element
  unfoldable pub anyb : (A → Bool) → List A → Bool
  anyb p [] = false
  anyb p (y ∷ ys) = p y || anyb p ys

  -- p holds of every element
  unfoldable pub allb : (A → Bool) → List A → Bool
  allb p [] = true
  allb p (y ∷ ys) = p y && allb p ys

  -- f i, f (i + 1), .., n of them
  unfoldable pub values_from : (ℕ → A) → ℕ → ℕ → List A
  values_from f i zero = []
  values_from f i (suc n) = f i ∷ values_from f (suc i) n

  -- f 0, f 1, .., n of them
  abbrev pub values : (ℕ → A) → ℕ → List A
  values f n = values_from f 0 n

-- x stands in the list
unfoldable pub member : ℕ → List ℕ → Bool
member x [] = false
member x (y ∷ ys) = eqb x y || member x ys

-- each number is below all that follow it: lowest first, and none twice
unfoldable pub ascending : List ℕ → Bool
ascending [] = true
ascending (x ∷ xs) = allb (λ y. ltb x y) xs && ascending xs
