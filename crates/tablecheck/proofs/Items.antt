-- The items of a list, looked at one by one.
use Prim.Native.Nat.{ℕ, ◌+◌, ◌<◌}
use mathlib.Core.List.{List}
use mathlib.Core.Bool.{Bool, true, false}
use mathlib.Core.Path.{◌≡◌, refl, sym, ap, ◌∙◌}
use Rattle.base.specs.Bounded.{every}
use Rattle.base.proofs.Bounded.{every-fails}
use Rattle.tables.specs.WellFormed.{item_ok, items_ok}

-- `every` at the two ends of a loop
pub every-none : (p : ℕ → Bool) → every p 0 ≡ true
unfolding every
every-none p = refl

pub every-to : (p : ℕ → Bool) (i n : ℕ) → i ≡ n → every p i ≡ true → every p n ≡ true
every-to p i n e h = ap (every p) (sym e) ∙ h

-- n items from number i on
module _ (cs : List ℕ) (bound i : ℕ) where
  abbrev pub listed : ℕ → Bool
  listed k = item_ok cs bound (i + k)

  -- as the code reads it: from a start that is i
  pub item_read : (from k : ℕ) (r : Bool) → from ≡ i → r ≡ item_ok cs bound (from + k) → listed k ≡ r
  item_read from k r e f = sym (f ∙ ap (λ (x : ℕ). item_ok cs bound (x + k)) e)

  pub one-fails : (n k : ℕ) → k < n → listed k ≡ false → false ≡ items_ok cs bound i n
  unfolding items_ok
  one-fails n k l e = sym (every-fails listed n k l e)

  pub none-fails : (n k : ℕ) → k ≡ n → every listed k ≡ true → true ≡ items_ok cs bound i n
  unfolding items_ok
  none-fails n k e h = sym (every-to listed k n e h)
