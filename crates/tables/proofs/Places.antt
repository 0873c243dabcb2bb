-- A place past the end of a list.
use Prim.Native.Nat.{ℕ, ◌+◌, ◌-◌, ◌≤◌}
use mathlib.Core.List.{List}
use mathlib.Core.Path.{◌≡◌, sym}
use native.Mathlib.Omega.{arith}
use lib.ListN.{length, get_or, get_or-eq_default}

module _ {A : Type 0} (l : List A) (base i : ℕ) (d : A) where
  pub past_base : length l ≤ base → d ≡ get_or l (base + i) d
  past_base h = sym (get_or-eq_default l d (omega arith))

  pub past_end : length l - base ≤ i → d ≡ get_or l (base + i) d
  past_end h = sym (get_or-eq_default l d (omega arith))
