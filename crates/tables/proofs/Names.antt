-- The bytes of a stored name, by their place in the names.
use Prim.Native.Nat.{ℕ, ◌+◌, ◌<◌, ◌≤◌}
use mathlib.Core.List.{List}
use mathlib.Core.Path.{◌≡◌, ◌∙◌}
use native.Mathlib.Omega.{arith}
use lib.ListN.{length, get_or, take, drop, length-drop}
use lib.Seq.{get_or-take, get_or-drop, length-take-le}
use Rattle.model.specs.Limits.{max_name}

module _ (ns : List ℕ) (at : ℕ) where
  pub name_byte_lem : (j : ℕ) → j < max_name → get_or (take max_name (drop at ns)) j 0 ≡ get_or ns (at + j) 0
  name_byte_lem j h = get_or-take max_name (drop at ns) j 0 h ∙ get_or-drop at ns j 0

  pub name_full : at + max_name ≤ length ns → length (take max_name (drop at ns)) ≡ max_name
  name_full room = length-take-le max_name (drop at ns) (omega (arith, length-drop at ns))
