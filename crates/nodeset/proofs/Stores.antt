-- Words over the first words of a list.
use Prim.Native.Nat.{ℕ, ◌≤◌}
use mathlib.Core.List.{List, ◌++◌}
use mathlib.Core.Path.{◌≡◌, ap}
use lib.ListN.{length, drop}
use lib.Seq.{take_all}
use Rattle.nodeset.specs.Words.{stored}

-- where there is room for all
pub stored-whole : (old ws : List ℕ) → length ws ≤ length old → stored old ws ≡ ws ++ drop (length ws) old
unfolding stored
stored-whole old ws l = ap (λ (r : List ℕ). r ++ drop (length ws) old) (take_all (length old) ws l)
