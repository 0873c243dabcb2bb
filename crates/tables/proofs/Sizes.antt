-- Tables that do not get refusal 8.
use Prim.Native.Nat.{ℕ, ◌≤◌}
use mathlib.Core.List.{List}
use mathlib.Core.Bool.{Bool, true, ◌&&◌}
use mathlib.Core.Path.{◌≡◌}
use lib.Dec.{leb}
use lib.IntN.{ℤ}
use lib.ListN.{length}
use borrow.Author.Tests.{leb-true}
use Rattle.base.proofs.Bools.{and_left, and_right}
use Rattle.tables.specs.Layout.{name_count, cell_count, value_count}
use Rattle.tables.specs.Sizes.{long_enough}

pub record Long (ns cs : List ℕ) (vs : List ℤ) : Type 0 where
  pub names : name_count ≤ length ns
  pub cells : cell_count ≤ length cs
  pub values : value_count ≤ length vs

pub as_long : (ns cs : List ℕ) (vs : List ℤ) → long_enough ns cs vs ≡ true → Long ns cs vs
unfolding long_enough
as_long ns cs vs w = record {
  names = leb-true name_count (length ns) (and_left n (c && v) w);
  cells = leb-true cell_count (length cs) (and_left c v (and_right n (c && v) w));
  values = leb-true value_count (length vs) (and_right c v (and_right n (c && v) w));
}
  where
    n : Bool
    n = leb name_count (length ns)

    c : Bool
    c = leb cell_count (length cs)

    v : Bool
    v = leb value_count (length vs)
