-- Tables and three slices lent beside them that do not get refusal 8.
use Prim.Native.Nat.{ℕ, ◌≤◌}
use mathlib.Core.List.{List}
use mathlib.Core.Bool.{Bool, true, ◌&&◌}
use mathlib.Core.Path.{◌≡◌}
use lib.Dec.{leb}
use lib.IntN.{ℤ}
use lib.ListN.{length}
use borrow.Author.Tests.{leb-true}
use Rattle.base.proofs.Bools.{and_left, and_right}
use Rattle.tables.specs.Sizes.{long_enough}
use Rattle.tables.proofs.Sizes.{Long, as_long}

-- xs, ys and zs, and how as_long each must be
module _ (ns cs : List ℕ) (vs : List ℤ) (x y z : ℕ) (xs ys zs : List ℕ) where
  pub record Beside : Type 0 where
    pub tables : Long ns cs vs
    pub first : x ≤ length xs
    pub second : y ≤ length ys
    pub third : z ≤ length zs

  pub beside : (long_enough ns cs vs && (leb x (length xs) && (leb y (length ys) && leb z (length zs)))) ≡ true → Beside
  beside e =
      let t : Bool = long_enough ns cs vs in
      let a : Bool = leb x (length xs) in
      let b : Bool = leb y (length ys) in
      let d : Bool = leb z (length zs) in
      let more = and_right t (a && (b && d)) e in
      let rest = and_right a (b && d) more in
      record {
        tables = as_long ns cs vs (and_left t (a && (b && d)) e);
        first = leb-true x (length xs) (and_left a (b && d) more);
        second = leb-true y (length ys) (and_left b d rest);
        third = leb-true z (length zs) (and_right b d rest);
      }
