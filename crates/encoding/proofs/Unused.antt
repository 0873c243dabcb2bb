-- Every place of the tables is a place of a column, and what no item takes is zero.
use Prim.Native.Nat.{ℕ, suc, ◌+◌, ◌-◌, ◌≤◌, ◌<◌}
use mathlib.Core.List.{List, [], ◌∷◌}
use mathlib.Core.Path.{◌≡◌}
use native.Mathlib.Omega.{arith}
use lib.ListN.{length, get_or}
use lib.IntN.{pos}
use Rattle.base.specs.Columns.{Column, offset, column}
use Rattle.model.specs.Books.{Book}
use Rattle.encoding.specs.Encode.{cell_columns, value_columns, name_columns, content_of, encode_cells, encode_values, encode_names}
use Rattle.encoding.proofs.Places.{below_or, at_unused}

-- a place of columns that follow each other: column k, place i
pub record Place {A : Type 0} (cs : List (Column A)) (j : ℕ) : Type 0 where
  pub k : ℕ
  pub i : ℕ
  pub inside : i < (column cs k).width
  pub here : j ≡ offset cs k + i

pub place_of : {A : Type 0} (cs : List (Column A)) (j : ℕ) → j < offset cs (length cs) → Place cs j
place_of [] j l = absurd (omega arith)
place_of (c ∷ cs) j l =
    below_or (Place (c ∷ cs) j) j c.width
    (λ h. record { k = 0; i = j; inside = h; here = omega arith })
    (λ h. let p = place_of cs (j - c.width) (omega arith) in record { k = suc p.k; i = p.i; inside = p.inside; here = omega (arith, p.here) })

-- past the items of column k
pub cells_unused : (b : Book) (k i : ℕ) → i < (column (cell_columns (content_of b)) k).width → length (column (cell_columns (content_of b)) k).items ≤ i → get_or (encode_cells b) (offset (cell_columns (content_of b)) k + i) 0 ≡ 0
unfolding encode_cells
cells_unused b = at_unused 0 (cell_columns (content_of b))

pub values_unused : (b : Book) (k i : ℕ) → i < (column (value_columns (content_of b)) k).width → length (column (value_columns (content_of b)) k).items ≤ i → get_or (encode_values b) (offset (value_columns (content_of b)) k + i) (pos 0) ≡ pos 0
unfolding encode_values
values_unused b = at_unused (pos 0) (value_columns (content_of b))

pub names_unused : (b : Book) (k i : ℕ) → i < (column (name_columns b) k).width → length (column (name_columns b) k).items ≤ i → get_or (encode_names b) (offset (name_columns b) k + i) 0 ≡ 0
unfolding encode_names
names_unused b = at_unused 0 (name_columns b)
