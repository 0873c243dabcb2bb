-- A place of a column.
use Rattle.std.specs.Prelude.{ℕ, ◌+◌, List, Bool, ltb, get_or}

-- place i of the column that begins at base is below a bound
abbrev pub place_below : List ℕ → ℕ → ℕ → ℕ → Bool
place_below cs base bound i = ltb (get_or cs (base + i) 0) bound
