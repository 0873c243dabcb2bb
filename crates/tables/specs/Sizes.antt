-- Refusal 8: how long a lent table must be. A longer one counts up to its limit.
use Rattle.std.specs.Prelude.{ℕ, List, ◌++◌, Bool, ◌&&◌, leb, ℤ, length, replicate, drop}
use Rattle.tables.specs.Layout.{name_count, cell_count, value_count}

-- names, cells and values
unfoldable pub long_enough : List ℕ → List ℕ → List ℤ → Bool
long_enough ns cs vs = leb name_count (length ns) && (leb cell_count (length cs) && leb value_count (length vs))

-- zeros up to the limit; what lies past it is as it was
unfoldable pub cleared : {A : Type 0} → ℕ → A → List A → List A
cleared limit zero l = replicate limit zero ++ drop limit l
