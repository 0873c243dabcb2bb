-- What reading a PATH or an END answers and leaves in the cells, for what the grammar's reading gives.
use Rattle.std.specs.Prelude.{ℕ, ◌+◌, ◌≤◌, ◌≡◌, List, cond, eqb, get_or, Ok, Err}
use Rattle.model.specs.Paths.{Path, End}
use Rattle.model.specs.Sizes.{path_entries, end_entries}
use Rattle.model.specs.Limits.{max_paths}
use Rattle.grammar.specs.Reading.{Read, got, refused}
use Rattle.stores.specs.Entries.{path_cells, end_cells}
use Rattle.itemreader.specs.Answers.{Item, item_of}
use Rattle.model.specs.declared.Fault.{Fault}

-- how many path entries have ended after a path, where n had before
abbrev pub paths_after : ℕ → Path → ℕ
paths_after n e = n + path_entries e

abbrev pub ends_after : ℕ → End → ℕ
ends_after n f = n + end_entries f

-- what was read is stored by put, after n entries; a refusal leaves the cells free
abbrev pub Stored : {A : Type 0} → (ℕ → A → List ℕ → List ℕ) → Read A → ℕ → List ℕ → List ℕ → Type 0
Stored put (got x next) n before after = after ≡ put n x before
Stored put (refused k) n before after = Unit {0}

-- the answer r and the cells after reading x: by the number of entries afterwards, and by what is stored
pub record Done {A : Type 0} (count : ℕ → A → ℕ) (put : ℕ → A → List ℕ → List ℕ) (x : Read A) (n : ℕ) (before after : List ℕ) (r : Item) : Type 0 where
  pub answer : r ≡ item_of (count n) x
  pub stored : Stored put x n before after

abbrev pub PathRead : Read Path → ℕ → List ℕ → List ℕ → Item → Type 0
PathRead x n before after r = Done paths_after path_cells x n before after r

abbrev pub EndRead : Read End → ℕ → List ℕ → List ℕ → Item → Type 0
EndRead x n before after r = Done ends_after end_cells x n before after r

-- at least n path entries, and room for those that are open; a position in a text of a length
abbrev pub Grown : ℕ → ℕ → ℕ → Item → Type 0
Grown n up len (Ok (m, next)) = (n ≤ m) × (m + up ≤ max_paths) × (next ≤ len)
Grown n up len (Err e) = Unit {0}

-- what a closing bracket gives, where n entries have ended before its own
unfoldable pub closed : List ℕ → ℕ → ℕ → Item
closed s at n = cond (eqb (get_or s at 0) 41) (Ok (n + 1, at + 1)) (Err Fault.Grammar)
