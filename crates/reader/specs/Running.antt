-- The tables while lines are read.
use Rattle.std.specs.Prelude.{ℕ, ◌≡◌, List, [], ◌++◌, ℤ, pos, drop, Result, Ok, Err}
use Rattle.model.specs.Answers.{Answer, value, refusal}
use Rattle.model.specs.Books.{Book}
use Rattle.tables.specs.Layout.{name_count, cell_count, value_count}
use Rattle.encoding.specs.Encode.{encode_names}
use Rattle.tables.specs.Sizes.{cleared}
use Rattle.stores.specs.Lines.{lines_names, lines_cells, lines_values}
use Rattle.model.specs.Sizes.{counts_in}
use Rattle.model.specs.declared.Counts.{Counts}
use Rattle.model.specs.Refusals.{fault_of, refusal_at}
use Rattle.model.specs.declared.Refusal.{Refusal}

-- tables that hold the built-in names and nothing else
pub record Started (ns cs : List ℕ) (vs : List ℤ) : Type 0 where
  pub names-start : ns ≡ encode_names [] ++ drop name_count ns
  pub cells-start : cs ≡ cleared cell_count 0 cs
  pub values-start : vs ≡ cleared value_count (pos 0) vs

-- their counts
abbrev pub built_in_counts : Counts
built_in_counts = record { nodes = 0; links = 1; types = 1; langs = 0; shapes = 0; facts = 0; paths = 0; forms = 0; items = 0; rules = 0 }

-- the answer r for what the reading of the lines gives, then each table before and after; a refusal leaves the tables free up
-- to their limits
abbrev pub Ran : Answer Book → Result Counts Refusal → (ns ns' cs cs' : List ℕ) (vs vs' : List ℤ) → Type 0
Ran (value b) r ns ns' cs cs' vs vs' = (r ≡ Ok (counts_in b)) × (ns' ≡ lines_names [] b ns) × (cs' ≡ lines_cells [] b cs) × (vs' ≡ lines_values [] b vs)
Ran (refusal k line) r ns ns' cs cs' vs vs' = (r ≡ Err (refusal_at (fault_of k) line)) × (drop name_count ns' ≡ drop name_count ns) × (drop cell_count cs' ≡ drop cell_count cs) × (drop value_count vs' ≡ drop value_count vs)
