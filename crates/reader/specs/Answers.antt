-- What reading answers, and what it leaves in the lent tables: 8 first, then what the grammar's reading of the book gives
-- (of which 1 comes first).
use Rattle.std.specs.Prelude.{ℕ, List, ◌++◌, cond, ℤ, pos, drop}
use Rattle.model.specs.Answers.{Answer, value, refusal, map_value}
use Rattle.model.specs.Books.{Book}
use Rattle.model.specs.Sizes.{counts_in}
use Rattle.tables.specs.Layout.{name_count, cell_count, value_count}
use Rattle.tables.specs.Sizes.{long_enough, cleared}
use Rattle.encoding.specs.Encode.{encode_names, encode_cells, encode_values}
use Rattle.grammar.specs.Reading.{reading}
use Rattle.model.specs.declared.Counts.{Counts}

-- what stands for the counts where a book is refused
abbrev pub no_counts : Counts
no_counts = record { nodes = 0; links = 0; types = 0; langs = 0; shapes = 0; facts = 0; paths = 0; forms = 0; items = 0; rules = 0 }

-- ---- by the reading, in tables that are long enough
-- the tables of the book, or zeros, up to the limit; past it what was there
abbrev pub names_left : Answer Book → List ℕ → List ℕ
names_left (value b) ns = encode_names b ++ drop name_count ns
names_left (refusal k line) ns = cleared name_count 0 ns

abbrev pub cells_left : Answer Book → List ℕ → List ℕ
cells_left (value b) cs = encode_cells b ++ drop cell_count cs
cells_left (refusal k line) cs = cleared cell_count 0 cs

abbrev pub values_left : Answer Book → List ℤ → List ℤ
values_left (value b) vs = encode_values b ++ drop value_count vs
values_left (refusal k line) vs = cleared value_count (pos 0) vs

-- ---- for any bytes and any tables
module _ (s : List ℕ) (ns cs : List ℕ) (vs : List ℤ) where
  unfoldable pub read_answer : Answer Counts
  read_answer = cond (long_enough ns cs vs) (map_value counts_in (reading s)) (refusal 8 0)

  unfoldable pub names_of : List ℕ
  names_of = cond (long_enough ns cs vs) (names_left (reading s) ns) ns

  unfoldable pub cells_of : List ℕ
  cells_of = cond (long_enough ns cs vs) (cells_left (reading s) cs) cs

  unfoldable pub values_of : List ℤ
  values_of = cond (long_enough ns cs vs) (values_left (reading s) vs) vs
