-- A shape line, from the end of its form on.
use Rattle.std.specs.Prelude.{ℕ, ◌+◌, ◌≡◌, List, ℤ, drop}
use Rattle.model.specs.Shapes.{Shape}
use Rattle.model.specs.Books.{Book}
use Rattle.tables.specs.Layout.{cell_count, value_count}
use Rattle.grammar.specs.Syntax.{form}
use Rattle.grammar.specs.Reading.{after, begun_above}
use Rattle.stores.specs.Entries.{shape_cells, shape_values}
use Rattle.model.specs.declared.Counts.{Counts}
use Rattle.leafreader.specs.declared.Ended.{Ended}
use Rattle.leafreader.specs.Forms.{ended_of}

-- the counts with a shape, with which n have ended
abbrev pub shaped : Ended → Counts → Counts
shaped n c =
    record {
      nodes = c.nodes;
      links = c.links;
      types = c.types;
      langs = c.langs;
      shapes = c.shapes + 1;
      facts = c.facts;
      paths = n.paths;
      forms = n.forms;
      items = n.items;
      rules = c.rules;
    }

-- after the lines a, cells and values hold the form φ too, with which n have ended; past the limits they are as before
pub record FormHeld (a : Book) (φ : Shape) (n : Ended) (cs cs' : List ℕ) (vs vs' : List ℤ) : Type 0 where
  pub ended : n ≡ ended_of (after form φ (begun_above a))
  pub cells : cs' ≡ shape_cells (begun_above a) φ cs
  pub values : vs' ≡ shape_values (begun_above a) φ vs
  pub cells-past : drop cell_count cs' ≡ drop cell_count cs
  pub values-past : drop value_count vs' ≡ drop value_count vs
