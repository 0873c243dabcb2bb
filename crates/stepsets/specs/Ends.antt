-- Rows of ends, and rows that are kept from step to step.
use Rattle.std.specs.Prelude.{ℕ, ◌*◌, ◌≤◌, List, ◌≡◌, length, Option, Some, None}
use Rattle.std.specs.Coded.{Coded-set, coded_list, coded_ℕ, le_prop, Unit-prop}
use Rattle.model.specs.Paths.{ends_of}
use Rattle.tables.specs.Layout.{node_count}
use Rattle.tables.specs.Decode.{triples_at}
use Rattle.paths.specs.Ends.{end_in}
use Rattle.paths.specs.declared.End.{End}
use Rattle.closure.specs.Rows.{rows_of, leads, Within}

-- the rows of an end
unfoldable pub end_rows : List ℕ → End → ℕ → List ℕ
end_rows cs end words = rows_of (node_count cs) (ends_of (node_count cs) (triples_at cs) (end_in cs end)) words

-- rows for all nodes, with nothing past them, whatever they hold
pub record RowsFor (cs rows : List ℕ) : Type 0 where
  pub room : 16 * node_count cs ≤ length rows
  pub within : Within (node_count cs) rows

-- what rows hold, where it is known
abbrev pub Holds : List ℕ → Option End → List ℕ → Type 0
Holds cs None rows = Unit {0}
Holds cs (Some end) rows = rows ≡ end_rows cs end (length rows)

-- such rows, which hold what is kept
pub record RowsHeld (cs : List ℕ) (kept : Option End) (rows : List ℕ) : Type 0 where
  pub lent : RowsFor cs rows
  pub ends : Holds cs kept rows

-- ---- that they are is one fact
Holds-prop : (cs : List ℕ) (kept : Option End) (rows : List ℕ) → IsProp (Holds cs kept rows)
Holds-prop cs None rows = Unit-prop
Holds-prop cs (Some end) rows = Coded-set (coded_list coded_ℕ) rows (end_rows cs end (length rows))

pub RowsHeld-prop : (cs : List ℕ) (kept : Option End) (rows : List ℕ) → IsProp (RowsHeld cs kept rows)
RowsHeld-prop cs kept rows x y = λ i. record {
  lent = record {
    room = le_prop x.lent.room y.lent.room i;
    within = Coded-set (coded_list coded_ℕ) rows (rows_of (node_count cs) (leads rows) (length rows)) x.lent.within y.lent.within i;
  };
  ends = Holds-prop cs kept rows x.ends y.ends i;
}
