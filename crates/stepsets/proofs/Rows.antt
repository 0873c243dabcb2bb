-- Rows that are kept, and that the rows of an end are its ends, node by node.
use Prim.Native.Nat.{ℕ, ◌*◌, ◌≤◌, ◌<◌}
use mathlib.Core.Bool.{Bool, true, ◌&&◌}
use mathlib.Core.List.{List}
use Rattle.std.specs.Prelude.{Option, Some, None}
use mathlib.Core.Path.{◌≡◌, sym, ap, ap₂, ◌∙◌, subst}
use native.Mathlib.Omega.{arith}
use lib.Dec.{ltb}
use lib.ListN.{length, drop, replicate, length-replicate}
use borrow.Author.Tests.{lt-ltb}
use Rattle.base.proofs.Bools.{same_test, and_right}
use Rattle.nodeset.specs.Words.{has}
use Rattle.model.specs.Paths as model
use Rattle.model.specs.Paths.{ends_of}
use Rattle.model.specs.Limits.{max_nodes}
use Rattle.tables.specs.Layout.{node_count}
use Rattle.tables.specs.Decode.{triples_at}
use Rattle.paths.specs.Facts.{Tables}
use Rattle.paths.specs.Ends.{end_in}
use Rattle.paths.specs.declared.End.{End}
use Rattle.paths.proofs.Nodes.{table_nodes}
use Rattle.closure.specs.Rows.{rows_of}
use Rattle.closure.proofs.Rows.{length-rows, within-rows}
use Rattle.rows.proofs.Rows.{within_zeros, has-row}
use Rattle.stepsets.specs.Ends.{end_rows, RowsHeld, RowsFor}

-- ---- rows that are kept
-- nothing is known of rows that were not filled; zeros are such rows
pub held_none : (cs : List ℕ) {rows : List ℕ} → RowsFor cs rows → RowsHeld cs None rows
held_none cs h = record { lent = h; ends = tt }

pub rows_zeros : (cs : List ℕ) (words : ℕ) {rows : List ℕ} → 16 * node_count cs ≤ words → rows ≡ replicate words 0 → RowsFor cs rows
rows_zeros cs words l e = record { room = subst (λ (k : ℕ). 16 * node_count cs ≤ k) (sym (ap length e ∙ length-replicate {A = ℕ} words 0)) l; within = within_zeros (node_count cs) words e }

-- the rows of an end, where that is what they are of
pub held_of : {cs rows : List ℕ} {of : Option End} {end : End} → of ≡ Some end → RowsHeld cs of rows → RowsHeld cs (Some end) rows
held_of {cs} {rows} e h = subst (λ (x : Option End). RowsHeld cs x rows) e h

-- filled anew
pub held_anew : (cs : List ℕ) (kept : Option End) (end : End) {rows now : List ℕ} → RowsHeld cs kept rows → now ≡ rows_of (node_count cs) (ends_of (node_count cs) (triples_at cs) (end_in cs end)) (length rows) → RowsHeld cs (Some end) now
unfolding end_rows
held_anew cs kept end {rows} {now} h e = record {
  lent = record {
    room = subst (λ (k : ℕ). 16 * node_count cs ≤ k) (sym same-room) h.lent.room;
    within = within-rows (node_count cs) (ends_of (node_count cs) (triples_at cs) (end_in cs end)) (length rows) e;
  };
  ends = e ∙ ap (rows_of (node_count cs) (ends_of (node_count cs) (triples_at cs) (end_in cs end))) (sym same-room);
}
  where
    same-room : length now ≡ length rows
    same-room = ap length e ∙ length-rows (node_count cs) (ends_of (node_count cs) (triples_at cs) (end_in cs end)) (length rows)

-- ---- the ends of a node are nodes
module _ (cs index : List ℕ) (t : Tables cs index) where
  pub ends_low : (x : model.End) (v w : ℕ) → v < node_count cs → ends_of (node_count cs) (triples_at cs) x v w ≡ true → w < node_count cs
  ends_low x v w l h = (table_nodes cs index t x v w h).0 l

  -- row v
  pub row_ends : (end : End) {rows : List ℕ} → RowsHeld cs (Some end) rows → (v : ℕ) → v < node_count cs → (w : ℕ) → w < max_nodes → has (drop (16 * v) rows) w ≡ ends_of (node_count cs) (triples_at cs) (end_in cs end) v w
  unfolding end_rows
  row_ends end {rows} h v l w lw =
      has-row (node_count cs) (ends_of (node_count cs) (triples_at cs) (end_in cs end)) (length rows) h.ends v (omega (arith, h.lent.room)) w lw
      ∙ ap (λ (b : Bool). (b && ltb w (node_count cs)) && ends_of (node_count cs) (triples_at cs) (end_in cs end) v w) (lt-ltb v (node_count cs) l)
      ∙ same_test (ltb w (node_count cs) && ends_of (node_count cs) (triples_at cs) (end_in cs end) v w) (ends_of (node_count cs) (triples_at cs) (end_in cs end) v w) (λ h. and_right (ltb w (node_count cs)) (ends_of (node_count cs) (triples_at cs) (end_in cs end) v w) h) (λ h. ap₂ (λ (a b : Bool). a && b) (lt-ltb w (node_count cs) (ends_low (end_in cs end) v w l h)) h)
