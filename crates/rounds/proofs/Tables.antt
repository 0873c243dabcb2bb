-- The rows of a path entry over well_formed_lem tables, and the rounds over them.
use Prim.Native.Nat.{ℕ, ◌*◌, ◌≤◌, ◌<◌}
use mathlib.Core.Bool.{Bool, true}
use mathlib.Core.List.{List}
use mathlib.Core.Path.{◌≡◌, ap, ◌∙◌}
use native.Mathlib.Omega.{arith}
use lib.ListN.{length, replicate, length-replicate}
use borrow.Author.Tests.{lt-ltb}
use Rattle.closure.specs.Rows.{rows_of, leads, Within}
use Rattle.closure.proofs.Rows.{leads-nodes}
use Rattle.model.specs.Limits.{max_nodes}
use Rattle.model.specs.Paths.{ends, ends_of}
use Rattle.model.specs.Rounds.{rounds}
use Rattle.model.proofs.Rounds.{rounds_ext}
use Rattle.tables.specs.Layout.{node_count, path_count}
use Rattle.tables.specs.Decode.{triples_at, path_at}
use Rattle.tables.specs.WellFormed.{well_formed}
use Rattle.tables.proofs.WellFormed.{sound}
use Rattle.paths.specs.Ends.{end_in, end_known}
use Rattle.paths.specs.declared.End.TheVariants.{Path}
use Rattle.rows.proofs.Rows.{filled-room}
use Rattle.rounds.specs.Answers.{rounds_at}

module _ (cs : List ℕ) (e : ℕ) where
  pub path_known : e < path_count cs → end_known cs (Path e) ≡ true
  unfolding end_known
  path_known l = lt-ltb e (path_count cs) l

  -- what the rows become
  pub path_rows : {rows now : List ℕ} → rows ≡ replicate (16 * max_nodes) 0 → now ≡ rows_of (node_count cs) (ends_of (node_count cs) (triples_at cs) (end_in cs (Path e))) (length rows) → now ≡ rows_of (node_count cs) (ends (node_count cs) (triples_at cs) (path_at cs e)) (16 * max_nodes)
  unfolding end_in ends_of
  path_rows z q = q ∙ ap (rows_of (node_count cs) (ends (node_count cs) (triples_at cs) (path_at cs e))) (ap length z ∙ length-replicate {A = ℕ} (16 * max_nodes) 0)

  module _ (ok : well_formed cs ≡ true) {rows : List ℕ} (r : rows ≡ rows_of (node_count cs) (ends (node_count cs) (triples_at cs) (path_at cs e)) (16 * max_nodes)) where
    abbrev path : ℕ → ℕ → Bool
    path = ends (node_count cs) (triples_at cs) (path_at cs e)

    pub search_room : (node_count cs ≤ max_nodes) × (16 * node_count cs ≤ length rows) × Within (node_count cs) rows
    search_room = filled-room (node_count cs) path (sound cs ok).nodes r

    -- the search over the rows is the search along the path
    pub search_rounds : (v : ℕ) → v < node_count cs → rounds (leads rows) (node_count cs) v ≡ rounds_at cs v e
    search_rounds v l = rounds_ext (leads rows) path (node_count cs) v (leads-nodes (node_count cs) path (16 * max_nodes) r (sound cs ok).nodes (omega (arith, (sound cs ok).nodes))) l
