-- `path_rounds` meets its contract.
use Prim.Native.Nat.{ℕ, ◌*◌, ◌≤◌, ◌<◌}
use mathlib.Core.Path.{refl, sym, ap, ◌∙◌, subst}
use lib.ListN.{length}
use Rattle.closure.specs.Rows.{leads, Within}
use Rattle.model.specs.Limits.{max_nodes}
use Rattle.model.specs.Rounds.{rounds}
use Rattle.rounds.proofs.Tables.{search_room, search_rounds}
use Rattle.rounds.proofs.path_rounds.Goals as goal

pub invariant_of-tables : goal.invariant_of-tables
invariant_of-tables c =
    let pre = c.requires in
    let made = c.index_table.ensures in
    record { made = record { room = pre.0; ok = pre.1; indexed = made.0; subjects = made.1 } }

pub path_rows-requires : goal.path_rows-requires
path_rows-requires c =
    (refl, c.requires.3)

pub invariant_of-relation : goal.invariant_of-relation
invariant_of-relation c =
    let a = c.args in
    let pre = c.requires in
    let rows = c.path_rows.new.rows in
    let room = search_room a.cells.now a.e pre.1 c.path_rows.ensures in
    let q = sym c.node_count.ensures in
    record { few = subst (λ (n : ℕ). n ≤ max_nodes) q room.0; room = subst (λ (n : ℕ). 16 * n ≤ length rows) q room.1; within = subst (λ (n : ℕ). Within n rows) q room.2 }

pub search-found-requires : goal.search-found-requires
search-found-requires c = subst (λ (n : ℕ). c.args.v.0 < n) (sym c.node_count.ensures) c.requires.2

pub returns : goal.returns
returns c =
    let a = c.args in
    let pre = c.requires in
    let rows = c.path_rows.new.rows in
    c.search-found.ensures.rounds_value ∙ ap (λ (n : ℕ). rounds (leads rows) n a.v.0) c.node_count.ensures ∙ search_rounds a.cells.now a.e pre.1 c.path_rows.ensures a.v.0 pre.2
