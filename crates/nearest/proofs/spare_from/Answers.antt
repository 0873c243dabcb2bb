-- `spare_from` meets its contract.
use Prim.Native.Nat.{ℕ, ◌*◌, ◌≤◌, ◌<◌}
use mathlib.Core.Path.{sym, ◌∙◌, subst}
use lib.ListN.{length}
use Rattle.closure.specs.Rows.{Within}
use Rattle.model.specs.Limits.{max_nodes}
use Rattle.model.specs.Paths.{ends}
use Rattle.tables.specs.Layout.{node_count}
use Rattle.tables.specs.Decode.{triples_at, path_at}
use Rattle.rounds.proofs.Tables.{search_room}
use Rattle.nearest.proofs.Searching.{no-spare-along, spare-along, spare_there}
use Rattle.nearest.proofs.spare_from.Goals as goal

pub invariant_of-relation : goal.invariant_of-relation
invariant_of-relation c =
    let a = c.args in
    let rows = c.path_rows.new.rows in
    let room = search_room a.cells.now a.p c.requires.1 c.path_rows.ensures in
    let m = sym c.node_count-n.ensures in
    record { few = subst (λ (n : ℕ). n ≤ max_nodes) m room.0; room = subst (λ (n : ℕ). 16 * n ≤ length rows) m room.1; within = subst (λ (n : ℕ). Within n rows) m room.2 }

pub spares-set-requires : goal.spares-set-requires
spares-set-requires c = let pre = c.requires in (pre.4, pre.2, c.node_count-n.ensures)

pub returns-then-none_below : goal.returns-then-none_below
returns-then-none_below c =
    let a = c.args in
    let pre = c.requires in
    let cs = a.cells.now in
    let made = c.path_rows.ensures in
    let room = search_room cs a.p pre.1 made in
    let rows = c.path_rows.new.rows in
    let path = ends (node_count cs) (triples_at cs) (path_at cs a.p) in
    no-spare-along cs a.values.now rows a.v.0 a.e room.0 room.2 pre.2 c.spares-set.ensures path made c.node_count-n.ensures (sym c.none_below.ensures ∙ c.if-none_below.true)

pub first_met-requires : goal.first_met-requires
first_met-requires c =
    let a = c.args in
    let pre = c.requires in
    let cs = a.cells.now in
    let made = c.path_rows.ensures in
    let room = search_room cs a.p pre.1 made in
    let rows = c.path_rows.new.rows in
    let path = ends (node_count cs) (triples_at cs) (path_at cs a.p) in
    let any = spare_there cs a.values.now rows a.v.0 a.e room.0 room.2 pre.2 c.spares-set.ensures path made c.node_count-n.ensures (sym c.none_below.ensures ∙ c.if-none_below.false) in
    (subst (λ (n : ℕ). a.v.0 < n) (sym c.node_count-n.ensures) pre.2, any)

pub returns : goal.returns
returns c =
    let a = c.args in
    let pre = c.requires in
    let cs = a.cells.now in
    let made = c.path_rows.ensures in
    let room = search_room cs a.p pre.1 made in
    let rows = c.path_rows.new.rows in
    let path = ends (node_count cs) (triples_at cs) (path_at cs a.p) in
    spare-along cs a.values.now rows a.v.0 a.e room.0 room.2 pre.2 c.spares-set.ensures path made c.node_count-n.ensures c.first_met.ensures.node_value
