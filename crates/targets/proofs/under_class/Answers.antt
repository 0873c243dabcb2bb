-- `under_class` meets its contract.
use Prim.Native.Nat.{ℕ, ◌*◌, ◌≤◌, ◌<◌}
use mathlib.Core.Path.{refl, sym, ap, ◌∙◌, subst}
use lib.ListN.{length}
use Rattle.nodeset.specs.Words.{words_of}
use Rattle.closure.specs.Rows.{leads, Within}
use Rattle.model.specs.Limits.{max_nodes}
use Rattle.model.specs.Repeats.{star}
use Rattle.tables.specs.Layout.{node_count}
use Rattle.rows.proofs.Rows.{empty-room}
use Rattle.targets.proofs.Classes.{few, link-known, link-rows, search_room, under-found}
use Rattle.targets.proofs.under_class.Goals as goal

pub all_table_ends-requires : goal.all_table_ends-requires
all_table_ends-requires c =
    let a = c.args in
    let pre = c.requires in
    let room = empty-room (node_count a.tables.cells.now) (few a.tables.cells.now a.tables.index.now a.tables.made) refl in
    (link-known a.tables.cells.now a.link, room.0, room.1)

pub invariant_of-relation : goal.invariant_of-relation
invariant_of-relation c =
    let a = c.args in
    let rows = c.all_table_ends.new.rows in
    let room = search_room a.tables.cells.now a.tables.index.now a.tables.made a.link.0 (link-rows a.tables.cells.now a.link refl c.all_table_ends.ensures) in
    let q = sym c.node_count.ensures in
    record { few = subst (λ (n : ℕ). n ≤ max_nodes) q room.0; room = subst (λ (n : ℕ). 16 * n ≤ length rows) q room.1; within = subst (λ (n : ℕ). Within n rows) q room.2 }

pub search-found-requires : goal.search-found-requires
search-found-requires c = subst (λ (n : ℕ). c.args.c.0 < n) (sym c.node_count.ensures) c.requires

pub returns : goal.returns
returns c =
    let a = c.args in
    let pre = c.requires in
    let rows = c.all_table_ends.new.rows in
    c.search-found.ensures.words_value ∙ ap (λ (n : ℕ). words_of (star (leads rows) n a.c.0) 16) c.node_count.ensures
    ∙ under-found a.tables.cells.now a.tables.index.now a.tables.made a.link.0 (link-rows a.tables.cells.now a.link refl c.all_table_ends.ensures) a.c.0 pre
