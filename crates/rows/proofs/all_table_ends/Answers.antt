-- `all_table_ends` meets its contract: the facts are those of the tables.
use Prim.Native.Nat.{ℕ, ◌*◌, ◌≤◌}
use mathlib.Core.Bool.{true}
use mathlib.Core.List.{List}
use mathlib.Core.Path.{◌≡◌, sym, ap, ap₂, ◌∙◌, subst}
use lib.ListN.{length}
use Rattle.model.specs.Graph.{Triple}
use Rattle.model.specs.Paths.{ends_of}
use Rattle.tables.specs.Layout.{node_count}
use Rattle.tables.specs.Decode.{triples_at}
use Rattle.paths.specs.Ends.{end_in, end_known}
use Rattle.paths.specs.Images.{converse_if}
use Rattle.closure.specs.Rows.{rows_of, Within}
use Rattle.rows.proofs.all_table_ends.Goals as goal

pub all_ends-requires : goal.all_ends-requires
all_ends-requires c =
    let pre = c.requires in
    let facts = c.facts-facts.ensures.of_tables in
    (subst (λ (cs : List ℕ). end_known cs c.args.end ≡ true) (sym facts.0) pre.0, subst (λ (n : ℕ). 16 * n ≤ length c.args.rows.now) (sym facts.1) pre.1, subst (λ (n : ℕ). Within n c.args.rows.now) (sym facts.1) pre.2)

pub returns : goal.returns
returns c =
    let a = c.args in
    let cs = a.tables.cells.now in
    let facts = c.facts-facts.ensures.of_tables in
    c.all_ends.ensures
    ∙ ap₂ (λ (n : ℕ) (ts : List Triple). rows_of n (converse_if a.back (ends_of n ts (end_in c.facts-facts.result.cells.now a.end))) (length a.rows.now)) facts.1 facts.2
    ∙ ap (λ (held : List ℕ). rows_of (node_count cs) (converse_if a.back (ends_of (node_count cs) (triples_at cs) (end_in held a.end))) (length a.rows.now)) facts.0
