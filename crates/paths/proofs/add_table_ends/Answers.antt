-- `add_table_ends` meets its contract: the facts are those of the tables.
use Prim.Native.Nat.{ℕ}
use mathlib.Core.Bool.{true}
use mathlib.Core.List.{List}
use mathlib.Core.Path.{◌≡◌, sym, ap, ap₂, ◌∙◌, subst}
use Rattle.model.specs.Graph.{Triple}
use Rattle.model.specs.Paths.{ends_of}
use Rattle.tables.specs.Layout.{node_count}
use Rattle.tables.specs.Decode.{triples_at}
use Rattle.paths.specs.Images.{converse_if, with_image}
use Rattle.paths.specs.Ends.{end_in, end_known}
use Rattle.paths.proofs.add_table_ends.Goals as goal

pub add_ends-requires : goal.add_ends-requires
add_ends-requires c = subst (λ (cs : List ℕ). end_known cs c.args.end ≡ true) (sym c.facts-facts.ensures.of_tables.0) c.requires

pub returns : goal.returns
returns c =
    let a = c.args in
    let facts = c.facts-facts.ensures.of_tables in
    c.add_ends.ensures
    ∙ ap₂ (λ (n : ℕ) (ts : List Triple). with_image n (converse_if a.back (ends_of n ts (end_in c.facts-facts.result.cells.now a.end))) a.from.now a.into.now) facts.1 facts.2
    ∙ ap (λ (cs : List ℕ). with_image (node_count a.tables.cells.now) (converse_if a.back (ends_of (node_count a.tables.cells.now) (triples_at a.tables.cells.now) (end_in cs a.end))) a.from.now a.into.now) facts.0
