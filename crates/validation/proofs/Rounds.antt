-- Document 02, Job 7, end to end: after read has accepted the bytes as the book b, the rounds that the operation gives on the tables
-- are those of b's path from b's node; a node or path that b does not have gets 10.
use Prim.Native.Nat.{ℕ}
use mathlib.Core.Path.{◌≡◌, refl, ap, ap₂, ◌∙◌}
use mathlib.Core.List.{List}
use mathlib.Core.Bool.{true, ◌&&◌}
use lib.Dec.{ltb}
use lib.IntN.{ℤ}
use lib.ListN.{length}
use borrow.Author.Tests.{ltb-true}
use Rattle.base.proofs.Bools.{cond_same, and_right}
use Rattle.model.specs.Answers.{value, refusal}
use Rattle.model.specs.Graph.{Graph}
use Rattle.model.specs.Paths.{Path, predicate}
use Rattle.model.specs.Rounds.{rounds_of, rounds_in}
use Rattle.model.specs.Books.{Book, nodes, names}
use Rattle.model.specs.PathNumbers.{book_paths}
use Rattle.tables.specs.Layout.{node_count, path_count}
use Rattle.tables.specs.Decode.{graph_at, path_at}
use Rattle.tables.specs.Sizes.{long_enough}
use Rattle.encoding.specs.Encode.{encode_cells, encode_values}
use Rattle.encoding.proofs.Counts.{names-counted}
use Rattle.encoding.proofs.Graph.{graph_read}
use Rattle.encoding.proofs.PathNumbers.{paths_read, paths-many}
use Rattle.encoding.proofs.WellFormed.{well_formed_lem}
use Rattle.grammar.specs.Writing.{render}
use Rattle.grammar.specs.Valid.{valid}
use Rattle.rounds.specs.Answers.{rounds_at, rounds_answer}
use Rattle.validation.specs.Rounds.{both_in_book, rounds_answer_in}
use Rattle.validation.proofs.Tables.{fine, names', cells', values', cells_read, still-long}

-- the rounds over the tables, by the graph that they say
at_graph : (cs : List ℕ) (vs : List ℤ) (node path : ℕ) → rounds_at cs node path ≡ rounds_of (graph_at cs vs) (path_at cs path) node
unfolding graph_at
at_graph cs vs node path = refl

module _ (s ns cs : List ℕ) (vs : List ℤ) (e : long_enough ns cs vs ≡ true) (b : Book) (v : valid b ≡ true) (r : render b ≡ s) where
  pub rounds_read : (node path : ℕ) → rounds_answer (names' s ns cs vs e b v r) (cells' s ns cs vs e b v r) (values' s ns cs vs e b v r) node path ≡ rounds_answer_in b node path
  unfolding rounds_answer rounds_in
  rounds_read node path =
      let ok = fine s ns cs vs e b v r in
      let C = encode_cells b in
      rw (still-long s ns cs vs e b v r, cells_read s ns cs vs e b v r, well_formed_lem b ok)
      (cond_same (ltb node (node_count C) && ltb path (path_count C)) (both_in_book b node path) (value (rounds_at C node path)) (value (rounds_in b node path)) (refusal 10 0)
      (ap₂ (λ (n m : ℕ). ltb node n && ltb path m) (names-counted b nodes) (paths-many b))
      (λ t. ap value (at_graph C (encode_values b) node path ∙ ap₂ (λ (g : Graph) (p : Path). rounds_of g p node) (graph_read b ok) (paths_read b ok path (predicate 0) (ltb-true path (length (book_paths b)) (and_right (ltb node (length (names nodes b))) (ltb path (length (book_paths b))) t))))))
