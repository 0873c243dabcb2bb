-- Document 02, Job 11, end to end: after read has accepted the bytes as the book b, the answer that the operation gives on the tables is,
-- of b's nodes that conform to b's shape, the nearest to b's node along b's path; a node, path or shape that b does not have gets 10.
use Prim.Native.Nat.{ℕ, ◌<◌}
use mathlib.Core.Path.{◌≡◌, refl, sym, ap, subst, ◌∙◌}
use mathlib.Core.List.{List}
use mathlib.Core.Bool.{true, ◌&&◌}
use lib.Dec.{ltb}
use lib.IntN.{ℤ}
use lib.ListN.{length}
use borrow.Author.Tests.{ltb-true}
use Rattle.base.proofs.Bools.{cond_same, and_left, and_right}
use Rattle.model.specs.Answers.{value, refusal}
use Rattle.model.specs.Paths.{predicate}
use Rattle.model.specs.Nearest.{nearest_of, nearest_in}
use Rattle.model.specs.Books.{Book, nodes, shapes, names}
use Rattle.model.specs.PathNumbers.{book_paths}
use Rattle.tables.specs.Layout.{node_count, path_count, shape_count, root_at}
use Rattle.tables.specs.Decode.{graph_at, path_at, shape_at}
use Rattle.tables.specs.Sizes.{long_enough}
use Rattle.encoding.specs.Encode.{encode_cells, encode_values}
use Rattle.encoding.proofs.Counts.{names-counted}
use Rattle.encoding.proofs.Graph.{graph_read}
use Rattle.encoding.proofs.PathNumbers.{paths_read, paths-many}
use Rattle.encoding.proofs.WellFormed.{well_formed_lem}
use Rattle.grammar.specs.Writing.{render}
use Rattle.grammar.specs.Valid.{valid}
use Rattle.nearest.specs.Answers.{nearest_at, nearest_answer}
use Rattle.validation.specs.Rounds.{both_in_book}
use Rattle.validation.specs.Nearest.{all_in_book, nearest_answer_in}
use Rattle.validation.proofs.Tables.{fine, names', cells', values', cells_read, values_read, still-long}
use Rattle.validation.proofs.Verdicts.{shape_read}

-- the nearest over the tables, by the graph that they say
at_graph : (cs : List ℕ) (vs : List ℤ) (node path shape : ℕ) → nearest_at cs vs node path shape ≡ nearest_of (graph_at cs vs) (path_at cs path) (shape_at cs vs (root_at cs shape)) node
unfolding graph_at
at_graph cs vs node path shape = refl

module _ (s ns cs : List ℕ) (vs : List ℤ) (e : long_enough ns cs vs ≡ true) (b : Book) (v : valid b ≡ true) (r : render b ≡ s) where
  pub nearest_read : (node path shape : ℕ) → nearest_answer (names' s ns cs vs e b v r) (cells' s ns cs vs e b v r) (values' s ns cs vs e b v r) node path shape ≡ nearest_answer_in b node path shape
  unfolding nearest_answer nearest_in
  nearest_read node path shape =
      let ok = fine s ns cs vs e b v r in
      let C = encode_cells b in
      let vs' = encode_values b in
      rw (still-long s ns cs vs e b v r, cells_read s ns cs vs e b v r, values_read s ns cs vs e b v r, well_formed_lem b ok)
      (cond_same ((ltb node (node_count C) && ltb path (path_count C)) && ltb shape (shape_count C)) (all_in_book b node path shape) (value (nearest_at C vs' node path shape)) (value (nearest_in b node path shape)) (refusal 10 0)
      (λ i. (ltb node (names-counted b nodes i) && ltb path (paths-many b i)) && ltb shape (names-counted b shapes i))
      (λ t.
      let both = and_left (both_in_book b node path) (ltb shape (length (names shapes b))) t in
      let p = paths_read b ok path (predicate 0) (ltb-true path (length (book_paths b)) (and_right (ltb node (length (names nodes b))) (ltb path (length (book_paths b))) both)) in
      let φ = shape_read s ns cs vs e b v r shape (subst (λ n. shape < n) (sym (names-counted b shapes)) (ltb-true shape (length (names shapes b)) (and_right (both_in_book b node path) (ltb shape (length (names shapes b))) t))) in
      ap value (at_graph C vs' node path shape ∙ (λ i. nearest_of (graph_read b ok i) (p i) (φ i) node))))
