-- Demand 2, end to end: after read has accepted the bytes as the book b, the verdict on the tables is yes exactly when b's node
-- conforms to b's shape in the model; a node or shape that b does not have gets 10, and then a console that there is not 11.
use Prim.Native.Nat.{ℕ, ◌<◌, ◌≤◌, min}
use mathlib.Core.Path.{◌≡◌, refl, sym, ap, ap₂, subst, ◌∙◌}
use mathlib.Core.List.{List, [], ◌∷◌, map}
use mathlib.Core.Bool.{Bool, true, cond, ◌&&◌}
use native.Mathlib.Omega.{arith}
use lib.Dec.{eqb, ltb}
use lib.IntN.{ℤ}
use lib.ListN.{length, get_or}
use borrow.Author.Tests.{ltb-true, le-leb}
use Rattle.base.proofs.Bools.{bool_cases, cond_same, and_right}
use Rattle.base.proofs.Lists.{at-values}
use Rattle.consoles.specs.Tallies.{console_count, no_tallies, greatest}
use Rattle.model.specs.Answers.{Answer, refusal}
use Rattle.model.specs.Graph.{Graph}
use Rattle.model.specs.Shapes.{Shape, top, conforms, def}
use Rattle.model.specs.Books.{Book, nodes, shapes, names, graph_of, schema, conforms_in}
use Rattle.tables.specs.Layout.{node_count, shape_count, root_at}
use Rattle.tables.specs.Decode.{graph_at, shape_at, schema_at}
use Rattle.tables.specs.Sizes.{long_enough}
use Rattle.encoding.specs.Encode.{encode_cells, encode_values}
use Rattle.encoding.proofs.Counts.{names-counted}
use Rattle.encoding.proofs.Graph.{graph_read}
use Rattle.encoding.proofs.Schema.{schema_read}
use Rattle.encoding.proofs.WellFormed.{well_formed_lem}
use Rattle.grammar.specs.Writing.{render}
use Rattle.grammar.specs.Valid.{valid}
use Rattle.verdict.specs.Answers.{Question, to_console, answer_on, verdict_answer, tallied}
use Rattle.verdict.specs.Sessions.{questions_of, answers_to, given_in, session, view_of}
use Rattle.verdict.proofs.Sessions.{tallied-length, tally-counts}
use Rattle.validation.specs.Verdicts.{in_book, answer_in, view_in}
use Rattle.validation.proofs.Tables.{fine, names', cells', values', cells_read, values_read, still-long}

module _ (s ns cs : List ℕ) (vs : List ℤ) (e : long_enough ns cs vs ≡ true) (b : Book) (v : valid b ≡ true) (r : render b ≡ s) where
  pub shape_read : (shape : ℕ) → shape < shape_count (encode_cells b) → shape_at (encode_cells b) (encode_values b) (root_at (encode_cells b) shape) ≡ def (schema b) shape
  unfolding schema_at
  shape_read shape low =
      sym (at-values (λ i. shape_at (encode_cells b) (encode_values b) (root_at (encode_cells b) i)) (shape_count (encode_cells b)) shape top low)
      ∙ ap (λ (H : List Shape). get_or H shape top) (schema_read b (fine s ns cs vs e b v r))

  pub verdict_read : (ts : List ℕ) (q : Question) → console_count ≤ length ts → verdict_answer (names' s ns cs vs e b v r) (cells' s ns cs vs e b v r) (values' s ns cs vs e b v r) ts q ≡ answer_in b q
  unfolding verdict_answer answer_on conforms_in
  verdict_read ts q l =
      let node = q.node in
      let shape = q.shape in
      rw (still-long s ns cs vs e b v r, le-leb console_count (length ts) l, cells_read s ns cs vs e b v r, values_read s ns cs vs e b v r, well_formed_lem b (fine s ns cs vs e b v r))
      (cond_same (ltb node (node_count (encode_cells b)) && ltb shape (shape_count (encode_cells b))) (in_book b q) (to_console q (conforms (graph_at (encode_cells b) (encode_values b)) (shape_at (encode_cells b) (encode_values b) (root_at (encode_cells b) shape)) node)) (to_console q (conforms (graph_of b) (def (schema b) shape) node)) (refusal 10 0)
      (ap₂ (λ (n m : ℕ). ltb node n && ltb shape m) (names-counted b nodes) (names-counted b shapes))
      (λ t.
      let low : shape < length (names shapes b) = ltb-true shape (length (names shapes b)) (and_right (ltb node (length (names nodes b))) (ltb shape (length (names shapes b))) t) in
      ap₂ (λ (g : Graph) (φ : Shape). to_console q (conforms g φ node)) (graph_read b (fine s ns cs vs e b v r)) (shape_read shape (subst (λ n. shape < n) (sym (names-counted b shapes)) low))))

  -- ---- questions put one after the other, whatever was lent for the tables
  answers_read : (c : ℕ) (ts : List ℕ) (qs : List Question) → console_count ≤ length ts → answers_to c qs (session (names' s ns cs vs e b v r) (cells' s ns cs vs e b v r) (values' s ns cs vs e b v r) ts qs) ≡ map (answer_in b) (questions_of c qs)
  unfolding session answers_to questions_of
  answers_read c ts [] l = refl
  answers_read c ts (q ∷ qs) l =
      let x = verdict_answer (names' s ns cs vs e b v r) (cells' s ns cs vs e b v r) (values' s ns cs vs e b v r) ts q in
      let xs = answers_to c qs (session (names' s ns cs vs e b v r) (cells' s ns cs vs e b v r) (values' s ns cs vs e b v r) (tallied x q.console ts) qs) in
      let next = answers_read c (tallied x q.console ts) qs (omega (arith, l, tallied-length x q.console ts)) in
      bool_cases (λ own. cond own (x ∷ xs) xs ≡ map (answer_in b) (cond own (q ∷ questions_of c qs) (questions_of c qs))) (eqb q.console c)
      (λ own. ap₂ (λ (y : Answer Bool) (ys : List (Answer Bool)). y ∷ ys) (verdict_read ts q l) next)
      (λ other. next)

  -- **a console's answers and its tally, from eight zeros, by the book and its own questions only**
  pub view_read : (c : ℕ) (qs : List Question) → c < console_count → view_of (names' s ns cs vs e b v r) (cells' s ns cs vs e b v r) (values' s ns cs vs e b v r) c qs ≡ view_in b c qs
  view_read c qs l =
      ap₂ (λ (ys : List (Answer Bool)) (t : ℕ). record { answers = ys; tally = t }) (answers_read c no_tallies qs (omega arith)) (tally-counts (names' s ns cs vs e b v r) (cells' s ns cs vs e b v r) (values' s ns cs vs e b v r) c qs l ∙ ap (λ (ys : List (Answer Bool)). min (given_in ys) greatest) (answers_read c no_tallies qs (omega arith)))
