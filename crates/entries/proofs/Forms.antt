-- Entries that look along paths, from the sets of ends as words.
use Prim.Native.Nat.{ℕ}
use mathlib.Core.List.{List}
use mathlib.Core.Bool.{Bool, not, ◌&&◌}
use mathlib.Core.Path.{◌≡◌, ap, ap₂, ◌∙◌}
use lib.Dec.{eqb}
use lib.IntN.{ℤ}
use Rattle.base.specs.Bounded.{◌⇒◌}
use Rattle.nodeset.specs.Words.{has, words_of}
use Rattle.model.specs.Paths.{End, predicate, along, ends, ends_of}
use Rattle.model.specs.Shapes.{subset, none_shared, all_pairs, less, less_eq, same_lang, conforms}
use Rattle.tables.specs.Codes as codes
use Rattle.tables.specs.Layout.{node_count, form_code_at, form_first_at, form_second_at}
use Rattle.tables.specs.Entries.{entry_of}
use Rattle.tables.specs.Decode.{term_at, triples_at, graph_at, path_at, end_at, shape_of, shape_at}
use Rattle.entries.specs.Tables.{Asked}
use Rattle.entries.proofs.Codes.{conforms_by, nodes_le, less_path, lesseq_path, path_along}
use Rattle.entries.proofs.Sets.{subset_of, shared_of, pairs_of}

module _ (cs : List ℕ) {index : List ℕ} (vs : List ℤ) (e v : ℕ) (k : Asked cs index e v) where
  -- the ends of an END from v
  abbrev pub end_set : End → ℕ → Bool
  end_set x = ends_of (node_count cs) (triples_at cs) x v

  -- a: the ends of the first operand; b: the objects of the second; n: the node count as it was read
  module _ {a b : List ℕ} (ea : a ≡ words_of (end_set (end_at cs (form_first_at cs e))) 16) (eb : b ≡ words_of (end_set (along (predicate (form_second_at cs e)))) 16) where
    pub set_equal : (n : ℕ) → n ≡ node_count cs → form_code_at cs e ≡ codes.form_equal → (subset n (has a) (has b) && subset n (has b) (has a)) ≡ conforms (graph_at cs vs) (shape_at cs vs e) v
    unfolding entry_of shape_of conforms graph_at ends_of
    set_equal n en q =
        ap (λ (n : ℕ). subset n (has a) (has b) && subset n (has b) (has a)) en
        ∙ ap₂ (λ (s t : Bool). s && t)
        (subset_of (end_set (end_at cs (form_first_at cs e))) (end_set (along (predicate (form_second_at cs e)))) (node_count cs) (nodes_le cs k.tables) ea eb)
        (subset_of (end_set (along (predicate (form_second_at cs e)))) (end_set (end_at cs (form_first_at cs e))) (node_count cs) (nodes_le cs k.tables) eb ea)
        ∙ conforms_by cs k.tables vs e k.entry 15 q v

    pub set_apart : (n : ℕ) → n ≡ node_count cs → form_code_at cs e ≡ codes.form_apart → none_shared n (has a) (has b) ≡ conforms (graph_at cs vs) (shape_at cs vs e) v
    unfolding entry_of shape_of conforms graph_at ends_of
    set_apart n en q =
        ap (λ (n : ℕ). none_shared n (has a) (has b)) en
        ∙ shared_of (end_set (end_at cs (form_first_at cs e))) (end_set (along (predicate (form_second_at cs e)))) (node_count cs) (nodes_le cs k.tables) ea eb
        ∙ conforms_by cs k.tables vs e k.entry 16 q v

    -- the pairs of a path's ends and a link's objects
    set_pairs : (r : ℕ → ℕ → Bool) → end_at cs (form_first_at cs e) ≡ along (path_at cs (form_first_at cs e)) → all_pairs (node_count cs) (has a) (has b) r ≡ all_pairs (node_count cs) (ends (node_count cs) (triples_at cs) (path_at cs (form_first_at cs e)) v) (ends (node_count cs) (triples_at cs) (predicate (form_second_at cs e)) v) r
    unfolding ends_of
    set_pairs r q = pairs_of (end_set (along (path_at cs (form_first_at cs e)))) (end_set (along (predicate (form_second_at cs e)))) (node_count cs) (nodes_le cs k.tables) (ea ∙ ap (λ (x : End). words_of (end_set x) 16) q) eb r

    pub set-less : form_code_at cs e ≡ codes.form_less → all_pairs (node_count cs) (has a) (has b) (λ x y. less (term_at cs vs x) (term_at cs vs y)) ≡ conforms (graph_at cs vs) (shape_at cs vs e) v
    unfolding entry_of shape_of conforms graph_at
    set-less q = set_pairs (λ x y. less (term_at cs vs x) (term_at cs vs y)) (path_along cs k.tables vs e k.entry (less_path cs k.tables vs e k.entry q)) ∙ conforms_by cs k.tables vs e k.entry 18 q v

    pub set_lesseq : form_code_at cs e ≡ codes.form_lesseq → all_pairs (node_count cs) (has a) (has b) (λ x y. less_eq (term_at cs vs x) (term_at cs vs y)) ≡ conforms (graph_at cs vs) (shape_at cs vs e) v
    unfolding entry_of shape_of conforms graph_at
    set_lesseq q = set_pairs (λ x y. less_eq (term_at cs vs x) (term_at cs vs y)) (path_along cs k.tables vs e k.entry (lesseq_path cs k.tables vs e k.entry q)) ∙ conforms_by cs k.tables vs e k.entry 19 q v

  pub set-lang : {a : List ℕ} → a ≡ words_of (end_set (along (path_at cs (form_first_at cs e)))) 16 → form_code_at cs e ≡ codes.form_onelang → all_pairs (node_count cs) (has a) (has a) (λ x y. not (eqb x y) ⇒ not (same_lang (term_at cs vs x) (term_at cs vs y))) ≡ conforms (graph_at cs vs) (shape_at cs vs e) v
  unfolding entry_of shape_of conforms graph_at ends_of
  set-lang ea q =
      pairs_of (end_set (along (path_at cs (form_first_at cs e)))) (end_set (along (path_at cs (form_first_at cs e)))) (node_count cs) (nodes_le cs k.tables) ea ea (λ x y. not (eqb x y) ⇒ not (same_lang (term_at cs vs x) (term_at cs vs y)))
      ∙ conforms_by cs k.tables vs e k.entry 20 q v
