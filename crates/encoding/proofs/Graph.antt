-- The graph and the rules, read back from the tables of a book.
use Prim.Native.Nat.{ℕ, ◌≤◌, ◌<◌}
use mathlib.Core.Bool.{Bool, true, cond}
use mathlib.Core.Path.{◌≡◌, refl, sym, ap, ap₂, ◌∙◌}
use native.Mathlib.Nat.{zero-add}
use native.Mathlib.Omega.{arith}
use lib.Dec.{ltb}
use lib.ListN.{length, get_or, get_or-eq_default}
use lib.IntN.{pos}
use borrow.Author.Tests.{lt-ltb, le-ltb}
use Rattle.model.specs.Graph.{Term, iri, blank_node, numeric, plain, tagged, Triple}
use Rattle.model.specs.Rules.{Target, target_node, subjects_of, objects_of, target_class, Rule}
use Rattle.model.specs.Books.{Book, nodes, new_terms, new_triples, collect, rules, graph_of}
use Rattle.model.specs.Valid.{capacity, admissible}
use Rattle.model.specs.Limits.{max_nodes}
use Rattle.tables.specs.Layout.{node_count, fact_count, rule_count, kind_at, type_at, lang_at, number_at, rule_shape_at, rule_target_at, rule_operand_at}
use Rattle.tables.specs.Decode.{term_of, term_at, triple_at, triples_at, graph_at, target_of, rule_at, rules_at}
use Rattle.encoding.specs.Rows.{node_row, target_code, target_operand}
use Rattle.encoding.specs.Encode.{cell_columns, value_columns, content_of, encode_cells, encode_values}
use Rattle.encoding.proofs.Places.{below_or, at-column, values-is}
use Rattle.model.proofs.Lines.{facts_within, rules-within, names-within, terms-counted}
use Rattle.encoding.proofs.Counts.{names-counted, facts_counted_lem, rules-counted}

-- ---- a row read back is what it was made of
pub term-back : (t : Term) → term_of (node_row t).kind (node_row t).type (node_row t).lang (node_row t).value ≡ t
unfolding term_of node_row
term-back iri = refl
term-back blank_node = refl
term-back (numeric t x) = refl
term-back (plain t) = refl
term-back (tagged l) = refl

pub target-back : (t : Target) → target_of (target_code t) (target_operand t) ≡ t
unfolding target_of target_code target_operand
target-back (target_node c) = refl
target-back (subjects_of p) = refl
target-back (objects_of p) = refl
target-back (target_class c) = refl

module _ (b : Book) (ok : admissible b ≡ true) where
  -- ---- the terms
  pub terms-within : length (collect new_terms b) ≤ max_nodes
  unfolding capacity
  terms-within = omega (arith, terms-counted b, names-within nodes b ok)

  pub kind-at : (v : ℕ) (d : Term) → v < length (collect new_terms b) → kind_at (encode_cells b) v ≡ (node_row (get_or (collect new_terms b) v d)).kind
  unfolding encode_cells content_of
  kind-at = at-column 0 (cell_columns (content_of b)) 1 (λ t. (node_row t).kind) (collect new_terms b) refl terms-within

  pub type-at : (v : ℕ) (d : Term) → v < length (collect new_terms b) → type_at (encode_cells b) v ≡ (node_row (get_or (collect new_terms b) v d)).type
  unfolding encode_cells content_of
  type-at = at-column 0 (cell_columns (content_of b)) 2 (λ t. (node_row t).type) (collect new_terms b) refl terms-within

  pub lang-at : (v : ℕ) (d : Term) → v < length (collect new_terms b) → lang_at (encode_cells b) v ≡ (node_row (get_or (collect new_terms b) v d)).lang
  unfolding encode_cells content_of
  lang-at = at-column 0 (cell_columns (content_of b)) 3 (λ t. (node_row t).lang) (collect new_terms b) refl terms-within

  pub number-at : (v : ℕ) (d : Term) → v < length (collect new_terms b) → number_at (encode_values b) v ≡ (node_row (get_or (collect new_terms b) v d)).value
  unfolding encode_values content_of
  number-at v d l = ap (λ (j : ℕ). get_or (encode_values b) j (pos 0)) (sym (zero-add v)) ∙ at-column (pos 0) (value_columns (content_of b)) 0 (λ t. (node_row t).value) (collect new_terms b) refl terms-within v d l

  pub term_read : (v : ℕ) (d : Term) → v < length (collect new_terms b) → term_of (kind_at (encode_cells b) v) (type_at (encode_cells b) v) (lang_at (encode_cells b) v) (number_at (encode_values b) v) ≡ get_or (collect new_terms b) v d
  term_read v d l = rw (kind-at v d l, type-at v d l, lang-at v d l, number-at v d l) (term-back (get_or (collect new_terms b) v d))

  -- a number past the last node stands for no term, on both sides
  pub term-at : (v : ℕ) → term_at (encode_cells b) (encode_values b) v ≡ get_or (collect new_terms b) v iri
  unfolding term_at
  term-at v =
      let ts = collect new_terms b in
      let n : node_count (encode_cells b) ≡ length ts = names-counted b nodes ∙ sym (terms-counted b) in
      let row = term_of (kind_at (encode_cells b) v) (type_at (encode_cells b) v) (lang_at (encode_cells b) v) (number_at (encode_values b) v) in
      ap (λ (k : ℕ). cond (ltb v k) row iri) n
      ∙ below_or (cond (ltb v (length ts)) row iri ≡ get_or ts v iri) v (length ts)
      (λ l. ap (λ (t : Bool). cond t row iri) (lt-ltb v (length ts) l) ∙ term_read v iri l)
      (λ l. ap (λ (t : Bool). cond t row iri) (le-ltb v (length ts) l) ∙ sym (get_or-eq_default ts iri l))

  -- ---- the triples, one for each line, in the order of the lines
  pub triple_at_lem : (i : ℕ) (d : Triple) → i < length (collect new_triples b) → triple_at (encode_cells b) i ≡ get_or (collect new_triples b) i d
  unfolding triple_at encode_cells content_of
  triple_at_lem i d l =
      let cs = cell_columns (content_of b) in
      let ts = collect new_triples b in
      let subject = at-column 0 cs 4 (λ t. t.subject) ts refl (facts_within b ok) i d l in
      let predicate = at-column 0 cs 5 (λ t. t.predicate) ts refl (facts_within b ok) i d l in
      let object = at-column 0 cs 6 (λ t. t.object) ts refl (facts_within b ok) i d l in
      λ j. record { subject = subject j; predicate = predicate j; object = object j }

  pub triples_read : triples_at (encode_cells b) ≡ collect new_triples b
  unfolding triples_at
  triples_read = values-is (triple_at (encode_cells b)) (fact_count (encode_cells b)) (collect new_triples b) (facts_counted_lem b) triple_at_lem

  -- ---- the graph
  pub graph_read : graph_at (encode_cells b) (encode_values b) ≡ graph_of b
  unfolding graph_at graph_of
  graph_read =
      let n : node_count (encode_cells b) ≡ length (collect new_terms b) = names-counted b nodes ∙ sym (terms-counted b) in
      λ j. record { nodes = n j; term = λ v. term-at v j; triples = triples_read j }

  -- ---- the rules
  pub rule_shape-at : (i : ℕ) (d : Rule) → i < length (rules b) → rule_shape_at (encode_cells b) i ≡ (get_or (rules b) i d).shape
  unfolding encode_cells content_of
  rule_shape-at = at-column 0 (cell_columns (content_of b)) 17 (λ r. r.shape) (rules b) refl (rules-within b ok)

  pub rule_target-at : (i : ℕ) (d : Rule) → i < length (rules b) → rule_target_at (encode_cells b) i ≡ target_code (get_or (rules b) i d).target
  unfolding encode_cells content_of
  rule_target-at = at-column 0 (cell_columns (content_of b)) 18 (λ r. target_code r.target) (rules b) refl (rules-within b ok)

  pub rule_operand_at_lem : (i : ℕ) (d : Rule) → i < length (rules b) → rule_operand_at (encode_cells b) i ≡ target_operand (get_or (rules b) i d).target
  unfolding encode_cells content_of
  rule_operand_at_lem = at-column 0 (cell_columns (content_of b)) 19 (λ r. target_operand r.target) (rules b) refl (rules-within b ok)

  pub rule_at_lem : (i : ℕ) (d : Rule) → i < length (rules b) → rule_at (encode_cells b) i ≡ get_or (rules b) i d
  unfolding rule_at
  rule_at_lem i d l =
      let target = ap₂ target_of (rule_target-at i d l) (rule_operand_at_lem i d l) ∙ target-back (get_or (rules b) i d).target in
      λ j. record { shape = rule_shape-at i d l j; target = target j }

  pub rules_read : rules_at (encode_cells b) ≡ rules b
  unfolding rules_at
  rules_read = values-is (rule_at (encode_cells b)) (rule_count (encode_cells b)) (rules b) (rules-counted b) rule_at_lem
