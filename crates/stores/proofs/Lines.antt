-- What is stored for a line is what the line adds to the content of the tables.
use Prim.Native.Nat.{ℕ, ◌+◌, ◌<◌}
use mathlib.Core.List.{List, [], ◌∷◌, ◌++◌, map, map-append, append-nil}
use mathlib.Core.Bool.{true, ◌&&◌}
use mathlib.Core.Path.{◌≡◌, refl, sym, ap, ◌∙◌}
use native.Mathlib.Nat.{zero-add}
use native.Mathlib.Omega.{arith}
use lib.ListN.{length, set, length-map}
use lib.IntN.{ℤ, pos}
use lib.Dec.{leb}
use borrow.Author.Tests.{ltb-true, leb-true}
use Rattle.base.proofs.Bools.{and_left, and_right}
use Rattle.model.specs.Limits.{max_nodes, max_facts, max_rules, max_shapes, max_forms, max_paths, max_items}
use Rattle.model.specs.Graph.{Term, Triple}
use Rattle.model.specs.Rules.{Rule}
use Rattle.model.specs.Shapes.{Shape}
use Rattle.model.specs.Books.{Line, link, type, lang, node, fact, shape, rule, Book, nodes, shapes, collect, new_terms, new_triples, new_shapes, new_rules, names, rules}
use Rattle.model.specs.Sizes.{form_entries, shape_paths, list_items, forms_in, paths_in, items_in}
use Rattle.model.specs.Valid.{capacity, defined, has_room, fact_ok, shape_ok, target_ok, entries_fit, line_ok}
use Rattle.model.proofs.Lines.{collect_snoc, terms-counted, shapes_counted}
use Rattle.tables.specs.Layout as Layout
use Rattle.encoding.specs.Rows.{node_row, target_code, target_operand}
use Rattle.encoding.specs.Flatten.{last_number, Entries, add_shape, add_shapes, roots_of, no_entries}
use Rattle.encoding.specs.Encode.{Content, cell_columns, value_columns, entries_of}
use Rattle.encoding.proofs.Counts.{shape_size, entries-size}
use Rattle.encoding.proofs.Schema.{entries_snoc, roots_snoc, roots-length}
use Rattle.grammar.specs.Reading.{begun_above}
use Rattle.grammar.specs.Valid.{valid_line}
use Rattle.stores.specs.Lines.{put_node, put_fact, put_rule, line_cells, line_values}
use Rattle.stores.proofs.Columns.{put, put₃}
use Rattle.stores.proofs.Prefixes.{line-right}
use Rattle.stores.proofs.Entries.{with_entries, cell_table, value_table, sizes, EntriesWithin, after-shape, shape-cells, shape-values}

-- what lines add up to, before the counts are stored
abbrev pub gathered : List Term → List Triple → List Shape → List Rule → Content
gathered ts fs φs rs = record { counts = []; terms = ts; triples = fs; entries = add_shapes φs no_entries; roots = roots_of φs no_entries; rules = rs }

abbrev pub so_far : Book → Content
so_far a = gathered (collect new_terms a) (collect new_triples a) (collect new_shapes a) (collect new_rules a)

-- what a line adds
abbrev add_term : Term → Content → Content
add_term x C = record { counts = C.counts; terms = C.terms ++ (x ∷ []); triples = C.triples; entries = C.entries; roots = C.roots; rules = C.rules }

abbrev add_fact : Triple → Content → Content
add_fact x C = record { counts = C.counts; terms = C.terms; triples = C.triples ++ (x ∷ []); entries = C.entries; roots = C.roots; rules = C.rules }

abbrev add_root : ℕ → Content → Content
add_root k C = record { counts = C.counts; terms = C.terms; triples = C.triples; entries = C.entries; roots = C.roots ++ (k ∷ []); rules = C.rules }

abbrev add_rule : Rule → Content → Content
add_rule x C = record { counts = C.counts; terms = C.terms; triples = C.triples; entries = C.entries; roots = C.roots; rules = C.rules ++ (x ∷ []) }

abbrev add_line : Line → Content → Content
add_line (link n) C = C
add_line (type n) C = C
add_line (lang n) C = C
add_line (node n x) C = add_term x C
add_line (fact x) C = add_fact x C
add_line (shape n φ) C = let es = add_shape φ C.entries in add_root (last_number es.forms) (with_entries C es)
add_line (rule x) C = add_rule x C

line_added : (ts : List Term) (fs : List Triple) (φs : List Shape) (rs : List Rule) (l : Line) → gathered (ts ++ new_terms l) (fs ++ new_triples l) (φs ++ new_shapes l) (rs ++ new_rules l) ≡ add_line l (gathered ts fs φs rs)
unfolding new_terms new_triples new_shapes new_rules
line_added ts fs φs rs (link n) = simp append-nil
line_added ts fs φs rs (type n) = simp append-nil
line_added ts fs φs rs (lang n) = simp append-nil
line_added ts fs φs rs (node n x) = simp append-nil
line_added ts fs φs rs (fact x) = simp append-nil
line_added ts fs φs rs (shape n φ) = simp append-nil (rw (entries_snoc φs no_entries φ, roots_snoc φs no_entries φ))
line_added ts fs φs rs (rule x) = simp append-nil

so_far_more : (a : Book) (l : Line) → so_far (a ++ (l ∷ [])) ≡ add_line l (so_far a)
so_far_more a l =
    rw (collect_snoc new_terms a l, collect_snoc new_triples a l, collect_snoc new_shapes a l, collect_snoc new_rules a l)
    (line_added (collect new_terms a) (collect new_triples a) (collect new_shapes a) (collect new_rules a) l)

-- ---- one row more
module _ (C : Content) (t : List ℕ) where
  term-row : (x : Term) → length C.terms < max_nodes → put_node (length C.terms) x (cell_table C t) ≡ cell_table (add_term x C) t
  unfolding put_node cell_table
  term-row x h =
      let c : (f : Term → ℕ) → length C.terms ≡ length (map f C.terms) = λ f. sym (length-map C.terms f) in
      put₃ 0 t (cell_columns C) 1 2 3 (length C.terms) (node_row x).kind (node_row x).type (node_row x).lang (c (λ x. (node_row x).kind)) h (c (λ x. (node_row x).type)) h (c (λ x. (node_row x).lang)) h
      ∙ rw (map-append (λ x. (node_row x).kind) C.terms (x ∷ []), map-append (λ x. (node_row x).type) C.terms (x ∷ []), map-append (λ x. (node_row x).lang) C.terms (x ∷ []))

  fact_row : (x : Triple) → length C.triples < max_facts → put_fact (length C.triples) x (cell_table C t) ≡ cell_table (add_fact x C) t
  unfolding put_fact cell_table
  fact_row x h =
      let c : (f : Triple → ℕ) → length C.triples ≡ length (map f C.triples) = λ f. sym (length-map C.triples f) in
      put₃ 0 t (cell_columns C) 4 5 6 (length C.triples) x.subject x.predicate x.object (c (λ x. x.subject)) h (c (λ x. x.predicate)) h (c (λ x. x.object)) h
      ∙ rw (map-append (λ x. x.subject) C.triples (x ∷ []), map-append (λ x. x.predicate) C.triples (x ∷ []), map-append (λ x. x.object) C.triples (x ∷ []))

  rule_row : (x : Rule) → length C.rules < max_rules → put_rule (length C.rules) x (cell_table C t) ≡ cell_table (add_rule x C) t
  unfolding put_rule cell_table
  rule_row x h =
      let c : (f : Rule → ℕ) → length C.rules ≡ length (map f C.rules) = λ f. sym (length-map C.rules f) in
      put₃ 0 t (cell_columns C) 17 18 19 (length C.rules) x.shape (target_code x.target) (target_operand x.target) (c (λ x. x.shape)) h (c (λ x. target_code x.target)) h (c (λ x. target_operand x.target)) h
      ∙ rw (map-append (λ x. x.shape) C.rules (x ∷ []), map-append (λ x. target_code x.target) C.rules (x ∷ []), map-append (λ x. target_operand x.target) C.rules (x ∷ []))

  root_row : (k : ℕ) → length C.roots < max_shapes → set (cell_table C t) (Layout.roots + length C.roots) k ≡ cell_table (add_root k C) t
  unfolding cell_table
  root_row k h = put 0 t (cell_columns C) 16 (length C.roots) k refl h

module _ (C : Content) (t : List ℤ) where
  term-value : (x : Term) → length C.terms < max_nodes → set (value_table C t) (length C.terms) (node_row x).value ≡ value_table (add_term x C) t
  unfolding value_table
  term-value x h =
      ap (λ (i : ℕ). set (value_table C t) i (node_row x).value) (sym (zero-add (length C.terms)))
      ∙ put (pos 0) t (value_columns C) 0 (length C.terms) (node_row x).value (sym (length-map C.terms (λ x. (node_row x).value))) h
      ∙ rw (map-append (λ x. (node_row x).value) C.terms (x ∷ []))

-- ---- a line
module _ (a : Book) where
  term-room : has_room a nodes ≡ true → length (collect new_terms a) < max_nodes
  unfolding has_room capacity
  term-room e = omega (arith, ltb-true (length (names nodes a)) max_nodes e, terms-counted a)

  root_room : has_room a shapes ≡ true → length (roots_of (collect new_shapes a) no_entries) < max_shapes
  unfolding has_room capacity
  root_room e = omega (arith, ltb-true (length (names shapes a)) max_shapes e, shapes_counted a, roots-length (collect new_shapes a) no_entries)

  root_number : length (names shapes a) ≡ length (roots_of (collect new_shapes a) no_entries)
  root_number = sym (roots-length (collect new_shapes a) no_entries ∙ shapes_counted a)

  -- the entries of the shapes above
  abbrev above : Entries
  above = add_shapes (collect new_shapes a) no_entries

  ended_sizes : begun_above a ≡ sizes above
  unfolding begun_above entries_of
  ended_sizes =
      let s = entries-size a in
      let f : forms_in a ≡ length above.forms = omega arith in
      let p : paths_in a ≡ length above.paths = omega arith in
      let i : items_in a ≡ length above.items = omega arith in
      cc

  within_more : (φ : Shape) → entries_fit a φ ≡ true → EntriesWithin (add_shape φ above)
  unfolding entries_fit entries_of
  within_more φ e =
      let s = entries-size a in
      let z = shape_size φ above in
      let r = and_right (leb (forms_in a + form_entries φ) max_forms) _ e in
      record {
        forms = omega (arith, leb-true (forms_in a + form_entries φ) max_forms (and_left _ _ e));
        paths = omega (arith, leb-true (paths_in a + shape_paths φ) max_paths (and_left _ _ r));
        items = omega (arith, leb-true (items_in a + list_items φ) max_items (and_right (leb (paths_in a + shape_paths φ) max_paths) _ r));
      }

  module _ (t : List ℕ) where
    cells_added : (l : Line) → line_ok a l ≡ true → line_cells a l (cell_table (so_far a) t) ≡ cell_table (add_line l (so_far a)) t
    unfolding line_cells line_ok rules
    cells_added (link n) e = refl
    cells_added (type n) e = refl
    cells_added (lang n) e = refl
    cells_added (node n x) e = rw (← terms-counted a) (term-row (so_far a) t x (term-room (and_left _ _ e)))
    cells_added (fact x) e = fact_row (so_far a) t x (ltb-true (length (collect new_triples a)) max_facts (and_right (fact_ok a x) _ e))
    cells_added (shape n φ) e =
        let r = and_right (has_room a shapes) _ e in
        let C = with_entries (so_far a) (add_shape φ above) in
        rw (ended_sizes, after-shape φ above, shape-cells (so_far a) t φ above (within_more φ (and_right (shape_ok a φ) _ r)), root_number)
        (root_row C t (last_number (add_shape φ above).forms) (root_room (and_left _ _ e)))
    cells_added (rule x) e = rule_row (so_far a) t x (ltb-true (length (rules a)) max_rules (and_right (defined a shapes x.shape && target_ok a x.target) _ e))

  module _ (t : List ℤ) where
    values_added : (l : Line) → line_ok a l ≡ true → line_values a l (value_table (so_far a) t) ≡ value_table (add_line l (so_far a)) t
    unfolding line_values line_ok value_table
    values_added (link n) e = refl
    values_added (type n) e = refl
    values_added (lang n) e = refl
    values_added (node n x) e = rw (← terms-counted a) (term-value (so_far a) t x (term-room (and_left _ _ e)))
    values_added (fact x) e = refl
    values_added (shape n φ) e =
        let r = and_right (has_room a shapes) _ e in
        rw ended_sizes (shape-values (so_far a) t φ above (within_more φ (and_right (shape_ok a φ) _ r)))
    values_added (rule x) e = refl

  module _ (l : Line) (ok : valid_line a l ≡ true) where
    pub line-cells : (t : List ℕ) → line_cells a l (cell_table (so_far a) t) ≡ cell_table (so_far (a ++ (l ∷ []))) t
    line-cells t = cells_added t l (line-right a l ok) ∙ ap (λ (C : Content). cell_table C t) (sym (so_far_more a l))

    pub line-values : (t : List ℤ) → line_values a l (value_table (so_far a) t) ≡ value_table (so_far (a ++ (l ∷ []))) t
    line-values t = values_added t l (line-right a l ok) ∙ ap (λ (C : Content). value_table C t) (sym (so_far_more a l))
