-- What is stored for a path and for a shape is what its entries add to the tables.
use Prim.Native.Nat.{ℕ, suc, ◌+◌, ◌-◌, ◌≤◌, ◌<◌}
use mathlib.Core.List.{List, [], ◌∷◌, ◌++◌, map, map-append}
use mathlib.Core.Path.{◌≡◌, refl, sym, ap, ◌∙◌, subst}
use native.Mathlib.Omega.{arith}
use lib.ListN.{length, set, length-append, length-map}
use lib.Seq.{sets}
use lib.IntN.{ℤ, pos}
use Rattle.base.specs.Columns.{flat, push}
use Rattle.model.specs.Limits.{max_forms, max_paths, max_items}
use Rattle.model.specs.Paths.{Path, predicate, inverse, sequence, alternative, zero_or_more, one_or_more, End, self, along}
use Rattle.model.specs.Shapes.{Test, node_kind, datatype, language_in, min_inclusive, min_exclusive, max_inclusive, max_exclusive, Shape, top, has_shape, has_value, conj, disj, neg, test, count, for_all, equals, disjoint, closed, less_than, less_than_eq, unique_lang}
use Rattle.model.specs.Sizes.{path_entries}
use Rattle.tables.specs.Layout as Layout
use Rattle.tables.specs.Codes as codes
use Rattle.tables.specs.Entries.{PathEntry, inv, seq, alt, star, plus, Entry}
use Rattle.tables.specs.Entries as E
use Rattle.encoding.specs.Rows.{PathRow, path_row, form_row, plain_row, value_row}
use Rattle.encoding.specs.Flatten.{last_number, add_path, Entries, add_form, with_path, with_items, with_end, end_number, kind_code, add_test, add_shape}
use Rattle.encoding.specs.Encode.{Content, cell_columns, value_columns}
use Rattle.encoding.proofs.Counts.{path_size, end-size, shape_size}
use Rattle.grammar.specs.Syntax.{path, end, form}
use Rattle.grammar.specs.Reading.{Begun, after}
use Rattle.stores.specs.Entries.{put_path, put_form, put_items, path_cells, end_cells, end_operand, test_cells, shape_cells, put_value, test_values, shape_values}
use Rattle.stores.proofs.Columns.{put, put₃, puts, push_default}

-- the content with other entries
abbrev pub with_entries : Content → Entries → Content
with_entries C es = record { counts = C.counts; terms = C.terms; triples = C.triples; entries = es; roots = C.roots; rules = C.rules }

abbrev add_entry : PathEntry → Entries → Entries
add_entry x es = record { paths = es.paths ++ (x ∷ []); forms = es.forms; items = es.items }

-- tables that hold a content, and what follows them
unfoldable pub cell_table : Content → List ℕ → List ℕ
cell_table C t = flat 0 (cell_columns C) ++ t

unfoldable pub value_table : Content → List ℤ → List ℤ
value_table C t = flat (pos 0) (value_columns C) ++ t

-- how many there are
abbrev pub sizes : Entries → Begun
sizes es = record { forms = length es.forms; paths = length es.paths; items = length es.items }

pub record EntriesWithin (es : Entries) : Type 0 where
  pub forms : length es.forms ≤ max_forms
  pub paths : length es.paths ≤ max_paths
  pub items : length es.items ≤ max_items

-- room for the form entry that is last_number, and for what came before it
form_room : (x : Entry) (es : Entries) → EntriesWithin (add_form x es) → length es.forms < max_forms
form_room x es w = omega (arith, w.forms, length-append es.forms (x ∷ []))

without_form : (x : Entry) (es : Entries) → EntriesWithin (add_form x es) → EntriesWithin es
without_form x es w = let n = form_room x es w in record { forms = omega arith; paths = w.paths; items = w.items }

without_path : (e : Path) (es : Entries) → EntriesWithin (with_path e es) → length es.paths + path_entries e ≤ max_paths
without_path e es w = omega (arith, path_size e es.paths, w.paths)

without_items : (ks : List ℕ) (es : Entries) → EntriesWithin (with_items ks es) → length es.items + length ks ≤ max_items
without_items ks es w = omega (arith, length-append es.items ks, w.items)

without_shape : (φ : Shape) (es : Entries) → EntriesWithin (add_shape φ es) → EntriesWithin es
without_shape φ es w = let s = shape_size φ es in record { forms = omega arith; paths = omega arith; items = omega arith }

-- how many there are with a path, an END, a shape more
begun : {a b c d e f : ℕ} → a ≡ b → c ≡ d → e ≡ f → ◌≡◌ {A = Begun} (record { forms = a; paths = c; items = e }) (record { forms = b; paths = d; items = f })
begun p q r = cc

after_path : (e : Path) (es : Entries) → after path e (sizes es) ≡ sizes (with_path e es)
unfolding after
after_path e es = begun refl (sym (path_size e es.paths)) refl

after-end : (f : End) (es : Entries) → after end f (sizes es) ≡ sizes (with_end f es)
unfolding after
after-end f es = let s = end-size f es in begun (omega arith) (sym s.paths) (omega arith)

pub after-shape : (φ : Shape) (es : Entries) → after form φ (sizes es) ≡ sizes (add_shape φ es)
unfolding after
after-shape φ es = let s = shape_size φ es in begun (sym s.forms) (sym s.paths) (sym s.items)

items_sets : (ks : List ℕ) (i : ℕ) (cs : List ℕ) → put_items i ks cs ≡ sets cs (Layout.items + i) ks
unfolding put_items
items_sets [] i cs = refl
items_sets (k ∷ ks) i cs =
    let n : Layout.items + (i + 1) ≡ suc (Layout.items + i) = omega arith in
    items_sets ks (i + 1) (set cs (Layout.items + i) k) ∙ ap (λ (j : ℕ). sets (set cs (Layout.items + i) k) j ks) n

module _ (C : Content) (t : List ℕ) where
  abbrev at : Entries → List ℕ
  at es = cell_table (with_entries C es) t

  -- ---- one entry more
  path_row_lem : (es : Entries) (x : PathEntry) → length es.paths < max_paths → put_path (length es.paths) (path_row x).code (path_row x).first (path_row x).second (at es) ≡ at (add_entry x es)
  unfolding put_path cell_table
  path_row_lem es x h =
      let n = length es.paths in
      let c : (f : PathEntry → ℕ) → n ≡ length (map f es.paths) = λ f. sym (length-map es.paths f) in
      put₃ 0 t (cell_columns (with_entries C es)) 7 8 9 n (path_row x).code (path_row x).first (path_row x).second (c (λ x. (path_row x).code)) h (c (λ x. (path_row x).first)) h (c (λ x. (path_row x).second)) h
      ∙ rw (map-append (λ x. (path_row x).code) es.paths (x ∷ []), map-append (λ x. (path_row x).first) es.paths (x ∷ []), map-append (λ x. (path_row x).second) es.paths (x ∷ []))

  form_row_lem : (es : Entries) (x : Entry) → EntriesWithin (add_form x es) → put_form (length es.forms) (form_row x).code (form_row x).first (form_row x).second (form_row x).third (form_row x).fourth (at es) ≡ at (add_form x es)
  unfolding put_form cell_table
  form_row_lem es x w =
      let n = length es.forms in
      let h : n < max_forms = form_room x es w in
      let r = form_row x in
      let c : (f : Entry → ℕ) → n ≡ length (map f es.forms) = λ f. sym (length-map es.forms f) in
      let cs = cell_columns (with_entries C es) in
      let ds = push (push (push cs 10 r.code) 11 r.first) 12 r.second in
      ap (λ (s : List ℕ). set (set s (Layout.form_thirds + n) r.third) (Layout.form_fourths + n) r.fourth)
      (put₃ 0 t cs 10 11 12 n r.code r.first r.second (c (λ x. (form_row x).code)) h (c (λ x. (form_row x).first)) h (c (λ x. (form_row x).second)) h)
      ∙ ap (λ (s : List ℕ). set s (Layout.form_fourths + n) r.fourth) (put 0 t ds 13 n r.third (c (λ x. (form_row x).third)) h)
      ∙ put 0 t (push ds 13 r.third) 14 n r.fourth (c (λ x. (form_row x).fourth)) h
      ∙ rw (
        map-append (λ x. (form_row x).code) es.forms (x ∷ []),
        map-append (λ x. (form_row x).first) es.forms (x ∷ []),
        map-append (λ x. (form_row x).second) es.forms (x ∷ []),
        map-append (λ x. (form_row x).third) es.forms (x ∷ []),
        map-append (λ x. (form_row x).fourth) es.forms (x ∷ []),
      )

  put-items : (es : Entries) (ks : List ℕ) → length es.items + length ks ≤ max_items → put_items (length es.items) ks (at es) ≡ at (with_items ks es)
  unfolding cell_table
  put-items es ks h = items_sets ks (length es.items) (at es) ∙ puts 0 t (cell_columns (with_entries C es)) 15 (length es.items) ks refl h

  -- ---- paths
  -- an entry of one part, by its code
  one-part : (x : ℕ → PathEntry) (code : ℕ) → ((k : ℕ) → path_row (x k) ≡ record { code = code; first = k; second = 0 }) → (d : Path) (es : Entries) → length es.paths + suc (path_entries d) ≤ max_paths → path_cells (length es.paths) d (at es) ≡ at (with_path d es)
      → put_path (length es.paths + path_entries d) code (length es.paths + path_entries d - 1) 0 (path_cells (length es.paths) d (at es)) ≡ at (add_entry (x (last_number (add_path d es.paths))) (with_path d es))
  one-part x code row d es h p =
      let ds = with_path d es in
      let k = last_number ds.paths in
      let n = path_size d es.paths in
      rw (p, ← path_size d es.paths) (subst (λ (r : PathRow). put_path (length ds.paths) r.code r.first r.second (at ds) ≡ at (add_entry (x k) ds)) (row k) (path_row_lem ds (x k) (omega arith)))

  pub path_cells_lem : (e : Path) (es : Entries) → length es.paths + path_entries e ≤ max_paths → path_cells (length es.paths) e (at es) ≡ at (with_path e es)
  unfolding path_cells add_path path_entries path_row
  path_cells_lem (predicate p) es h = path_row_lem es (E.link p) (omega arith)
  path_cells_lem (inverse d) es h = one-part inv codes.path_inv (λ k. refl) d es h (path_cells_lem d es (omega arith))
  path_cells_lem (sequence d e) es h =
      let ds = with_path d es in
      let fs = with_path e ds in
      let n = path_size d es.paths in
      let m = path_size e ds.paths in
      rw (path_cells_lem d es (omega arith), ← path_size d es.paths, path_cells_lem e ds (omega arith), ← path_size e ds.paths) (path_row_lem fs (seq (last_number ds.paths) (last_number fs.paths)) (omega arith))
  path_cells_lem (alternative d e) es h =
      let ds = with_path d es in
      let fs = with_path e ds in
      let n = path_size d es.paths in
      let m = path_size e ds.paths in
      rw (path_cells_lem d es (omega arith), ← path_size d es.paths, path_cells_lem e ds (omega arith), ← path_size e ds.paths) (path_row_lem fs (alt (last_number ds.paths) (last_number fs.paths)) (omega arith))
  path_cells_lem (zero_or_more d) es h = one-part star codes.path_star (λ k. refl) d es h (path_cells_lem d es (omega arith))
  path_cells_lem (one_or_more d) es h = one-part plus codes.path_plus (λ k. refl) d es h (path_cells_lem d es (omega arith))

  -- ---- shapes
  end-cells : (f : End) (es : Entries) → EntriesWithin (with_end f es) → end_cells (length es.paths) f (at es) ≡ at (with_end f es)
  unfolding end_cells with_end
  end-cells self es w = refl
  end-cells (along e) es w = path_cells_lem e es (without_path e es w)

  end-forms : (f : End) (es : Entries) → length es.forms ≡ length (with_end f es).forms
  end-forms f es = let s = end-size f es in omega arith

  end_operand_lem : (f : End) (es : Entries) → end_operand (length (with_end f es).paths) f ≡ end_number f (with_end f es)
  unfolding end_operand end_number
  end_operand_lem self es = refl
  end_operand_lem (along e) es = refl

  -- a list, and the entry that has it
  list_cells : (ks : List ℕ) (x : Entry) (es : Entries) → EntriesWithin (add_form x (with_items ks es)) → put_items (length es.items) ks (at es) ≡ at (with_items ks es)
  list_cells ks x es w = put-items es ks (without_items ks es (without_form x (with_items ks es) w))

  test_cells_lem : (x : Test) (es : Entries) → EntriesWithin (add_test x es) → test_cells (sizes es) x (at es) ≡ at (add_test x es)
  unfolding test_cells add_test form_row plain_row value_row
  test_cells_lem (node_kind k) es w = form_row_lem es (Entry.kind (kind_code k)) w
  test_cells_lem (datatype a) es w = form_row_lem es (Entry.datatype a) w
  test_cells_lem (language_in ls) es w = let x = Entry.lang (length es.items) (length ls) in rw (list_cells ls x es w) (form_row_lem (with_items ls es) x w)
  test_cells_lem (min_inclusive x) es w = form_row_lem es (Entry.from x) w
  test_cells_lem (min_exclusive x) es w = form_row_lem es (Entry.above x) w
  test_cells_lem (max_inclusive x) es w = form_row_lem es (Entry.to x) w
  test_cells_lem (max_exclusive x) es w = form_row_lem es (Entry.under x) w

  pub shape-cells : (φ : Shape) (es : Entries) → EntriesWithin (add_shape φ es) → shape_cells (sizes es) φ (at es) ≡ at (add_shape φ es)
  unfolding shape_cells add_shape form_row plain_row
  shape-cells top es w = form_row_lem es Entry.top w
  shape-cells (has_value c) es w = form_row_lem es (Entry.is c) w
  shape-cells (has_shape s) es w = form_row_lem es (Entry.shape s) w
  shape-cells (conj φ ψ) es w =
      let fs = add_shape φ es in
      let gs = add_shape ψ fs in
      let x = Entry.conj (last_number fs.forms) (last_number gs.forms) in
      let wg = without_form x gs w in
      rw (after-shape φ es, shape-cells φ es (without_shape ψ fs wg), after-shape ψ fs, shape-cells ψ fs wg) (form_row_lem gs x w)
  shape-cells (disj φ ψ) es w =
      let fs = add_shape φ es in
      let gs = add_shape ψ fs in
      let x = Entry.disj (last_number fs.forms) (last_number gs.forms) in
      let wg = without_form x gs w in
      rw (after-shape φ es, shape-cells φ es (without_shape ψ fs wg), after-shape ψ fs, shape-cells ψ fs wg) (form_row_lem gs x w)
  shape-cells (neg φ) es w =
      let fs = add_shape φ es in
      rw (after-shape φ es, shape-cells φ es (without_form _ fs w)) (form_row_lem fs _ w)
  shape-cells (test x) es w = test_cells_lem x es w
  shape-cells (count lo hi e ψ) es w =
      let ps = with_path e es in
      let fs = add_shape ψ ps in
      let wf = without_form _ fs w in
      rw (after_path e es, path_cells_lem e es (without_path e es (without_shape ψ ps wf)), after-shape ψ ps, shape-cells ψ ps wf) (form_row_lem fs _ w)
  shape-cells (for_all e ψ) es w =
      let ps = with_path e es in
      let fs = add_shape ψ ps in
      let wf = without_form _ fs w in
      rw (after_path e es, path_cells_lem e es (without_path e es (without_shape ψ ps wf)), after-shape ψ ps, shape-cells ψ ps wf) (form_row_lem fs _ w)
  shape-cells (equals f p) es w =
      let ps = with_end f es in
      rw (after-end f es, end-cells f es (without_form _ ps w), end_operand_lem f es, end-forms f es) (form_row_lem ps _ w)
  shape-cells (disjoint f p) es w =
      let ps = with_end f es in
      rw (after-end f es, end-cells f es (without_form _ ps w), end_operand_lem f es, end-forms f es) (form_row_lem ps _ w)
  shape-cells (closed ks) es w = rw (list_cells ks _ es w) (form_row_lem (with_items ks es) _ w)
  shape-cells (less_than e p) es w =
      let ps = with_path e es in
      rw (after_path e es, path_cells_lem e es (without_path e es (without_form _ ps w))) (form_row_lem ps _ w)
  shape-cells (less_than_eq e p) es w =
      let ps = with_path e es in
      rw (after_path e es, path_cells_lem e es (without_path e es (without_form _ ps w))) (form_row_lem ps _ w)
  shape-cells (unique_lang e) es w =
      let ps = with_path e es in
      rw (after_path e es, path_cells_lem e es (without_path e es (without_form _ ps w))) (form_row_lem ps _ w)

-- ---- V
module _ (C : Content) (t : List ℤ) where
  abbrev values-at : Entries → List ℤ
  values-at es = value_table (with_entries C es) t

  value_row_lem : (es : Entries) (x : Entry) → EntriesWithin (add_form x es) → put_value (length es.forms) (form_row x).value (values-at es) ≡ values-at (add_form x es)
  unfolding put_value value_table
  value_row_lem es x w =
      put (pos 0) t (value_columns (with_entries C es)) 1 (length es.forms) (form_row x).value (sym (length-map es.forms (λ x. (form_row x).value))) (form_room x es w)
      ∙ rw (map-append (λ x. (form_row x).value) es.forms (x ∷ []))

  -- an entry without V
  no_value : (es : Entries) (x : Entry) → (form_row x).value ≡ pos 0 → values-at es ≡ values-at (add_form x es)
  unfolding value_table
  no_value es x e =
      ap (λ (l : List ℤ). l ++ t) (sym (push_default (pos 0) (value_columns (with_entries C es)) 1))
      ∙ rw (map-append (λ x. (form_row x).value) es.forms (x ∷ []), e)

  test_values_lem : (x : Test) (es : Entries) → EntriesWithin (add_test x es) → test_values (sizes es) x (values-at es) ≡ values-at (add_test x es)
  unfolding test_values add_test value_table form_row plain_row value_row
  test_values_lem (node_kind k) es w = no_value es (Entry.kind (kind_code k)) refl
  test_values_lem (datatype a) es w = no_value es (Entry.datatype a) refl
  test_values_lem (language_in ls) es w = no_value (with_items ls es) (Entry.lang (length es.items) (length ls)) refl
  test_values_lem (min_inclusive x) es w = value_row_lem es (Entry.from x) w
  test_values_lem (min_exclusive x) es w = value_row_lem es (Entry.above x) w
  test_values_lem (max_inclusive x) es w = value_row_lem es (Entry.to x) w
  test_values_lem (max_exclusive x) es w = value_row_lem es (Entry.under x) w

  -- an END has no V
  end-values : (f : End) (es : Entries) → values-at es ≡ values-at (with_end f es)
  unfolding with_end value_table
  end-values self es = refl
  end-values (along e) es = refl

  pub shape-values : (φ : Shape) (es : Entries) → EntriesWithin (add_shape φ es) → shape_values (sizes es) φ (values-at es) ≡ values-at (add_shape φ es)
  unfolding shape_values add_shape value_table form_row plain_row
  shape-values top es w = no_value es Entry.top refl
  shape-values (has_value c) es w = no_value es (Entry.is c) refl
  shape-values (has_shape s) es w = no_value es (Entry.shape s) refl
  shape-values (conj φ ψ) es w =
      let fs = add_shape φ es in
      let gs = add_shape ψ fs in
      let x = Entry.conj (last_number fs.forms) (last_number gs.forms) in
      let wg = without_form x gs w in
      rw (after-shape φ es, shape-values φ es (without_shape ψ fs wg), shape-values ψ fs wg) (no_value gs x refl)
  shape-values (disj φ ψ) es w =
      let fs = add_shape φ es in
      let gs = add_shape ψ fs in
      let x = Entry.disj (last_number fs.forms) (last_number gs.forms) in
      let wg = without_form x gs w in
      rw (after-shape φ es, shape-values φ es (without_shape ψ fs wg), shape-values ψ fs wg) (no_value gs x refl)
  shape-values (neg φ) es w =
      let fs = add_shape φ es in
      shape-values φ es (without_form _ fs w) ∙ no_value fs _ refl
  shape-values (test x) es w = test_values_lem x es w
  shape-values (count lo hi e ψ) es w =
      let ps = with_path e es in
      let fs = add_shape ψ ps in
      rw (after_path e es) (shape-values ψ ps (without_form _ fs w) ∙ no_value fs _ refl)
  shape-values (for_all e ψ) es w =
      let ps = with_path e es in
      let fs = add_shape ψ ps in
      rw (after_path e es) (shape-values ψ ps (without_form _ fs w) ∙ no_value fs _ refl)
  shape-values (equals f p) es w = end-values f es ∙ no_value (with_end f es) (Entry.equal (end_number f (with_end f es)) p) refl
  shape-values (disjoint f p) es w = end-values f es ∙ no_value (with_end f es) (Entry.apart (end_number f (with_end f es)) p) refl
  shape-values (closed ks) es w = no_value (with_items ks es) (Entry.closed (length es.items) (length ks)) refl
  shape-values (less_than e p) es w = no_value (with_path e es) (Entry.less (last_number (with_path e es).paths) p) refl
  shape-values (less_than_eq e p) es w = no_value (with_path e es) (Entry.lesseq (last_number (with_path e es).paths) p) refl
  shape-values (unique_lang e) es w = no_value (with_path e es) (Entry.onelang (last_number (with_path e es).paths)) refl
