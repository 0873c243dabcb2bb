-- The schema of a book, read back from its tables: each shape at its number, with shape names expanded.
use Prim.Native.Nat.{ℕ, zero, suc, ◌+◌, ◌≤◌, ◌<◌}
use mathlib.Core.List.{List, [], ◌∷◌, ◌++◌, append-nil}
use mathlib.Core.Bool.{true}
use mathlib.Core.Path.{◌≡◌, refl, sym, ap, ◌∙◌, subst}
use native.Mathlib.Omega.{arith}
use lib.ListN.{length, get_or, length-append}
use lib.IntN.{ℤ, pos}
use borrow.Author.Tests.{ltb-true}
use Rattle.model.specs.Limits.{max_paths, max_forms}
use Rattle.model.specs.Shapes.{Shape, top, expand}
use Rattle.model.specs.Books.{Book, link, type, lang, node, fact, shape, rule, shapes, new_shapes, collect, names, schema_from, schema}
use Rattle.model.specs.Valid.{capacity, defined, shape_ok, admissible}
use Rattle.tables.specs.Layout.{path_count, shape_count, form_code_at, form_first_at, form_second_at, form_third_at, form_fourth_at, limit_at, item_at, root_at}
use Rattle.tables.specs.Entries.{Entry, entry_of}
use Rattle.tables.specs.Decode.{path_entry_at, entry_at, shape_at, schema_at}
use Rattle.encoding.specs.Rows.{path_row, form_row}
use Rattle.encoding.specs.Flatten.{last_number, Entries, add_shape, add_shapes, roots_of, no_entries}
use Rattle.encoding.specs.Encode.{cell_columns, value_columns, entries_of, content_of, encode_cells, encode_values}
use Rattle.base.proofs.Lists.{Extends}
use Rattle.encoding.proofs.Places.{Gives, gives-front, gives-end, by_number-none, by_number_snoc, at-column, at-items, values-is}
use Rattle.model.proofs.Lines.{shape_by_shape, names-within, forms-within, paths-within, items-within, shapes_counted}
use Rattle.encoding.proofs.Counts.{shapes_size, entries-size, names-counted, paths-counted, items-counted}
use Rattle.encoding.proofs.Paths.{path_back}
use Rattle.encoding.proofs.Shapes.{form_back, form_last, grows_shape, EntriesHeld, held-before, Low, shape_read}

-- ---- the shapes of a book, each expanded by those before it, after H
unfoldable pub expand_all : List Shape → List Shape → List Shape
expand_all H [] = H
expand_all H (φ ∷ φs) = expand_all (H ++ (expand H φ ∷ [])) φs

pub schema_shapes : (H : List Shape) (b : Book) → schema_from H b ≡ expand_all H (collect new_shapes b)
unfolding schema_from collect new_shapes expand_all
schema_shapes H [] = refl
schema_shapes H (link n ∷ b) = ap (λ (G : List Shape). schema_from G b) (append-nil H) ∙ schema_shapes H b
schema_shapes H (type n ∷ b) = ap (λ (G : List Shape). schema_from G b) (append-nil H) ∙ schema_shapes H b
schema_shapes H (lang n ∷ b) = ap (λ (G : List Shape). schema_from G b) (append-nil H) ∙ schema_shapes H b
schema_shapes H (node n t ∷ b) = ap (λ (G : List Shape). schema_from G b) (append-nil H) ∙ schema_shapes H b
schema_shapes H (fact t ∷ b) = ap (λ (G : List Shape). schema_from G b) (append-nil H) ∙ schema_shapes H b
schema_shapes H (shape n φ ∷ b) = schema_shapes (H ++ (expand H φ ∷ [])) b
schema_shapes H (rule r ∷ b) = ap (λ (G : List Shape). schema_from G b) (append-nil H) ∙ schema_shapes H b

pub expand-length : (φs H : List Shape) → length (expand_all H φs) ≡ length H + length φs
unfolding expand_all
expand-length [] H = omega arith
expand-length (φ ∷ φs) H = omega (arith, expand-length φs (H ++ (expand H φ ∷ [])), length-append H (expand H φ ∷ []))

-- ---- one shape more, at the end
pub expand_snoc : (φs H : List Shape) (φ : Shape) → expand_all H (φs ++ (φ ∷ [])) ≡ expand_all H φs ++ (expand (expand_all H φs) φ ∷ [])
unfolding expand_all
expand_snoc [] H φ = refl
expand_snoc (ψ ∷ φs) H φ = expand_snoc φs (H ++ (expand H ψ ∷ [])) φ

pub entries_snoc : (φs : List Shape) (es : Entries) (φ : Shape) → add_shapes (φs ++ (φ ∷ [])) es ≡ add_shape φ (add_shapes φs es)
unfolding add_shapes
entries_snoc [] es φ = refl
entries_snoc (ψ ∷ φs) es φ = entries_snoc φs (add_shape ψ es) φ

pub roots_snoc : (φs : List Shape) (es : Entries) (φ : Shape) → roots_of (φs ++ (φ ∷ [])) es ≡ roots_of φs es ++ (last_number (add_shape φ (add_shapes φs es)).forms ∷ [])
unfolding roots_of add_shapes
roots_snoc [] es φ = refl
roots_snoc (ψ ∷ φs) es φ = ap (λ (l : List ℕ). last_number (add_shape ψ es).forms ∷ l) (roots_snoc φs (add_shape ψ es) φ)

pub roots-length : (φs : List Shape) (es : Entries) → length (roots_of φs es) ≡ length φs
unfolding roots_of
roots-length [] es = refl
roots-length (φ ∷ φs) es = ap suc (roots-length φs (add_shape φ es))

-- a shape begins with one of the entries
pub roots-low : (φs : List Shape) (es : Entries) (s : ℕ) → s < length φs → get_or (roots_of φs es) s 0 < length (add_shapes φs es).forms
unfolding roots_of add_shapes
roots-low [] es s l = absurd (omega arith)
roots-low (φ ∷ φs) es zero l = omega (arith, form_last φ es, shapes_size φs (add_shape φ es))
roots-low (φ ∷ φs) es (suc s) l = roots-low φs (add_shape φ es) s (omega arith)

-- ---- tables that hold the entries and roots of an admissible book's shapes
-- a shape named on the lines above has a number below theirs
pub shape-defined : (a : Book) (s : ℕ) → defined a shapes s ≡ true → s < length (collect new_shapes a)
unfolding defined
shape-defined a s d = omega (arith, ltb-true s (length (names shapes a)) d, shapes_counted a)

pub low-roots : (cs : List ℕ) (a : Book) → Gives (root_at cs) (roots_of (collect new_shapes a) no_entries) → Low cs a (add_shapes (collect new_shapes a) no_entries)
low-roots cs a r s d =
    let φs = collect new_shapes a in
    let l : s < length φs = shape-defined a s d in
    omega (arith, r s 0 (omega (arith, roots-length φs no_entries)), roots-low φs no_entries s l)

module _ (cs : List ℕ) (vs : List ℤ) where
  -- the tables hold the entries and roots of these shapes and of one more, after them
  pub record Next (φs : List Shape) (φ : Shape) : Type 0 where
    pub entries : EntriesHeld cs vs (add_shape φ (add_shapes φs no_entries))
    pub roots : Gives (root_at cs) (roots_of φs no_entries)
    pub root : root_at cs (length φs) ≡ last_number (add_shape φ (add_shapes φs no_entries)).forms

  -- induction over the shapes of a book whose entries and roots the tables hold
  module _ (Q : List Shape → Type 0) (start : Q []) (b : Book) (step : (a : Book) (φ : Shape) → Extends a b → Next (collect new_shapes a) φ → Q (collect new_shapes a) → shape_ok a φ ≡ true → Q (collect new_shapes a ++ (φ ∷ []))) where
    pub held_shapes : admissible b ≡ true → EntriesHeld cs vs (add_shapes (collect new_shapes b) no_entries) → Gives (root_at cs) (roots_of (collect new_shapes b) no_entries) → Q (collect new_shapes b)
    held_shapes = shape_by_shape (λ φs. EntriesHeld cs vs (add_shapes φs no_entries) → Gives (root_at cs) (roots_of φs no_entries) → Q φs) (λ h r. start) b (λ a φ x q ok fit h r.
        let φs = collect new_shapes a in
        let es = add_shapes φs no_entries in
        let root = last_number (add_shape φ es).forms in
        let h' : EntriesHeld cs vs (add_shape φ es) = subst (EntriesHeld cs vs) (entries_snoc φs no_entries φ) h in
        let r' : Gives (root_at cs) (roots_of φs no_entries ++ (root ∷ [])) = subst (Gives (root_at cs)) (roots_snoc φs no_entries φ) r in
        let r₀ : Gives (root_at cs) (roots_of φs no_entries) = gives-front (root_at cs) (roots_of φs no_entries) (root ∷ []) r' in
        let at : root_at cs (length φs) ≡ root = ap (root_at cs) (sym (roots-length φs no_entries)) ∙ gives-end (root_at cs) (roots_of φs no_entries) root r' in
        step a φ x (record { entries = h'; roots = r₀; root = at }) (q (held-before (grows_shape φ es) h') r₀) ok)

  -- each shape, read from where it begins
  abbrev ReadBack : List Shape → Type 0
  ReadBack φs = Gives (λ s. shape_at cs vs (root_at cs s)) (expand_all [] φs)

  module _ (few : path_count cs ≤ max_paths) where
    shape-more : (a : Book) (φ : Shape) → Next (collect new_shapes a) φ → ReadBack (collect new_shapes a) → shape_ok a φ ≡ true → ReadBack (collect new_shapes a ++ (φ ∷ []))
    shape-more a φ n before ok =
        let φs = collect new_shapes a in
        let H = expand_all [] φs in
        let here = shape_read cs vs few H a (λ s d. before s top (omega (arith, shape-defined a s d, expand-length φs []))) φ (add_shapes φs no_entries) (low-roots cs a n.roots) n.entries ok in
        let at : root_at cs (length H) ≡ root_at cs (length φs) = ap (root_at cs) (let z : length H ≡ length φs = omega (arith, expand-length φs []) in z) in
        subst (Gives (λ s. shape_at cs vs (root_at cs s))) (sym (expand_snoc φs [] φ))
        (by_number_snoc (λ s x. shape_at cs vs (root_at cs s) ≡ x) H (expand H φ) before (ap (shape_at cs vs) (at ∙ n.root) ∙ here))

    pub shapes_read : (b : Book) → admissible b ≡ true → EntriesHeld cs vs (add_shapes (collect new_shapes b) no_entries) → Gives (root_at cs) (roots_of (collect new_shapes b) no_entries) → ReadBack (collect new_shapes b)
    unfolding expand_all
    shapes_read b = held_shapes ReadBack (by_number-none (λ s x. shape_at cs vs (root_at cs s) ≡ x)) b (λ a φ _ n q ok. shape-more a φ n q ok)

-- ---- the tables of a book hold its entries
module _ (b : Book) (ok : admissible b ≡ true) where
  pub path_entry-at : Gives (path_entry_at (encode_cells b)) (entries_of b).paths
  unfolding path_entry_at encode_cells content_of
  path_entry-at i d l =
      let cs = cell_columns (content_of b) in
      let xs = (entries_of b).paths in
      let fit : length xs ≤ max_paths = omega (arith, entries-size b, paths-within b ok) in
      let code = at-column 0 cs 7 (λ x. (path_row x).code) xs refl fit i d l in
      let first = at-column 0 cs 8 (λ x. (path_row x).first) xs refl fit i d l in
      let second = at-column 0 cs 9 (λ x. (path_row x).second) xs refl fit i d l in
      rw (code, first, second) (path_back (get_or xs i d))

  -- a form entry, with V out of any values
  pub form_entry-with : (v : ℤ) (i : ℕ) (d : Entry) → i < length (entries_of b).forms → entry_of (form_code_at (encode_cells b) i) (form_first_at (encode_cells b) i) (form_second_at (encode_cells b) i) (form_third_at (encode_cells b) i) (form_fourth_at (encode_cells b) i) v ≡ (let r = form_row (get_or (entries_of b).forms i d) in entry_of r.code r.first r.second r.third r.fourth v)
  unfolding encode_cells content_of
  form_entry-with v i d l =
      let cs = cell_columns (content_of b) in
      let xs = (entries_of b).forms in
      let fit : length xs ≤ max_forms = omega (arith, entries-size b, forms-within b ok) in
      let code = at-column 0 cs 10 (λ x. (form_row x).code) xs refl fit i d l in
      let first = at-column 0 cs 11 (λ x. (form_row x).first) xs refl fit i d l in
      let second = at-column 0 cs 12 (λ x. (form_row x).second) xs refl fit i d l in
      let third = at-column 0 cs 13 (λ x. (form_row x).third) xs refl fit i d l in
      let fourth = at-column 0 cs 14 (λ x. (form_row x).fourth) xs refl fit i d l in
      λ j. entry_of (code j) (first j) (second j) (third j) (fourth j) v

  pub form_entry-at : Gives (entry_at (encode_cells b) (encode_values b)) (entries_of b).forms
  unfolding entry_at encode_values content_of
  form_entry-at i d l =
      let xs = (entries_of b).forms in
      let r = form_row (get_or xs i d) in
      let fit : length xs ≤ max_forms = omega (arith, entries-size b, forms-within b ok) in
      let value = at-column (pos 0) (value_columns (content_of b)) 1 (λ x. (form_row x).value) xs refl fit i d l in
      form_entry-with (limit_at (encode_values b) i) i d l ∙ ap (λ (v : ℤ). entry_of r.code r.first r.second r.third r.fourth v) value ∙ form_back (get_or xs i d)

  pub item-at : Gives (item_at (encode_cells b)) (entries_of b).items
  unfolding encode_cells content_of
  item-at = at-items 0 (cell_columns (content_of b)) 15 (entries_of b).items refl (omega (arith, entries-size b, items-within b ok))

  pub root_at_lem : Gives (root_at (encode_cells b)) (roots_of (collect new_shapes b) no_entries)
  unfolding encode_cells content_of capacity
  root_at_lem = at-items 0 (cell_columns (content_of b)) 16 (roots_of (collect new_shapes b) no_entries) refl (omega (arith, roots-length (collect new_shapes b) no_entries, shapes_counted b, names-within shapes b ok))

  pub entries-held : EntriesHeld (encode_cells b) (encode_values b) (entries_of b)
  entries-held =
      record {
        paths = path_entry-at;
        forms = form_entry-at;
        items = item-at;
        paths_fit = omega (arith, paths-counted b, entries-size b);
        items_fit = omega (arith, items-counted b, entries-size b);
      }

  pub schema_read : schema_at (encode_cells b) (encode_values b) ≡ schema b
  unfolding schema_at schema entries_of
  schema_read =
      let φs = collect new_shapes b in
      values-is (λ s. shape_at (encode_cells b) (encode_values b) (root_at (encode_cells b) s)) (shape_count (encode_cells b)) (expand_all [] φs)
      (omega (arith, names-counted b shapes, shapes_counted b, expand-length φs []))
      (shapes_read (encode_cells b) (encode_values b) (omega (arith, paths-counted b, paths-within b ok)) b ok entries-held root_at_lem)
      ∙ sym (schema_shapes [] b)
