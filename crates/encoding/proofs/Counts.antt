-- How long the tables are, how many entries shapes take, and the ten counts.
use Prim.Native.Nat.{ℕ, suc, ◌+◌, ◌<◌}
use mathlib.Core.List.{List, [], ◌∷◌, ◌++◌}
use mathlib.Core.Path.{◌≡◌, sym, ap, ◌∙◌}
use native.Mathlib.Nat.{zero-add}
use native.Mathlib.Omega.{arith}
use lib.ListN.{length, get_or, length-append}
use lib.IntN.{pos}
use Rattle.base.proofs.Columns.{at-flat, length-flat}
use Rattle.model.specs.Paths.{Path, predicate, inverse, sequence, alternative, zero_or_more, one_or_more, End, self, along}
use Rattle.model.specs.Shapes.{Test, node_kind, datatype, language_in, min_inclusive, min_exclusive, max_inclusive, max_exclusive, Shape, top, has_shape, has_value, conj, disj, neg, test, count, for_all, equals, disjoint, closed, less_than, less_than_eq, unique_lang}
use Rattle.model.specs.Books.{Book, Pool, nodes, links, types, langs, shapes, pool_number, new_triples, new_shapes, collect, names, rules}
use Rattle.model.specs.Sizes.{path_entries, end_entries, form_entries, shape_paths, test_items, list_items, sum_over, forms_in, paths_in, items_in}
use Rattle.tables.specs.Layout.{cell_count, value_count, name_count, fact_count, path_count, form_count, item_count, rule_count}
use Rattle.tables.specs.Entries.{PathEntry, inv, seq, alt, star, plus, Entry}
use Rattle.tables.specs.Entries as E
use Rattle.encoding.specs.Flatten.{last_number, add_path, Entries, with_path, with_end, end_number, kind_code, upper_number, add_test, add_shape, add_shapes, no_entries}
use Rattle.encoding.specs.Encode.{cell_columns, value_columns, entries_of, counts_of, content_of, encode_cells, encode_values, name_columns, encode_names}

-- ---- the tables' lengths
pub cells-length : (b : Book) → length (encode_cells b) ≡ cell_count
unfolding encode_cells
cells-length b = length-flat 0 (cell_columns (content_of b))

pub values_length : (b : Book) → length (encode_values b) ≡ value_count
unfolding encode_values
values_length b = length-flat (pos 0) (value_columns (content_of b))

pub names-length : (b : Book) → length (encode_names b) ≡ name_count
unfolding encode_names
names-length b = length-flat 0 (name_columns b)

-- ---- how many entries are added
-- with an entry of one part, after that part's
one_size : (x : PathEntry) (ds : List PathEntry) (n k : ℕ) → length ds ≡ n + k → length (ds ++ (x ∷ [])) ≡ n + suc k
one_size x ds n k h = omega (arith, length-append ds (x ∷ []))

pub path_size : (e : Path) (es : List PathEntry) → length (add_path e es) ≡ length es + path_entries e
unfolding add_path path_entries
path_size (predicate p) es = length-append es (E.link p ∷ [])
path_size (inverse d) es = one_size (inv _) (add_path d es) (length es) (path_entries d) (path_size d es)
path_size (sequence d e) es = let ds = add_path d es in let fs = add_path e ds in omega (arith, path_size d es, path_size e ds, length-append fs (seq (last_number ds) (last_number fs) ∷ []))
path_size (alternative d e) es = let ds = add_path d es in let fs = add_path e ds in omega (arith, path_size d es, path_size e ds, length-append fs (alt (last_number ds) (last_number fs) ∷ []))
path_size (zero_or_more d) es = one_size (star _) (add_path d es) (length es) (path_entries d) (path_size d es)
path_size (one_or_more d) es = one_size (plus _) (add_path d es) (length es) (path_entries d) (path_size d es)

-- fs has so many form entries, path entries and items more than es
pub record Sized (es fs : Entries) (f p i : ℕ) : Type 0 where
  pub forms : length fs.forms ≡ length es.forms + f
  pub paths : length fs.paths ≡ length es.paths + p
  pub items : length fs.items ≡ length es.items + i

pub end-size : (f : End) (es : Entries) → Sized es (with_end f es) 0 (end_entries f) 0
unfolding with_end end_entries
end-size self es = omega arith
end-size (along e) es = omega (arith, path_size e es.paths)

-- one form entry more
form_more : (es : Entries) (x : Entry) → length (es.forms ++ (x ∷ [])) ≡ length es.forms + 1
form_more es x = length-append es.forms (x ∷ [])

pub test_size : (t : Test) (es : Entries) → Sized es (add_test t es) 1 0 (test_items t)
unfolding add_test test_items
test_size (node_kind k) es = omega (arith, form_more es (Entry.kind (kind_code k)))
test_size (datatype t) es = omega (arith, form_more es (Entry.datatype t))
test_size (language_in ls) es = omega (arith, form_more es (Entry.lang (length es.items) (length ls)), length-append es.items ls)
test_size (min_inclusive x) es = omega (arith, form_more es (Entry.from x))
test_size (min_exclusive x) es = omega (arith, form_more es (Entry.above x))
test_size (max_inclusive x) es = omega (arith, form_more es (Entry.to x))
test_size (max_exclusive x) es = omega (arith, form_more es (Entry.under x))

pub shape_size : (φ : Shape) (es : Entries) → Sized es (add_shape φ es) (form_entries φ) (shape_paths φ) (list_items φ)
unfolding add_shape form_entries shape_paths list_items
shape_size top es = omega (arith, form_more es Entry.top)
shape_size (has_shape s) es = omega (arith, form_more es (Entry.shape s))
shape_size (has_value c) es = omega (arith, form_more es (Entry.is c))
shape_size (conj φ ψ) es =
    let fs = add_shape φ es in
    let gs = add_shape ψ fs in
    omega (arith, form_more gs (Entry.conj (last_number fs.forms) (last_number gs.forms)), shape_size φ es, shape_size ψ fs)
shape_size (disj φ ψ) es =
    let fs = add_shape φ es in
    let gs = add_shape ψ fs in
    omega (arith, form_more gs (Entry.disj (last_number fs.forms) (last_number gs.forms)), shape_size φ es, shape_size ψ fs)
shape_size (neg φ) es =
    let fs = add_shape φ es in
    omega (arith, form_more fs (Entry.neg (last_number fs.forms)), shape_size φ es)
shape_size (test t) es = test_size t es
shape_size (count lo hi e ψ) es =
    let ps = with_path e es in
    let fs = add_shape ψ ps in
    omega (arith, form_more fs (Entry.count (last_number ps.paths) (last_number fs.forms) lo (upper_number hi)), path_size e es.paths, shape_size ψ ps)
shape_size (for_all e ψ) es =
    let ps = with_path e es in
    let fs = add_shape ψ ps in
    omega (arith, form_more fs (Entry.all (last_number ps.paths) (last_number fs.forms)), path_size e es.paths, shape_size ψ ps)
shape_size (equals f p) es =
    let ps = with_end f es in
    omega (arith, form_more ps (Entry.equal (end_number f ps) p), end-size f es)
shape_size (disjoint f p) es =
    let ps = with_end f es in
    omega (arith, form_more ps (Entry.apart (end_number f ps) p), end-size f es)
shape_size (closed qs) es = omega (arith, form_more es (Entry.closed (length es.items) (length qs)), length-append es.items qs)
shape_size (less_than e p) es =
    let ps = with_path e es in
    omega (arith, form_more ps (Entry.less (last_number ps.paths) p), path_size e es.paths)
shape_size (less_than_eq e p) es =
    let ps = with_path e es in
    omega (arith, form_more ps (Entry.lesseq (last_number ps.paths) p), path_size e es.paths)
shape_size (unique_lang e) es =
    let ps = with_path e es in
    omega (arith, form_more ps (Entry.onelang (last_number ps.paths)), path_size e es.paths)

pub shapes_size : (φs : List Shape) (es : Entries) → Sized es (add_shapes φs es) (sum_over form_entries φs) (sum_over shape_paths φs) (sum_over list_items φs)
unfolding add_shapes sum_over
shapes_size [] es = omega arith
shapes_size (φ ∷ φs) es = omega (arith, shape_size φ es, shapes_size φs (add_shape φ es))

-- a path, and a shape, has an entry of its own
pub path_entries_lem : (e : Path) → 0 < path_entries e
unfolding path_entries
path_entries_lem (predicate p) = omega arith
path_entries_lem (inverse e) = omega arith
path_entries_lem (sequence d e) = omega arith
path_entries_lem (alternative d e) = omega arith
path_entries_lem (zero_or_more e) = omega arith
path_entries_lem (one_or_more e) = omega arith

pub form_entries_lem : (φ : Shape) → 0 < form_entries φ
unfolding form_entries
form_entries_lem top = omega arith
form_entries_lem (has_shape s) = omega arith
form_entries_lem (has_value c) = omega arith
form_entries_lem (conj φ ψ) = omega arith
form_entries_lem (disj φ ψ) = omega arith
form_entries_lem (neg φ) = omega arith
form_entries_lem (test t) = omega arith
form_entries_lem (count lo hi e ψ) = omega arith
form_entries_lem (for_all e ψ) = omega arith
form_entries_lem (equals f p) = omega arith
form_entries_lem (disjoint f p) = omega arith
form_entries_lem (closed ps) = omega arith
form_entries_lem (less_than e p) = omega arith
form_entries_lem (less_than_eq e p) = omega arith
form_entries_lem (unique_lang e) = omega arith

-- ---- the counts
pub count_at : (b : Book) (k : ℕ) → k < 10 → get_or (encode_cells b) k 0 ≡ get_or (counts_of b) k 0
unfolding encode_cells content_of
count_at b k l = ap (λ (j : ℕ). get_or (encode_cells b) j 0) (sym (zero-add k)) ∙ at-flat 0 (cell_columns (content_of b)) 0 k l

pub names-counted : (b : Book) (p : Pool) → get_or (encode_cells b) (pool_number p) 0 ≡ length (names p b)
unfolding counts_of
names-counted b nodes = count_at b 0 (omega arith)
names-counted b links = count_at b 1 (omega arith)
names-counted b types = count_at b 2 (omega arith)
names-counted b langs = count_at b 3 (omega arith)
names-counted b shapes = count_at b 4 (omega arith)

pub facts_counted_lem : (b : Book) → fact_count (encode_cells b) ≡ length (collect new_triples b)
unfolding counts_of
facts_counted_lem b = count_at b 5 (omega arith)

pub rules-counted : (b : Book) → rule_count (encode_cells b) ≡ length (rules b)
unfolding counts_of
rules-counted b = count_at b 9 (omega arith)

-- the entries of a book's shapes
pub entries-size : (b : Book) → Sized no_entries (entries_of b) (forms_in b) (paths_in b) (items_in b)
unfolding entries_of forms_in paths_in items_in
entries-size b = shapes_size (collect new_shapes b) no_entries

pub paths-counted : (b : Book) → path_count (encode_cells b) ≡ paths_in b
unfolding counts_of
paths-counted b = count_at b 6 (omega arith)

pub forms-counted : (b : Book) → form_count (encode_cells b) ≡ forms_in b
unfolding counts_of
forms-counted b = count_at b 7 (omega arith)

pub items-counted : (b : Book) → item_count (encode_cells b) ≡ items_in b
unfolding counts_of
items-counted b = count_at b 8 (omega arith)
