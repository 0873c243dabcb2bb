-- How many entries a book's shapes take in the tables: one for each FORM (bare `true` included), one for each PATH (a bare
-- link included), one for each item of a `closed` or `lang` list.
use Rattle.std.specs.Prelude.{ℕ, suc, ◌+◌, List, [], ◌∷◌, length}
use Rattle.model.specs.Paths.{Path, predicate, inverse, sequence, alternative, zero_or_more, one_or_more, End, self, along}
use Rattle.model.specs.Shapes.{Test, node_kind, datatype, language_in, min_inclusive, min_exclusive, max_inclusive, max_exclusive, Shape, top, has_shape, has_value, conj, disj, neg, test, count, for_all, equals, disjoint, closed, less_than, less_than_eq, unique_lang}
use Rattle.model.specs.Books.{Book, nodes, links, types, langs, shapes, names, collect, new_triples, new_shapes, rules}
use Rattle.model.specs.declared.Counts.{Counts}

unfoldable pub path_entries : Path → ℕ
path_entries (predicate p) = 1
path_entries (inverse e) = suc (path_entries e)
path_entries (sequence d e) = suc (path_entries d + path_entries e)
path_entries (alternative d e) = suc (path_entries d + path_entries e)
path_entries (zero_or_more e) = suc (path_entries e)
path_entries (one_or_more e) = suc (path_entries e)

unfoldable pub end_entries : End → ℕ
end_entries self = 0
end_entries (along e) = path_entries e

unfoldable pub form_entries : Shape → ℕ
form_entries top = 1
form_entries (has_shape s) = 1
form_entries (has_value c) = 1
form_entries (conj φ ψ) = suc (form_entries φ + form_entries ψ)
form_entries (disj φ ψ) = suc (form_entries φ + form_entries ψ)
form_entries (neg φ) = suc (form_entries φ)
form_entries (test t) = 1
form_entries (count lo hi e ψ) = suc (form_entries ψ)
form_entries (for_all e ψ) = suc (form_entries ψ)
form_entries (equals f p) = 1
form_entries (disjoint f p) = 1
form_entries (closed ps) = 1
form_entries (less_than e p) = 1
form_entries (less_than_eq e p) = 1
form_entries (unique_lang e) = 1

unfoldable pub shape_paths : Shape → ℕ
shape_paths top = 0
shape_paths (has_shape s) = 0
shape_paths (has_value c) = 0
shape_paths (conj φ ψ) = shape_paths φ + shape_paths ψ
shape_paths (disj φ ψ) = shape_paths φ + shape_paths ψ
shape_paths (neg φ) = shape_paths φ
shape_paths (test t) = 0
shape_paths (count lo hi e ψ) = path_entries e + shape_paths ψ
shape_paths (for_all e ψ) = path_entries e + shape_paths ψ
shape_paths (equals f p) = end_entries f
shape_paths (disjoint f p) = end_entries f
shape_paths (closed ps) = 0
shape_paths (less_than e p) = path_entries e
shape_paths (less_than_eq e p) = path_entries e
shape_paths (unique_lang e) = path_entries e

unfoldable pub test_items : Test → ℕ
test_items (node_kind k) = 0
test_items (datatype t) = 0
test_items (language_in ls) = length ls
test_items (min_inclusive x) = 0
test_items (min_exclusive x) = 0
test_items (max_inclusive x) = 0
test_items (max_exclusive x) = 0

unfoldable pub list_items : Shape → ℕ
list_items top = 0
list_items (has_shape s) = 0
list_items (has_value c) = 0
list_items (conj φ ψ) = list_items φ + list_items ψ
list_items (disj φ ψ) = list_items φ + list_items ψ
list_items (neg φ) = list_items φ
list_items (test t) = test_items t
list_items (count lo hi e ψ) = list_items ψ
list_items (for_all e ψ) = list_items ψ
list_items (equals f p) = 0
list_items (disjoint f p) = 0
list_items (closed ps) = length ps
list_items (less_than e p) = 0
list_items (less_than_eq e p) = 0
list_items (unique_lang e) = 0

unfoldable pub sum_over : (Shape → ℕ) → List Shape → ℕ
sum_over f [] = 0
sum_over f (φ ∷ φs) = f φ + sum_over f φs

-- the entries and items of all shapes of a book
unfoldable pub forms_in : Book → ℕ
forms_in b = sum_over form_entries (collect new_shapes b)

unfoldable pub paths_in : Book → ℕ
paths_in b = sum_over shape_paths (collect new_shapes b)

unfoldable pub items_in : Book → ℕ
items_in b = sum_over list_items (collect new_shapes b)

-- the ten counts of a book, and these in the order of their cells
abbrev pub counts_in : Book → Counts
counts_in b =
    record {
      nodes = length (names nodes b);
      links = length (names links b);
      types = length (names types b);
      langs = length (names langs b);
      shapes = length (names shapes b);
      facts = length (collect new_triples b);
      paths = paths_in b;
      forms = forms_in b;
      items = items_in b;
      rules = length (rules b);
    }

abbrev pub count_list : Counts → List ℕ
count_list n = n.nodes ∷ n.links ∷ n.types ∷ n.langs ∷ n.shapes ∷ n.facts ∷ n.paths ∷ n.forms ∷ n.items ∷ n.rules ∷ []
