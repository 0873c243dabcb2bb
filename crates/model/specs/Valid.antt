-- What document 01 asks of a book besides the spelling of its names: every name used is defined on a line above (so its
-- number is below the count of its pool there), numbers are in their ranges, and no limit is passed.
use Rattle.std.specs.Prelude.{ℕ, ◌+◌, [], ◌∷◌, ◌++◌, Bool, true, false, not, ◌&&◌, eqb, ltb, leb, length, get_or}
use Rattle.base.specs.Lists.{allb}
use Rattle.base.specs.Range.{in_range}
use Rattle.model.specs.Limits.{max_nodes, max_links, max_types, max_langs, max_shapes, max_rules, max_facts, max_forms, max_paths, max_items, max_count}
use Rattle.model.specs.Graph.{Term, iri, blank_node, numeric, plain, tagged, Triple, lang_string}
use Rattle.model.specs.Paths.{Path, predicate, inverse, sequence, alternative, zero_or_more, one_or_more, End, self, along}
use Rattle.model.specs.Shapes.{Test, node_kind, datatype, language_in, min_inclusive, min_exclusive, max_inclusive, max_exclusive, Upper, at_most, unbounded, Shape, top, has_shape, has_value, conj, disj, neg, test, count, for_all, equals, disjoint, closed, less_than, less_than_eq, unique_lang}
use Rattle.model.specs.Rules.{Target, target_node, subjects_of, objects_of, target_class}
use Rattle.model.specs.Books.{Book, Line, link, type, lang, node, fact, shape, rule, Pool, nodes, links, types, langs, shapes, names, collect, new_terms, new_triples, rules}
use Rattle.model.specs.Sizes.{form_entries, shape_paths, list_items, forms_in, paths_in, items_in}

unfoldable pub capacity : Pool → ℕ
capacity nodes = max_nodes
capacity links = max_links
capacity types = max_types
capacity langs = max_langs
capacity shapes = max_shapes

unfoldable pub upper_ok : Upper → Bool
upper_ok (at_most hi) = leb hi max_count
upper_ok unbounded = true

-- a fact's subject is a thing or blank
unfoldable pub is_resource : Term → Bool
is_resource iri = true
is_resource blank_node = true
is_resource (numeric t x) = false
is_resource (plain t) = false
is_resource (tagged l) = false

-- above: the lines above
module _ (above : Book) where
  -- k is the number of a name in the pool; the pool has room for one more
  unfoldable pub defined : Pool → ℕ → Bool
  defined p k = ltb k (length (names p above))

  unfoldable pub has_room : Pool → Bool
  has_room p = ltb (length (names p above)) (capacity p)

  unfoldable pub term_ok : Term → Bool
  term_ok iri = true
  term_ok blank_node = true
  term_ok (numeric t x) = defined types t && (not (eqb t lang_string) && in_range x)
  term_ok (plain t) = defined types t && not (eqb t lang_string)
  term_ok (tagged l) = defined langs l

  unfoldable pub fact_ok : Triple → Bool
  fact_ok t = (defined nodes t.subject && is_resource (get_or (collect new_terms above) t.subject iri)) && (defined links t.predicate && defined nodes t.object)

  unfoldable pub path_ok : Path → Bool
  path_ok (predicate p) = defined links p
  path_ok (inverse e) = path_ok e
  path_ok (sequence d e) = path_ok d && path_ok e
  path_ok (alternative d e) = path_ok d && path_ok e
  path_ok (zero_or_more e) = path_ok e
  path_ok (one_or_more e) = path_ok e

  unfoldable pub end_ok : End → Bool
  end_ok self = true
  end_ok (along e) = path_ok e

  unfoldable pub test_ok : Test → Bool
  test_ok (node_kind k) = true
  test_ok (datatype t) = defined types t
  test_ok (language_in ls) = allb (defined langs) ls
  test_ok (min_inclusive x) = in_range x
  test_ok (min_exclusive x) = in_range x
  test_ok (max_inclusive x) = in_range x
  test_ok (max_exclusive x) = in_range x

  unfoldable pub shape_ok : Shape → Bool
  shape_ok top = true
  shape_ok (has_shape s) = defined shapes s
  shape_ok (has_value c) = defined nodes c
  shape_ok (conj φ ψ) = shape_ok φ && shape_ok ψ
  shape_ok (disj φ ψ) = shape_ok φ && shape_ok ψ
  shape_ok (neg φ) = shape_ok φ
  shape_ok (test t) = test_ok t
  shape_ok (count lo hi e ψ) = (leb lo max_count && upper_ok hi) && (path_ok e && shape_ok ψ)
  shape_ok (for_all e ψ) = path_ok e && shape_ok ψ
  shape_ok (equals f p) = end_ok f && defined links p
  shape_ok (disjoint f p) = end_ok f && defined links p
  shape_ok (closed ps) = allb (defined links) ps
  shape_ok (less_than e p) = path_ok e && defined links p
  shape_ok (less_than_eq e p) = path_ok e && defined links p
  shape_ok (unique_lang e) = path_ok e

  unfoldable pub target_ok : Target → Bool
  target_ok (target_node c) = defined nodes c
  target_ok (subjects_of p) = defined links p
  target_ok (objects_of p) = defined links p
  target_ok (target_class c) = defined nodes c

  -- the entries and items of one shape more are within the limits
  unfoldable pub entries_fit : Shape → Bool
  entries_fit φ = leb (forms_in above + form_entries φ) max_forms && (leb (paths_in above + shape_paths φ) max_paths && leb (items_in above + list_items φ) max_items)

  unfoldable pub line_ok : Line → Bool
  line_ok (link n) = has_room links
  line_ok (type n) = has_room types
  line_ok (lang n) = has_room langs
  line_ok (node n t) = has_room nodes && term_ok t
  line_ok (fact t) = fact_ok t && ltb (length (collect new_triples above)) max_facts
  line_ok (shape n φ) = has_room shapes && (shape_ok φ && entries_fit φ)
  line_ok (rule r) = (defined shapes r.shape && target_ok r.target) && ltb (length (rules above)) max_rules

-- every line is right after those above it
unfoldable pub admissible_from : Book → Book → Bool
admissible_from above [] = true
admissible_from above (l ∷ b) = line_ok above l && admissible_from (above ++ (l ∷ [])) b

unfoldable pub admissible : Book → Bool
admissible b = admissible_from [] b
