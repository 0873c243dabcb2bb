-- How a book is written: document 01's grammar, a line for each of its forms.
use Rattle.std.specs.Prelude.{ℕ, List, [], ◌∷◌, ◌++◌, map, get_or}
use Rattle.base.specs.Bytes.{bytes}
use Rattle.text.specs.Decimals.{decimal, signed}
use Rattle.model.specs.Graph.{Term, iri, blank_node, numeric, plain, tagged}
use Rattle.model.specs.Paths.{Path, predicate, inverse, sequence, alternative, zero_or_more, one_or_more, End, self, along}
use Rattle.model.specs.Shapes.{Kind, an_iri, a_blank, a_literal, Test, node_kind, datatype, language_in, min_inclusive, min_exclusive, max_inclusive, max_exclusive, Upper, at_most, unbounded, Shape, top, has_shape, has_value, conj, disj, neg, test, count, for_all, equals, disjoint, closed, less_than, less_than_eq, unique_lang}
use Rattle.model.specs.Rules.{Target, target_node, subjects_of, objects_of, target_class}
use Rattle.model.specs.Books.{Name, Line, link, type, lang, node, fact, shape, rule, Book, Pool, nodes, links, types, langs, shapes, names}

-- items, a space before each
unfoldable pub spaced : List (List ℕ) → List ℕ
spaced [] = []
spaced (x ∷ xs) = 32 ∷ (x ++ spaced xs)

-- ( word item item .. )
unfoldable pub bracket : List ℕ → List (List ℕ) → List ℕ
bracket w xs = 40 ∷ (w ++ (spaced xs ++ (41 ∷ [])))

unfoldable pub write_kind : Kind → List ℕ
write_kind an_iri = bytes "thing"
write_kind a_blank = bytes "blank"
write_kind a_literal = bytes "literal"

unfoldable pub write_upper : Upper → List ℕ
write_upper (at_most hi) = decimal hi
write_upper unbounded = bytes "*"

-- above: the lines above, which define the names
module _ (above : Book) where
  unfoldable pub name_of : Pool → ℕ → Name
  name_of p k = get_or (names p above) k []

  unfoldable pub write_path : Path → List ℕ
  write_path (predicate p) = name_of links p
  write_path (inverse e) = bracket (bytes "inv") (write_path e ∷ [])
  write_path (sequence d e) = bracket (bytes "seq") (write_path d ∷ write_path e ∷ [])
  write_path (alternative d e) = bracket (bytes "alt") (write_path d ∷ write_path e ∷ [])
  write_path (zero_or_more e) = bracket (bytes "star") (write_path e ∷ [])
  write_path (one_or_more e) = bracket (bytes "plus") (write_path e ∷ [])

  unfoldable pub write_end : End → List ℕ
  write_end self = bytes "id"
  write_end (along e) = write_path e

  unfoldable pub write_test : Test → List ℕ
  write_test (node_kind k) = bracket (bytes "kind") (write_kind k ∷ [])
  write_test (datatype t) = bracket (bytes "datatype") (name_of types t ∷ [])
  write_test (language_in ls) = bracket (bytes "lang") (map (name_of langs) ls)
  write_test (min_inclusive x) = bracket (bytes "from") (signed x ∷ [])
  write_test (min_exclusive x) = bracket (bytes "above") (signed x ∷ [])
  write_test (max_inclusive x) = bracket (bytes "to") (signed x ∷ [])
  write_test (max_exclusive x) = bracket (bytes "below") (signed x ∷ [])

  unfoldable pub write_shape : Shape → List ℕ
  write_shape top = bytes "true"
  write_shape (has_shape s) = bracket (bytes "shape") (name_of shapes s ∷ [])
  write_shape (has_value c) = bracket (bytes "is") (name_of nodes c ∷ [])
  write_shape (conj φ ψ) = bracket (bytes "and") (write_shape φ ∷ write_shape ψ ∷ [])
  write_shape (disj φ ψ) = bracket (bytes "or") (write_shape φ ∷ write_shape ψ ∷ [])
  write_shape (neg φ) = bracket (bytes "not") (write_shape φ ∷ [])
  write_shape (test t) = write_test t
  write_shape (count lo hi e ψ) = bracket (bytes "count") (decimal lo ∷ write_upper hi ∷ write_path e ∷ write_shape ψ ∷ [])
  write_shape (for_all e ψ) = bracket (bytes "all") (write_path e ∷ write_shape ψ ∷ [])
  write_shape (equals f p) = bracket (bytes "equal") (write_end f ∷ name_of links p ∷ [])
  write_shape (disjoint f p) = bracket (bytes "apart") (write_end f ∷ name_of links p ∷ [])
  write_shape (closed ps) = bracket (bytes "closed") (map (name_of links) ps)
  write_shape (less_than e p) = bracket (bytes "less") (write_path e ∷ name_of links p ∷ [])
  write_shape (less_than_eq e p) = bracket (bytes "lesseq") (write_path e ∷ name_of links p ∷ [])
  write_shape (unique_lang e) = bracket (bytes "onelang") (write_path e ∷ [])

  unfoldable pub write_target : Target → List ℕ
  write_target (target_node c) = bracket (bytes "node") (name_of nodes c ∷ [])
  write_target (subjects_of p) = bracket (bytes "subjects") (name_of links p ∷ [])
  write_target (objects_of p) = bracket (bytes "objects") (name_of links p ∷ [])
  write_target (target_class c) = bracket (bytes "class") (name_of nodes c ∷ [])

  unfoldable pub write_node : Name → Term → List ℕ
  write_node n iri = bracket (bytes "thing") (n ∷ [])
  write_node n blank_node = bracket (bytes "blank") (n ∷ [])
  write_node n (numeric t x) = bracket (bytes "number") (n ∷ name_of types t ∷ signed x ∷ [])
  write_node n (plain t) = bracket (bytes "text") (n ∷ name_of types t ∷ [])
  write_node n (tagged l) = bracket (bytes "words") (n ∷ name_of langs l ∷ [])

  unfoldable pub write_line : Line → List ℕ
  write_line (link n) = bracket (bytes "link") (n ∷ [])
  write_line (type n) = bracket (bytes "type") (n ∷ [])
  write_line (lang n) = bracket (bytes "lang") (n ∷ [])
  write_line (node n t) = write_node n t
  write_line (fact t) = bracket (bytes "fact") (name_of nodes t.subject ∷ name_of links t.predicate ∷ name_of nodes t.object ∷ [])
  write_line (shape n φ) = bracket (bytes "shape") (n ∷ write_shape φ ∷ [])
  write_line (rule r) = bracket (bytes "rule") (name_of shapes r.shape ∷ write_target r.target ∷ [])

-- each line ended by LF
unfoldable pub render_from : Book → Book → List ℕ
render_from above [] = []
render_from above (l ∷ b) = write_line above l ++ (10 ∷ render_from (above ++ (l ∷ [])) b)

unfoldable pub render : Book → List ℕ
render b = render_from [] b
