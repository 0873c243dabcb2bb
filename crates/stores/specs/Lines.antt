-- What the reader stores for a line, and for a book: line after line on cleared tables that hold the built-in names, and the
-- counts at the end.
use Rattle.std.specs.Prelude.{ℕ, ◌+◌, ◌*◌, ◌-◌, List, [], ◌∷◌, ◌++◌, length, set, ℤ, pos}
use Rattle.base.specs.Bytes.{bytes}
use Rattle.text.specs.Pool.{padded, store}
use Rattle.model.specs.Graph.{Term, Triple}
use Rattle.model.specs.Rules.{Rule}
use Rattle.model.specs.Books.{Name, Line, link, type, lang, node, fact, shape, rule, Book, Pool, nodes, links, types, langs, shapes, names, collect, new_triples, rules}
use Rattle.model.specs.Limits.{name_bytes}
use Rattle.tables.specs.Layout.{node_kinds, node_types, node_langs, subjects, predicates, objects, roots, rule_shapes, rule_targets, rule_operands, name_count, cell_count, value_count}
use Rattle.tables.specs.Sizes.{cleared}
use Rattle.encoding.specs.Rows.{node_row, target_code, target_operand}
use Rattle.encoding.specs.Encode.{counts_of, pool_base}
use Rattle.grammar.specs.Syntax.{form}
use Rattle.grammar.specs.Reading.{after, begun_above}
use Rattle.stores.specs.Entries.{shape_cells, shape_values}

-- name number k of a pool
unfoldable pub put_name : Pool → ℕ → Name → List ℕ → List ℕ
put_name p k n ns = store ns (pool_base p + k * name_bytes) (padded n)

unfoldable pub put_node : ℕ → Term → List ℕ → List ℕ
put_node v t cs = set (set (set cs (node_kinds + v) (node_row t).kind) (node_types + v) (node_row t).type) (node_langs + v) (node_row t).lang

unfoldable pub put_fact : ℕ → Triple → List ℕ → List ℕ
put_fact i t cs = set (set (set cs (subjects + i) t.subject) (predicates + i) t.predicate) (objects + i) t.object

unfoldable pub put_rule : ℕ → Rule → List ℕ → List ℕ
put_rule r x cs = set (set (set cs (rule_shapes + r) x.shape) (rule_targets + r) (target_code x.target)) (rule_operands + r) (target_operand x.target)

-- above: the lines above
module _ (above : Book) where
  unfoldable pub line_names : Line → List ℕ → List ℕ
  line_names (link n) ns = put_name links (length (names links above)) n ns
  line_names (type n) ns = put_name types (length (names types above)) n ns
  line_names (lang n) ns = put_name langs (length (names langs above)) n ns
  line_names (node n t) ns = put_name nodes (length (names nodes above)) n ns
  line_names (fact t) ns = ns
  line_names (shape n φ) ns = put_name shapes (length (names shapes above)) n ns
  line_names (rule r) ns = ns

  unfoldable pub line_cells : Line → List ℕ → List ℕ
  line_cells (link n) cs = cs
  line_cells (type n) cs = cs
  line_cells (lang n) cs = cs
  line_cells (node n t) cs = put_node (length (names nodes above)) t cs
  line_cells (fact t) cs = put_fact (length (collect new_triples above)) t cs
  line_cells (shape n φ) cs = set (shape_cells (begun_above above) φ cs) (roots + length (names shapes above)) ((after form φ (begun_above above)).forms - 1)
  line_cells (rule r) cs = put_rule (length (rules above)) r cs

  unfoldable pub line_values : Line → List ℤ → List ℤ
  line_values (link n) vs = vs
  line_values (type n) vs = vs
  line_values (lang n) vs = vs
  line_values (node n t) vs = set vs (length (names nodes above)) (node_row t).value
  line_values (fact t) vs = vs
  line_values (shape n φ) vs = shape_values (begun_above above) φ vs
  line_values (rule r) vs = vs

-- the lines of a book, after those above
unfoldable pub lines_names : Book → Book → List ℕ → List ℕ
lines_names above [] ns = ns
lines_names above (l ∷ b) ns = lines_names (above ++ (l ∷ [])) b (line_names above l ns)

unfoldable pub lines_cells : Book → Book → List ℕ → List ℕ
lines_cells above [] cs = cs
lines_cells above (l ∷ b) cs = lines_cells (above ++ (l ∷ [])) b (line_cells above l cs)

unfoldable pub lines_values : Book → Book → List ℤ → List ℤ
lines_values above [] vs = vs
lines_values above (l ∷ b) vs = lines_values (above ++ (l ∷ [])) b (line_values above l vs)

-- the ten counts, from cell 0 on
unfoldable pub put_counts : ℕ → List ℕ → List ℕ → List ℕ
put_counts i [] cs = cs
put_counts i (n ∷ ns) cs = put_counts (i + 1) ns (set cs i n)

-- the tables that an accepted book leaves in lent slices
unfoldable pub names_after : Book → List ℕ → List ℕ
names_after b ns = lines_names [] b (put_name types 0 (bytes "langstring") (put_name links 0 (bytes "a") (cleared name_count 0 ns)))

unfoldable pub cells_after : Book → List ℕ → List ℕ
cells_after b cs = put_counts 0 (counts_of b) (lines_cells [] b (cleared cell_count 0 cs))

unfoldable pub values_after : Book → List ℤ → List ℤ
values_after b vs = lines_values [] b (cleared value_count (pos 0) vs)
