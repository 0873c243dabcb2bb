-- What the reader of a line answers and stores, for what the grammar's reading gives.
use Rattle.std.specs.Prelude.{ℕ, zero, suc, ◌+◌, ◌≤◌, ◌<◌, ◌≡◌, List, Bool, cond, ◌||◌, eqb, length, get_or, drop, set, ℤ, Result, Ok, Err}
use Rattle.model.specs.Graph.{Term, iri, blank_node}
use Rattle.model.specs.Books.{Name, Line, link, type, lang, node, shape, Book, Pool, nodes, links, types, langs, shapes, new_names, new_triples, new_shapes, new_rules}
use Rattle.model.specs.Shapes.{top}
use Rattle.model.specs.Rules.{Target}
use Rattle.model.specs.Sizes.{form_entries, shape_paths, list_items, sum_over}
use Rattle.model.specs.Limits.{max_rules, max_facts, max_forms, max_paths, max_items}
use Rattle.tables.specs.Layout.{name_count, cell_count, value_count}
use Rattle.tables.specs.Codes as codes
use Rattle.encoding.specs.Rows.{node_row, target_code, target_operand}
use Rattle.grammar.specs.Syntax.{LineCode, link_l, type_l, lang_l, thing_l, blank_l, shape_l, line_family}
use Rattle.grammar.specs.Reading.{max_within, Read, got, refused, and_then, close_at, body_at, readers_at, line_room, begun_above}
use Rattle.stores.specs.Lines.{line_names, line_cells, line_values}
use Rattle.model.specs.declared.Counts.{Counts}
use Rattle.model.specs.Refusals.{fault_of}
use Rattle.model.specs.declared.Fault.{Fault}
use Rattle.linereader.specs.declared.Node.{Node}

-- ---- the counts
-- one name more in a pool
abbrev pub named : Pool → Counts → Counts
named nodes c = record { nodes = c.nodes + 1; links = c.links; types = c.types; langs = c.langs; shapes = c.shapes; facts = c.facts; paths = c.paths; forms = c.forms; items = c.items; rules = c.rules }
named links c = record { nodes = c.nodes; links = c.links + 1; types = c.types; langs = c.langs; shapes = c.shapes; facts = c.facts; paths = c.paths; forms = c.forms; items = c.items; rules = c.rules }
named types c = record { nodes = c.nodes; links = c.links; types = c.types + 1; langs = c.langs; shapes = c.shapes; facts = c.facts; paths = c.paths; forms = c.forms; items = c.items; rules = c.rules }
named langs c = record { nodes = c.nodes; links = c.links; types = c.types; langs = c.langs + 1; shapes = c.shapes; facts = c.facts; paths = c.paths; forms = c.forms; items = c.items; rules = c.rules }
named shapes c = record { nodes = c.nodes; links = c.links; types = c.types; langs = c.langs; shapes = c.shapes + 1; facts = c.facts; paths = c.paths; forms = c.forms; items = c.items; rules = c.rules }

-- with a line: what it adds to each pool, its fact, the entries and items of its shape, its rule
abbrev pub counted : Line → Counts → Counts
counted l c =
    record {
      nodes = c.nodes + length (new_names nodes l);
      links = c.links + length (new_names links l);
      types = c.types + length (new_names types l);
      langs = c.langs + length (new_names langs l);
      shapes = c.shapes + length (new_names shapes l);
      facts = c.facts + length (new_triples l);
      paths = c.paths + sum_over shape_paths (new_shapes l);
      forms = c.forms + sum_over form_entries (new_shapes l);
      items = c.items + sum_over list_items (new_shapes l);
      rules = c.rules + length (new_rules l);
    }

-- facts, rules and entries within their limits
pub record CountsFit (c : Counts) : Type 0 where
  pub fact_limit : c.facts ≤ max_facts
  pub rule_limit : c.rules ≤ max_rules
  pub form_limit : c.forms ≤ max_forms
  pub path_limit : c.paths ≤ max_paths
  pub item_limit : c.items ≤ max_items

-- ---- a line from the end of its word on
-- the LF after a line
abbrev pub end_line : List ℕ → Line → ℕ → Read Line
end_line s l next = cond (eqb (get_or s next 0) 10) (got l (next + 1)) (refused 2)

-- the closing bracket of a line and its LF
unfoldable pub line_end : List ℕ → Book → Bool → Line → ℕ → Read Line
line_end s a room l at = and_then (close_at s a room l at) (end_line s)

-- what follows the word of a line: its arguments, its closing bracket and its LF
unfoldable pub line_body : List ℕ → Book → LineCode → ℕ → Read Line
line_body s a c at = and_then (body_at s a line_family (readers_at s a max_within) (line_room s a) c (begun_above a) at) (end_line s)

-- ---- answers
abbrev pub ended_with : Counts → Read Line → Result (Counts × ℕ) Fault
ended_with c (got l next) = Ok (c, next)
ended_with c (refused k) = Err (fault_of k)

-- r: the answer for a line after the book a; then each table before and after. What is stored is the line's; a refusal
-- leaves the tables free up to their limits.
abbrev pub Done : Book → Counts → Read Line → Result (Counts × ℕ) Fault → (ns ns' cs cs' : List ℕ) (vs vs' : List ℤ) → Type 0
Done a c (got l next) r ns ns' cs cs' vs vs' = (r ≡ Ok (counted l c, next)) × (ns' ≡ line_names a l ns) × (cs' ≡ line_cells a l cs) × (vs' ≡ line_values a l vs)
Done a c (refused k) r ns ns' cs cs' vs vs' = (r ≡ Err (fault_of k)) × (drop name_count ns' ≡ drop name_count ns) × (drop cell_count cs' ≡ drop cell_count cs) × (drop value_count vs' ≡ drop value_count vs)

-- ---- the lines that hold a name and nothing else, by their pool
abbrev pub name_line_code : Pool → LineCode
name_line_code nodes = thing_l
name_line_code links = link_l
name_line_code types = type_l
name_line_code langs = lang_l
name_line_code shapes = shape_l

-- only links, types and langs have such lines
abbrev pub HasNameLine : Pool → Type 0
HasNameLine nodes = ⊥
HasNameLine links = Unit {0}
HasNameLine types = Unit {0}
HasNameLine langs = Unit {0}
HasNameLine shapes = ⊥

abbrev pub name_line : Pool → Name → Line
name_line nodes w = node w iri
name_line links w = link w
name_line types w = type w
name_line langs w = lang w
name_line shapes w = shape w top

-- ---- nodes
-- thing and blank, by their kind
abbrev pub resource_term : ℕ → Term
resource_term zero = iri
resource_term (suc k) = blank_node

abbrev pub resource_code : ℕ → LineCode
resource_code zero = thing_l
resource_code (suc k) = blank_l

-- a node of the code and a value are what the tables say of a term
abbrev pub Row : Node → ℤ → Term → Type 0
Row x v t = (x.kind ≡ (node_row t).kind) × (x.datatype ≡ (node_row t).type) × (x.lang ≡ (node_row t).lang) × (v ≡ (node_row t).value)

-- ---- targets
-- the pool of the name in target number k
abbrev pub operand_pool : ℕ → Pool
operand_pool k = cond (eqb k codes.target_subjects || eqb k codes.target_objects) links nodes

abbrev pub target_answer : Read Target → Result ((ℕ × ℕ) × ℕ) Fault
target_answer (got t next) = Ok ((target_code t, target_operand t), next)
target_answer (refused k) = Err (fault_of k)

-- a code below 4, an operand below a bound, a position in a text of a length
abbrev pub Targeted : ℕ → ℕ → Result ((ℕ × ℕ) × ℕ) Fault → Type 0
Targeted bound len (Ok ((code, k), next)) = (code < 4) × (k < bound) × (next ≤ len)
Targeted bound len (Err e) = Unit {0}

-- three cells of a row
unfoldable pub put₃ : (i j k x y z : ℕ) → List ℕ → List ℕ
put₃ i j k x y z cs = set (set (set cs i x) j y) k z
