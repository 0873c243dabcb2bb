-- The names and counts that the reader holds, for the lines that it has read.
use Rattle.std.specs.Prelude.{ℕ, ◌+◌, ◌/◌, ◌≤◌, ◌<◌, ◌≡◌, List, true, leb, length, get_or}
use Rattle.chains.specs.Chains.{Chained}
use Rattle.text.specs.Pool.{find, index_of, name_key}
use Rattle.model.specs.Graph.{iri}
use Rattle.model.specs.Books.{Name, Book, Pool, nodes, links, types, langs, shapes, names, collect, new_terms, new_triples, rules}
use Rattle.model.specs.Sizes.{forms_in, paths_in, items_in}
use Rattle.model.specs.Valid.{capacity, is_resource}
use Rattle.model.specs.Limits.{max_nodes, max_links, max_types, max_langs, max_shapes, name_bytes}
use Rattle.tables.specs.Codes as codes
use Rattle.tables.specs.Layout.{node_kinds}
use Rattle.grammar.specs.Valid.{well_named}
use Rattle.encoding.specs.Encode.{pool_base}
use Rattle.model.specs.declared.Counts.{Counts}

abbrev pub count_of : Counts → Pool → ℕ
count_of n nodes = n.nodes
count_of n links = n.links
count_of n types = n.types
count_of n langs = n.langs
count_of n shapes = n.shapes

-- the counts are within the limits
pub record Limits (n : Counts) : Type 0 where
  pub node_limit : n.nodes ≤ max_nodes
  pub link_limit : n.links ≤ max_links
  pub type_limit : n.types ≤ max_types
  pub lang_limit : n.langs ≤ max_langs
  pub shape_limit : n.shapes ≤ max_shapes

-- the table of names and the counts are those of the lines above
pub record Held (ns : List ℕ) (n : Counts) (above : Book) : Type 0 where
  pub finds : (p : Pool) (w : Name) → well_named p w ≡ true → find ns (pool_base p) (count_of n p) w ≡ index_of (names p above) w
  pub names_counted : (p : Pool) → count_of n p ≡ length (names p above)
  pub facts_counted : n.facts ≡ length (collect new_triples above)
  pub rules_counted : n.rules ≡ length (rules above)
  pub forms_counted : n.forms ≡ forms_in above
  pub paths_counted : n.paths ≡ paths_in above
  pub items_counted : n.items ≡ items_in above

-- the kinds of the nodes among the cells: things and blank nodes come first
abbrev pub Kinds : List ℕ → Book → Type 0
Kinds cs above = (v : ℕ) → v < length (names nodes above) → leb (get_or cs (node_kinds + v) 0) codes.node_blank ≡ is_resource (get_or (collect new_terms above) v iri)

-- how many names there may be in all pools, and how long their index is: where each chain begins and what follows each name
abbrev pub name_places : ℕ
name_places = max_nodes + max_links + max_types + max_langs + max_shapes

abbrev pub name_index_count : ℕ
name_index_count = name_places + name_places

-- the names of each pool in chains by their keys: where the chains begin, at the pool's place among all names, and what
-- follows each name as many places after its own
pub record Indexed (ns : List ℕ) (n : Counts) (index : List ℕ) : Type 0 where
  pub chains : (p : Pool) → Chained (name_key ns (pool_base p) (capacity p)) (count_of n p) (capacity p) (pool_base p / name_bytes) (name_places + pool_base p / name_bytes) index
