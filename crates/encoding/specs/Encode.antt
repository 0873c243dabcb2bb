-- The three tables of a book: columns of fixed widths, what is not used being zero.
use Rattle.std.specs.Prelude.{ℕ, ◌*◌, List, [], ◌∷◌, map, ℤ, pos}
use Rattle.base.specs.Columns.{Column, flat}
use Rattle.text.specs.Pool.{pool_of}
use Rattle.model.specs.Graph.{Term, Triple}
use Rattle.model.specs.Rules.{Rule}
use Rattle.model.specs.Books.{Book, Pool, nodes, links, types, langs, shapes, names, collect, new_terms, new_triples, new_shapes, rules}
use Rattle.model.specs.Sizes.{counts_in, count_list}
use Rattle.tables.specs.Layout.{link_names, type_names, lang_names, shape_names, node_kinds}
use Rattle.model.specs.Limits.{max_nodes, max_links, max_types, max_langs, max_shapes, max_rules, max_facts, max_forms, max_paths, max_items, name_bytes}
use Rattle.encoding.specs.Rows.{node_row, PathRow, path_row, FormRow, form_row, target_code, target_operand}
use Rattle.encoding.specs.Flatten.{Entries, add_shapes, roots_of, no_entries}

-- what a book's lines add up to
pub record Content : Type 0 where
  pub counts : List ℕ
  pub terms : List Term
  pub triples : List Triple
  pub entries : Entries
  pub roots : List ℕ
  pub rules : List Rule

abbrev pub col : ℕ → List ℕ → Column ℕ
col w xs = record { width = w; items = xs }

abbrev pub form_column : (FormRow → ℕ) → Content → Column ℕ
form_column f c = col max_forms (map (λ x. f (form_row x)) c.entries.forms)

abbrev pub path_column : (PathRow → ℕ) → Content → Column ℕ
path_column f c = col max_paths (map (λ x. f (path_row x)) c.entries.paths)

abbrev pub cell_columns : Content → List (Column ℕ)
cell_columns c =
    col node_kinds c.counts
    ∷ col max_nodes (map (λ t. (node_row t).kind) c.terms)
    ∷ col max_nodes (map (λ t. (node_row t).type) c.terms)
    ∷ col max_nodes (map (λ t. (node_row t).lang) c.terms)
    ∷ col max_facts (map (λ t. t.subject) c.triples)
    ∷ col max_facts (map (λ t. t.predicate) c.triples)
    ∷ col max_facts (map (λ t. t.object) c.triples)
    ∷ path_column (λ r. r.code) c
    ∷ path_column (λ r. r.first) c
    ∷ path_column (λ r. r.second) c
    ∷ form_column (λ r. r.code) c
    ∷ form_column (λ r. r.first) c
    ∷ form_column (λ r. r.second) c
    ∷ form_column (λ r. r.third) c
    ∷ form_column (λ r. r.fourth) c
    ∷ col max_items c.entries.items
    ∷ col max_shapes c.roots
    ∷ col max_rules (map (λ r. r.shape) c.rules)
    ∷ col max_rules (map (λ r. target_code r.target) c.rules)
    ∷ col max_rules (map (λ r. target_operand r.target) c.rules)
    ∷ []

abbrev pub value_columns : Content → List (Column ℤ)
value_columns c =
    record { width = max_nodes; items = map (λ t. (node_row t).value) c.terms }
    ∷ record { width = max_forms; items = map (λ x. (form_row x).value) c.entries.forms }
    ∷ []

-- the entries of a book's shapes
unfoldable pub entries_of : Book → Entries
entries_of b = add_shapes (collect new_shapes b) no_entries

unfoldable pub counts_of : Book → List ℕ
counts_of b = count_list (counts_in b)

unfoldable pub content_of : Book → Content
content_of b =
    record {
      counts = counts_of b;
      terms = collect new_terms b;
      triples = collect new_triples b;
      entries = entries_of b;
      roots = roots_of (collect new_shapes b) no_entries;
      rules = rules b;
    }

unfoldable pub encode_cells : Book → List ℕ
encode_cells b = flat 0 (cell_columns (content_of b))

unfoldable pub encode_values : Book → List ℤ
encode_values b = flat (pos 0) (value_columns (content_of b))

-- a name at its pool number
abbrev pub name_columns : Book → List (Column ℕ)
name_columns b =
    col (max_nodes * name_bytes) (pool_of (names nodes b))
    ∷ col (max_links * name_bytes) (pool_of (names links b))
    ∷ col (max_types * name_bytes) (pool_of (names types b))
    ∷ col (max_langs * name_bytes) (pool_of (names langs b))
    ∷ col (max_shapes * name_bytes) (pool_of (names shapes b))
    ∷ []

unfoldable pub encode_names : Book → List ℕ
encode_names b = flat 0 (name_columns b)

-- where a pool begins among the names
unfoldable pub pool_base : Pool → ℕ
pool_base nodes = 0
pool_base links = link_names
pool_base types = type_names
pool_base langs = lang_names
pool_base shapes = shape_names
