-- Names and kinds of nodes, looked up in the tables of the lines above.
use Prim.Native.Nat.{ℕ, ◌+◌, ◌*◌, ◌≤◌, ◌<◌}
use mathlib.Core.List.{List, ◌++◌}
use mathlib.Core.Bool.{true}
use mathlib.Core.Path.{◌≡◌, refl, ap, ◌∙◌}
use native.Mathlib.Omega.{arith}
use lib.Dec.{ltb}
use lib.ListN.{length, get_or, length-append, get_or-append}
use Rattle.base.specs.Columns.{Column, flat, offset, column}
use Rattle.base.proofs.Columns.{at-flat, length-flat}
use Rattle.text.specs.Items.{is_name}
use Rattle.text.specs.Pool.{pool_of, index_of, find}
use Rattle.text.specs.Spans.{Span}
use Rattle.text.proofs.Places.{pool_length, find_pool}
use Rattle.model.specs.Graph.{Term, iri, blank_node, numeric, plain, tagged}
use Rattle.model.specs.Books.{Book, Pool, nodes, links, types, langs, shapes, collect, new_terms, names}
use Rattle.model.specs.Valid.{capacity, is_resource}
use Rattle.model.proofs.Lines.{names-within, terms-counted}
use Rattle.model.specs.Limits.{max_nodes, name_bytes}
use Rattle.tables.specs.Layout.{kind_at, node_kinds}
use Rattle.encoding.specs.Rows.{node_row}
use Rattle.encoding.specs.Encode.{cell_columns, name_columns, encode_names, pool_base}
use Rattle.encoding.proofs.Places.{slice_is, at-column}
use Rattle.stores.proofs.Columns.{column-inside}
use Rattle.stores.proofs.Prefixes.{Prefix}
use Rattle.stores.proofs.Entries.{cell_table}
use Rattle.stores.proofs.Lines.{so_far}

-- the items of a column, where a tail follows the columns
column_span : (cs : List (Column ℕ)) (t : List ℕ) (k : ℕ) → length (column cs k).items ≤ (column cs k).width → Span (flat 0 cs ++ t) (offset cs k) (offset cs k + length (column cs k).items) (column cs k).items
column_span cs t k h =
    let xs = (column cs k).items in
    let f = offset cs k in
    let i : f + (column cs k).width ≤ length (flat 0 cs) = omega (arith, column-inside cs k, length-flat 0 cs) in
    let n : f + length xs ≤ length (flat 0 cs ++ t) = omega (arith, length-append (flat 0 cs) t) in
    record {
      from = omega arith;
      within = n;
      text = slice_is 0 (flat 0 cs ++ t) xs f n (λ j l. get_or-append (flat 0 cs) t 0 (f + j) (omega arith) ∙ at-flat 0 cs k j (omega arith));
    }

module _ (a : Book) (P : Prefix a) (t : List ℕ) where
  pool_room : (p : Pool) → length (pool_of (names p a)) ≤ capacity p * name_bytes
  pool_room p = omega (arith, pool_length (names p a) (P.names-made p), names-within p a P.admissible-above)

  -- where a pool ends
  pub pool_held : (p : Pool) → Span (encode_names a ++ t) (pool_base p) (pool_base p + length (pool_of (names p a))) (pool_of (names p a))
  unfolding encode_names pool_base capacity
  pool_held nodes = column_span (name_columns a) t 0 (pool_room nodes)
  pool_held links = column_span (name_columns a) t 1 (pool_room links)
  pool_held types = column_span (name_columns a) t 2 (pool_room types)
  pool_held langs = column_span (name_columns a) t 3 (pool_room langs)
  pool_held shapes = column_span (name_columns a) t 4 (pool_room shapes)

  -- a search there is the search among the names
  pub find_name : (p : Pool) (w : List ℕ) → is_name w ≡ true → find (encode_names a ++ t) (pool_base p) (length (names p a)) w ≡ index_of (names p a) w
  find_name p w e = find_pool (names p a) w (P.names-made p) e (pool_held p)

  -- the kind of a node, and whether it is a thing or blank
  pub kind-held : (v : ℕ) → v < length (names nodes a) → kind_at (cell_table (so_far a) t) v ≡ (node_row (get_or (collect new_terms a) v iri)).kind
  unfolding cell_table capacity
  kind-held v l =
      let cs = cell_columns (so_far a) in
      let n : length (collect new_terms a) ≤ max_nodes = omega (arith, terms-counted a, names-within nodes a P.admissible-above) in
      let h : v < length (collect new_terms a) = omega (arith, terms-counted a) in
      get_or-append (flat 0 cs) t 0 (node_kinds + v) (omega (arith, length-flat 0 cs))
      ∙ at-column 0 cs 1 (λ x. (node_row x).kind) (collect new_terms a) refl n v iri h

resource_kind : (x : Term) → ltb (node_row x).kind 2 ≡ is_resource x
unfolding node_row is_resource
resource_kind iri = refl
resource_kind blank_node = refl
resource_kind (numeric t x) = refl
resource_kind (plain t) = refl
resource_kind (tagged l) = refl

pub resource_held : (a : Book) → Prefix a → (t : List ℕ) (v : ℕ) → v < length (names nodes a) → ltb (kind_at (cell_table (so_far a) t) v) 2 ≡ is_resource (get_or (collect new_terms a) v iri)
resource_held a P t v l = ap (λ (k : ℕ). ltb k 2) (kind-held a P t v l) ∙ resource_kind (get_or (collect new_terms a) v iri)
