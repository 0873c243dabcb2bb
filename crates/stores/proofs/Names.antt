-- What is stored for the name of a line is the name after the others of its pool.
use Prim.Native.Nat.{ℕ, ◌+◌, ◌*◌, ◌≤◌, ◌<◌}
use mathlib.Core.List.{List, [], ◌∷◌, ◌++◌, append-nil}
use mathlib.Core.Bool.{true}
use mathlib.Core.Path.{◌≡◌, sym, ap, ◌∙◌}
use native.Mathlib.Omega.{arith}
use lib.ListN.{length}
use borrow.Author.Tests.{ltb-true}
use Rattle.base.specs.Columns.{Column, flat}
use Rattle.base.proofs.Bools.{and_left}
use Rattle.text.specs.Items.{is_name}
use Rattle.text.specs.Pool.{padded, all_names, pool_of}
use Rattle.text.proofs.Items.{name_short}
use Rattle.text.proofs.Pool.{padded-length}
use Rattle.text.proofs.Places.{pool_append, pool_length}
use Rattle.model.specs.Books.{Name, Line, link, type, lang, node, fact, shape, rule, Book, Pool, nodes, links, types, langs, shapes, pool_number, joins, new_names, names}
use Rattle.model.specs.Valid.{capacity, has_room, line_ok}
use Rattle.model.proofs.Lines.{names_snoc}
use Rattle.model.specs.Limits.{max_nodes, max_links, max_types, max_langs, max_shapes, name_bytes}
use Rattle.encoding.specs.Encode.{col, name_columns, encode_names, pool_base}
use Rattle.grammar.specs.Valid.{new_name, names_ok, valid_line}
use Rattle.stores.specs.Lines.{put_name, line_names}
use Rattle.stores.proofs.Columns.{extend, store-next}
use Rattle.stores.proofs.Prefixes.{Prefix, line-right, line-named, new_made}

-- the pools in their columns
abbrev pub pool_columns : (Pool → List Name) → List (Column ℕ)
pool_columns f =
    col (max_nodes * name_bytes) (pool_of (f nodes))
    ∷ col (max_links * name_bytes) (pool_of (f links))
    ∷ col (max_types * name_bytes) (pool_of (f types))
    ∷ col (max_langs * name_bytes) (pool_of (f langs))
    ∷ col (max_shapes * name_bytes) (pool_of (f shapes))
    ∷ []

-- a name that has room
module _ (f : Pool → List Name) (t : List ℕ) where
  abbrev pub Room : Pool → Name → Type 0
  Room p n = (all_names (f p) ≡ true) × (is_name n ≡ true) × (length (f p) < capacity p)

  at_next : (p : Pool) (n : Name) → Room p n → length (f p) * name_bytes ≡ length (pool_of (f p))
  at_next p n r = sym (pool_length (f p) r.0)

  in_width : (p : Pool) (n : Name) → Room p n → length (f p) * name_bytes + length (padded n) ≤ capacity p * name_bytes
  in_width p n r = let h = r.2 in omega (arith, padded-length n (let s = name_short n r.1 in omega arith))

  pub put_name_lem : (p : Pool) (n : Name) → Room p n → put_name p (length (f p)) n (flat 0 (pool_columns f) ++ t) ≡ flat 0 (extend (pool_columns f) (pool_number p) (padded n)) ++ t
  unfolding put_name pool_base capacity
  put_name_lem nodes n r = store-next (pool_columns f) t 0 (length (f nodes) * name_bytes) (padded n) (at_next nodes n r) (in_width nodes n r)
  put_name_lem links n r = store-next (pool_columns f) t 1 (length (f links) * name_bytes) (padded n) (at_next links n r) (in_width links n r)
  put_name_lem types n r = store-next (pool_columns f) t 2 (length (f types) * name_bytes) (padded n) (at_next types n r) (in_width types n r)
  put_name_lem langs n r = store-next (pool_columns f) t 3 (length (f langs) * name_bytes) (padded n) (at_next langs n r) (in_width langs n r)
  put_name_lem shapes n r = store-next (pool_columns f) t 4 (length (f shapes) * name_bytes) (padded n) (at_next shapes n r) (in_width shapes n r)

pool_snoc : (ws : List Name) (n : Name) → pool_of (ws ++ (n ∷ [])) ≡ pool_of ws ++ padded n
unfolding pool_of
pool_snoc ws n = pool_append ws (n ∷ []) ∙ ap (λ (l : List ℕ). pool_of ws ++ l) (append-nil (padded n))

-- ---- a line
module _ (a : Book) (P : Prefix a) (t : List ℕ) where
  -- the names of the line's pools with its own
  names_added : (l : Line) → name_columns (a ++ (l ∷ [])) ≡ pool_columns (λ p. names p a ++ new_names p l)
  names_added l = rw (names_snoc nodes a l, names_snoc links a l, names_snoc types a l, names_snoc langs a l, names_snoc shapes a l)

  room : (p : Pool) (n : Name) → has_room a p ≡ true → new_name a p n ≡ true → Room (λ p. names p a) t p n
  unfolding has_room
  room p n h e = (P.names-made p, new_made a p n e, ltb-true (length (names p a)) (capacity p) h)

  named-line : (l : Line) → line_ok a l ≡ true → names_ok a l ≡ true → line_names a l (flat 0 (name_columns a) ++ t) ≡ flat 0 (pool_columns (λ p. names p a ++ new_names p l)) ++ t
  unfolding line_names line_ok names_ok new_names joins
  named-line (link n) h e = put_name_lem (λ p. names p a) t links n (room links n h e) ∙ simp (append-nil, pool_snoc)
  named-line (type n) h e = put_name_lem (λ p. names p a) t types n (room types n h e) ∙ simp (append-nil, pool_snoc)
  named-line (lang n) h e = put_name_lem (λ p. names p a) t langs n (room langs n h e) ∙ simp (append-nil, pool_snoc)
  named-line (node n x) h e = put_name_lem (λ p. names p a) t nodes n (room nodes n (and_left _ _ h) e) ∙ simp (append-nil, pool_snoc)
  named-line (fact x) h e = simp append-nil
  named-line (shape n φ) h e = put_name_lem (λ p. names p a) t shapes n (room shapes n (and_left _ _ h) e) ∙ simp (append-nil, pool_snoc)
  named-line (rule x) h e = simp append-nil

  pub line-names : (l : Line) → valid_line a l ≡ true → line_names a l (encode_names a ++ t) ≡ encode_names (a ++ (l ∷ [])) ++ t
  unfolding encode_names
  line-names l ok = named-line l (line-right a l ok) (line-named a l ok) ∙ ap (λ (cs : List (Column ℕ)). flat 0 cs ++ t) (sym (names_added l))
