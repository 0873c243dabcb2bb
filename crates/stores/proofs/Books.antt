-- What is stored for a valid book is the book's tables, and past their limits what was there.
use Prim.Native.Nat.{ℕ, ◌+◌}
use mathlib.Core.List.{List, [], ◌∷◌, ◌++◌, append-nil, append_assoc}
use mathlib.Core.Bool.{true}
use mathlib.Core.Path.{◌≡◌, refl, sym, ap, ◌∙◌}
use native.Mathlib.Numerals.{add-one}
use native.Mathlib.Omega.{arith}
use lib.ListN.{set, drop, replicate}
use lib.Seq.{sets}
use lib.IntN.{ℤ, pos}
use Rattle.base.specs.Bytes.{bytes}
use Rattle.base.specs.Lists.{allb}
use Rattle.base.specs.Columns.{flat}
use Rattle.base.proofs.Bools.{and_left, and_right}
use Rattle.text.specs.Items.{is_name, name_byte}
use Rattle.text.specs.Pool.{padded, all_names, pool_of}
use Rattle.model.specs.Books.{Name, Line, Book, Pool, nodes, links, types, langs, shapes, built_in, collect, names, rules}
use Rattle.model.specs.Valid.{capacity}
use Rattle.tables.specs.Layout.{name_count, cell_count, value_count}
use Rattle.encoding.specs.Flatten.{add_shapes, roots_of}
use Rattle.encoding.specs.Encode.{cell_columns, value_columns, entries_of, counts_of, content_of, encode_cells, encode_values, encode_names}
use Rattle.grammar.specs.Valid.{valid_line, valid_from, valid}
use Rattle.tables.specs.Sizes.{cleared}
use Rattle.stores.specs.Lines.{put_name, line_names, line_cells, line_values, lines_names, lines_cells, lines_values, put_counts, names_after, cells_after, values_after}
use Rattle.stores.proofs.Columns.{extend, puts, blank}
use Rattle.stores.proofs.Prefixes.{Prefix, prefix_start, prefix_more}
use Rattle.stores.proofs.Entries.{cell_table, value_table}
use Rattle.stores.proofs.Lines.{so_far, line-cells, line-values}
use Rattle.stores.proofs.Names.{pool_columns, put_name_lem, line-names}

-- ---- line after line: where each line stores what brings T of the lines above to T with the line, all lines bring it to T of the book
module _ {A : Type 0} (line : Book → Line → List A → List A) (lines : Book → Book → List A → List A)
    (none : (a : Book) (s : List A) → lines a [] s ≡ s)
    (more : (a b : Book) (l : Line) (s : List A) → lines a (l ∷ b) s ≡ lines (a ++ (l ∷ [])) b (line a l s))
    (T : Book → List A) (step : (a : Book) (l : Line) → Prefix a → valid_line a l ≡ true → line a l (T a) ≡ T (a ++ (l ∷ []))) where
  lines_done : (b a : Book) → Prefix a → valid_from a b ≡ true → lines a b (T a) ≡ T (a ++ b)
  unfolding valid_from
  lines_done [] a P v = none a (T a) ∙ ap T (sym (append-nil a))
  lines_done (l ∷ b) a P v =
      more a b l (T a)
      ∙ ap (lines (a ++ (l ∷ [])) b) (step a l P (and_left _ _ v))
      ∙ lines_done b (a ++ (l ∷ [])) (prefix_more a l P (and_left _ _ v)) (and_right (valid_line a l) _ v)
      ∙ ap T (append_assoc a (l ∷ []) b)

pub lines-names : (b a : Book) (t : List ℕ) → Prefix a → valid_from a b ≡ true → lines_names a b (encode_names a ++ t) ≡ encode_names (a ++ b) ++ t
unfolding lines_names
lines-names b a t = lines_done line_names lines_names (λ a s. refl) (λ a b l s. refl) (λ a. encode_names a ++ t) (λ a l P ok. line-names a P t l ok) b a

pub lines-cells : (b a : Book) (t : List ℕ) → Prefix a → valid_from a b ≡ true → lines_cells a b (cell_table (so_far a) t) ≡ cell_table (so_far (a ++ b)) t
unfolding lines_cells
lines-cells b a t = lines_done line_cells lines_cells (λ a s. refl) (λ a b l s. refl) (λ a. cell_table (so_far a) t) (λ a l P ok. line-cells a l ok t) b a

pub lines-values : (b a : Book) (t : List ℤ) → Prefix a → valid_from a b ≡ true → lines_values a b (value_table (so_far a) t) ≡ value_table (so_far (a ++ b)) t
unfolding lines_values
lines-values b a t = lines_done line_values lines_values (λ a s. refl) (λ a b l s. refl) (λ a. value_table (so_far a) t) (λ a l P ok. line-values a l ok t) b a

-- ---- cleared tables are those of no line, but for the built-in names
pub cells-cleared : (t : List ℕ) → replicate cell_count 0 ++ t ≡ cell_table (so_far []) t
unfolding cell_table collect add_shapes roots_of allb
cells-cleared t = ap (λ (s : List ℕ). s ++ t) (blank 0 (cell_columns (so_far [])) refl)

pub values-cleared : (t : List ℤ) → replicate value_count (pos 0) ++ t ≡ value_table (so_far []) t
unfolding value_table collect add_shapes allb
values-cleared t = ap (λ (s : List ℤ). s ++ t) (blank (pos 0) (value_columns (so_far [])) refl)

abbrev no_name : Pool → List Name
no_name p = []

abbrev one_link : Pool → List Name
one_link nodes = []
one_link links = bytes "a" ∷ []
one_link types = []
one_link langs = []
one_link shapes = []

pub names-cleared : (t : List ℕ) → put_name types 0 (bytes "langstring") (put_name links 0 (bytes "a") (replicate name_count 0 ++ t)) ≡ encode_names [] ++ t
unfolding encode_names names built_in collect pool_of allb all_names is_name name_byte capacity
names-cleared t =
    ap (λ (s : List ℕ). put_name types 0 (bytes "langstring") (put_name links 0 (bytes "a") (s ++ t))) (blank 0 (pool_columns no_name) refl)
    ∙ ap (put_name types 0 (bytes "langstring")) (put_name_lem no_name t links (bytes "a") (refl, refl, omega arith))
    ∙ ap (λ (l : List ℕ). put_name types 0 (bytes "langstring") (flat 0 (extend (pool_columns no_name) 1 l) ++ t)) (sym (append-nil (padded (bytes "a"))))
    ∙ put_name_lem one_link t types (bytes "langstring") (refl, refl, omega arith)
    ∙ ap (λ (l : List ℕ). flat 0 (extend (pool_columns one_link) 2 l) ++ t) (sym (append-nil (padded (bytes "langstring"))))

-- ---- the counts
counts_sets : (ns : List ℕ) (i : ℕ) (cs : List ℕ) → put_counts i ns cs ≡ sets cs i ns
unfolding put_counts
counts_sets [] i cs = refl
counts_sets (n ∷ ns) i cs = counts_sets ns (i + 1) (set cs i n) ∙ ap (λ (j : ℕ). sets (set cs i n) j ns) (add-one i)

pub counts-cells : (b : Book) (t : List ℕ) → put_counts 0 (counts_of b) (cell_table (so_far b) t) ≡ encode_cells b ++ t
unfolding cell_table encode_cells content_of counts_of entries_of rules
counts-cells b t = counts_sets (counts_of b) 0 (cell_table (so_far b) t) ∙ puts 0 t (cell_columns (so_far b)) 0 0 (counts_of b) refl (omega arith)

-- ---- the tables of a valid book
module _ (b : Book) (v : valid b ≡ true) where
  lines-valid : valid_from [] b ≡ true
  unfolding valid
  lines-valid = and_left _ _ v

  pub names-after : (ns : List ℕ) → names_after b ns ≡ encode_names b ++ drop name_count ns
  unfolding names_after cleared
  names-after ns = let t = drop name_count ns in ap (lines_names [] b) (names-cleared t) ∙ lines-names b [] t prefix_start lines-valid

  pub cells-after : (cs : List ℕ) → cells_after b cs ≡ encode_cells b ++ drop cell_count cs
  unfolding cells_after cleared
  cells-after cs = let t = drop cell_count cs in ap (λ (s : List ℕ). put_counts 0 (counts_of b) (lines_cells [] b s)) (cells-cleared t) ∙ ap (put_counts 0 (counts_of b)) (lines-cells b [] t prefix_start lines-valid) ∙ counts-cells b t

  pub values-after : (vs : List ℤ) → values_after b vs ≡ encode_values b ++ drop value_count vs
  unfolding values_after cleared encode_values content_of entries_of value_table
  values-after vs = let t = drop value_count vs in ap (lines_values [] b) (values-cleared t) ∙ lines-values b [] t prefix_start lines-valid
