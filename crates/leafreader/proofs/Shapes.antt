-- The entry of each form without a form within.
use Prim.Native.Nat.{ℕ, ◌+◌, ◌-◌}
use mathlib.Core.Path.{◌≡◌, refl, sym, ap, subst}
use mathlib.Core.List.{List}
use mathlib.Core.Bool.{true}
use native.Mathlib.Omega.{arith}
use lib.IntN.{ℤ}
use lib.ListN.{length}
use Rattle.model.specs.Paths.{Path}
use Rattle.model.specs.Shapes.{Kind, node_kind, datatype, language_in, min_inclusive, min_exclusive, max_inclusive, max_exclusive, Shape, top, has_shape, has_value, test, equals, disjoint, closed, less_than, less_than_eq, unique_lang}
use Rattle.model.specs.Sizes.{path_entries, end_entries, form_entries, shape_paths, test_items, list_items}
use Rattle.grammar.specs.Syntax.{form}
use Rattle.grammar.specs.Reading.{Read, got, after}
use Rattle.encoding.specs.Flatten.{kind_code}
use Rattle.tables.specs.Codes as codes
use Rattle.stores.specs.Entries.{put_form, path_cells, test_cells, shape_cells, test_values, shape_values}
use Rattle.leafreader.specs.declared.Ended.{Ended}
use Rattle.std.specs.Prelude.{Ok}
use Rattle.leafreader.specs.Forms.{begun_of, ended_of, form_ended, FormRead, Closes, put_item, UsedShape, ListShape, ValueShape, EndShape, PathShape}
use Rattle.leafreader.proofs.Forms.{ended_eq}

-- what holds of the code of an entry, by the number of its word
pub coded : (P : ℕ → Type 0) {k word : ℕ} → k ≡ word → P (word + 1) → P (k + 1)
coded P e x = subst (λ (w : ℕ). P (w + 1)) (sym e) x

-- what has ended after a form of one entry, by its paths and items
one_ended : (φ : Shape) (n l : Ended) → form_entries φ ≡ 1 → n.forms ≡ l.forms → n.paths + shape_paths φ ≡ l.paths → n.items + list_items φ ≡ l.items → ended_of (after form φ (begun_of n)) ≡ form_ended l
unfolding after
one_ended φ n l f e p i = ended_eq (ended_of (record { forms = n.forms + form_entries φ; paths = n.paths + shape_paths φ; items = n.items + list_items φ })) (form_ended l) (omega arith) p i

module _ (n : Ended) (cs : List ℕ) (vs : List ℤ) where
  -- ---- one item
  pub kind_closes : (k : Kind) → Closes (test (node_kind k)) (begun_of n) cs vs vs n (put_item true n.forms codes.form_kind 0 cs (kind_code k))
  unfolding form_entries shape_paths list_items test_items shape_cells test_cells shape_values test_values
  kind_closes k = record { ended = one_ended (test (node_kind k)) n n refl refl (omega arith) (omega arith); cells = refl; values = refl }

  pub true_read : {x : Read Shape} {cs' : List ℕ} (next : ℕ) → x ≡ got top next → cs' ≡ put_form n.forms codes.form_true 0 0 0 0 cs → FormRead x (begun_of n) cs cs' vs vs (Ok (form_ended n, next))
  unfolding form_entries shape_paths list_items shape_cells shape_values
  true_read next e w = rw e (record { answer = ap (λ (m : Ended). Ok (m, next)) (sym (one_ended top n n refl refl (omega arith) (omega arith))); stored = (w, refl) })

  -- ---- a path
  pub onelang_closes : (m : ℕ) (e : Path) (mid : List ℕ) → n.paths + path_entries e ≡ m → mid ≡ path_cells n.paths e cs → Closes (unique_lang e) (begun_of n) cs vs vs (record { forms = n.forms; paths = m; items = n.items }) (put_form n.forms codes.form_onelang (m - 1) 0 0 0 mid)
  unfolding form_entries shape_paths list_items shape_cells shape_values after
  onelang_closes m e mid c w = record { ended = one_ended (unique_lang e) n (record { forms = n.forms; paths = m; items = n.items }) refl refl c (omega arith); cells = rw (c, w); values = refl }

-- ---- names
pub is_used : UsedShape has_value codes.form_is
unfolding form_entries shape_paths list_items shape_cells shape_values
is_used n k cs vs = record { ended = one_ended (has_value k) n n refl refl (omega arith) (omega arith); cells = refl; values = refl }

pub shape_used : UsedShape has_shape codes.form_shape
unfolding form_entries shape_paths list_items shape_cells shape_values
shape_used n k cs vs = record { ended = one_ended (has_shape k) n n refl refl (omega arith) (omega arith); cells = refl; values = refl }

pub datatype_used : UsedShape (λ k. test (datatype k)) codes.form_datatype
unfolding form_entries shape_paths list_items test_items shape_cells test_cells shape_values test_values
datatype_used n k cs vs = record { ended = one_ended (test (datatype k)) n n refl refl (omega arith) (omega arith); cells = refl; values = refl }

-- ---- lists
pub lang-shape : ListShape (λ ks. test (language_in ks)) codes.form_lang
unfolding form_entries shape_paths list_items test_items shape_cells test_cells shape_values test_values
lang-shape n ks cs vs = record { ended = one_ended (test (language_in ks)) n (record { forms = n.forms; paths = n.paths; items = n.items + length ks }) refl refl (omega arith) refl; cells = refl; values = refl }

pub closed-shape : ListShape closed codes.form_closed
unfolding form_entries shape_paths list_items shape_cells shape_values
closed-shape n ks cs vs = record { ended = one_ended (closed ks) n (record { forms = n.forms; paths = n.paths; items = n.items + length ks }) refl refl (omega arith) refl; cells = refl; values = refl }

-- ---- numbers
pub from-shape : ValueShape (λ x. test (min_inclusive x)) codes.form_from
unfolding form_entries shape_paths list_items test_items shape_cells test_cells shape_values test_values
from-shape n x cs vs = record { ended = one_ended (test (min_inclusive x)) n n refl refl (omega arith) (omega arith); cells = refl; values = refl }

pub above-shape : ValueShape (λ x. test (min_exclusive x)) codes.form_above
unfolding form_entries shape_paths list_items test_items shape_cells test_cells shape_values test_values
above-shape n x cs vs = record { ended = one_ended (test (min_exclusive x)) n n refl refl (omega arith) (omega arith); cells = refl; values = refl }

pub to-shape : ValueShape (λ x. test (max_inclusive x)) codes.form_to
unfolding form_entries shape_paths list_items test_items shape_cells test_cells shape_values test_values
to-shape n x cs vs = record { ended = one_ended (test (max_inclusive x)) n n refl refl (omega arith) (omega arith); cells = refl; values = refl }

pub below-shape : ValueShape (λ x. test (max_exclusive x)) codes.form_below
unfolding form_entries shape_paths list_items test_items shape_cells test_cells shape_values test_values
below-shape n x cs vs = record { ended = one_ended (test (max_exclusive x)) n n refl refl (omega arith) (omega arith); cells = refl; values = refl }

-- ---- an END or a PATH, and a link
pub equal_shape : EndShape equals codes.form_equal
unfolding form_entries shape_paths list_items shape_cells shape_values after
equal_shape n e p cs vs = record { ended = one_ended (equals e p) n (record { forms = n.forms; paths = n.paths + end_entries e; items = n.items }) refl refl refl (omega arith); cells = refl; values = refl }

pub apart-shape : EndShape disjoint codes.form_apart
unfolding form_entries shape_paths list_items shape_cells shape_values after
apart-shape n e p cs vs = record { ended = one_ended (disjoint e p) n (record { forms = n.forms; paths = n.paths + end_entries e; items = n.items }) refl refl refl (omega arith); cells = refl; values = refl }

pub less-shape : PathShape less_than codes.form_less
unfolding form_entries shape_paths list_items shape_cells shape_values after
less-shape n e p cs vs = record { ended = one_ended (less_than e p) n (record { forms = n.forms; paths = n.paths + path_entries e; items = n.items }) refl refl refl (omega arith); cells = refl; values = refl }

pub lesseq_shape : PathShape less_than_eq codes.form_lesseq
unfolding form_entries shape_paths list_items shape_cells shape_values after
lesseq_shape n e p cs vs = record { ended = one_ended (less_than_eq e p) n (record { forms = n.forms; paths = n.paths + path_entries e; items = n.items }) refl refl refl (omega arith); cells = refl; values = refl }
