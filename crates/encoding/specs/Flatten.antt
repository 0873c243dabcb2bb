-- Paths and shapes as entries, in the order in which they end: an entry names its parts by their numbers, and comes after them.
use Rattle.std.specs.Prelude.{ℕ, ◌-◌, List, [], ◌∷◌, ◌++◌, length}
use Rattle.model.specs.Paths.{Path, predicate, inverse, sequence, alternative, zero_or_more, one_or_more, End, self, along}
use Rattle.model.specs.Shapes.{Kind, an_iri, a_blank, a_literal, Test, node_kind, datatype, language_in, min_inclusive, min_exclusive, max_inclusive, max_exclusive, Upper, at_most, unbounded, Shape, top, has_shape, has_value, conj, disj, neg, test, count, for_all, equals, disjoint, closed, less_than, less_than_eq, unique_lang}
use Rattle.tables.specs.Layout.{no_number}
use Rattle.tables.specs.Entries.{PathEntry, link, inv, seq, alt, star, plus, Entry}

-- the number of the last_number of a list
abbrev pub last_number : {A : Type 0} → List A → ℕ
last_number xs = length xs - 1

-- the path's entries after those that are there
unfoldable pub add_path : Path → List PathEntry → List PathEntry
add_path (predicate p) es = es ++ (link p ∷ [])
add_path (inverse d) es = let ds = add_path d es in ds ++ (inv (last_number ds) ∷ [])
add_path (sequence d e) es = let ds = add_path d es in let fs = add_path e ds in fs ++ (seq (last_number ds) (last_number fs) ∷ [])
add_path (alternative d e) es = let ds = add_path d es in let fs = add_path e ds in fs ++ (alt (last_number ds) (last_number fs) ∷ [])
add_path (zero_or_more d) es = let ds = add_path d es in ds ++ (star (last_number ds) ∷ [])
add_path (one_or_more d) es = let ds = add_path d es in ds ++ (plus (last_number ds) ∷ [])

-- the entries of all shapes so far
pub record Entries : Type 0 where
  pub paths : List PathEntry
  pub forms : List Entry
  pub items : List ℕ

abbrev pub add_form : Entry → Entries → Entries
add_form x es = record { paths = es.paths; forms = es.forms ++ (x ∷ []); items = es.items }

abbrev pub with_path : Path → Entries → Entries
with_path e es = record { paths = add_path e es.paths; forms = es.forms; items = es.items }

abbrev pub with_items : List ℕ → Entries → Entries
with_items xs es = record { paths = es.paths; forms = es.forms; items = es.items ++ xs }

unfoldable pub with_end : End → Entries → Entries
with_end self es = es
with_end (along e) es = with_path e es

-- the number by which an entry names its END, where es has that END's entries last_number
unfoldable pub end_number : End → Entries → ℕ
end_number self es = no_number
end_number (along e) es = last_number es.paths

unfoldable pub kind_code : Kind → ℕ
kind_code an_iri = 0
kind_code a_blank = 1
kind_code a_literal = 2

unfoldable pub upper_number : Upper → ℕ
upper_number (at_most hi) = hi
upper_number unbounded = no_number

unfoldable pub add_test : Test → Entries → Entries
add_test (node_kind k) es = add_form (Entry.kind (kind_code k)) es
add_test (datatype t) es = add_form (Entry.datatype t) es
add_test (language_in ls) es = add_form (Entry.lang (length es.items) (length ls)) (with_items ls es)
add_test (min_inclusive x) es = add_form (Entry.from x) es
add_test (min_exclusive x) es = add_form (Entry.above x) es
add_test (max_inclusive x) es = add_form (Entry.to x) es
add_test (max_exclusive x) es = add_form (Entry.under x) es

-- the shape's entries after those that are there; its own is the last_number form entry
unfoldable pub add_shape : Shape → Entries → Entries
add_shape top es = add_form Entry.top es
add_shape (has_shape s) es = add_form (Entry.shape s) es
add_shape (has_value c) es = add_form (Entry.is c) es
add_shape (conj φ ψ) es = let fs = add_shape φ es in let gs = add_shape ψ fs in add_form (Entry.conj (last_number fs.forms) (last_number gs.forms)) gs
add_shape (disj φ ψ) es = let fs = add_shape φ es in let gs = add_shape ψ fs in add_form (Entry.disj (last_number fs.forms) (last_number gs.forms)) gs
add_shape (neg φ) es = let fs = add_shape φ es in add_form (Entry.neg (last_number fs.forms)) fs
add_shape (test t) es = add_test t es
add_shape (count lo hi e ψ) es = let ps = with_path e es in let fs = add_shape ψ ps in add_form (Entry.count (last_number ps.paths) (last_number fs.forms) lo (upper_number hi)) fs
add_shape (for_all e ψ) es = let ps = with_path e es in let fs = add_shape ψ ps in add_form (Entry.all (last_number ps.paths) (last_number fs.forms)) fs
add_shape (equals f p) es = let ps = with_end f es in add_form (Entry.equal (end_number f ps) p) ps
add_shape (disjoint f p) es = let ps = with_end f es in add_form (Entry.apart (end_number f ps) p) ps
add_shape (closed qs) es = add_form (Entry.closed (length es.items) (length qs)) (with_items qs es)
add_shape (less_than e p) es = let ps = with_path e es in add_form (Entry.less (last_number ps.paths) p) ps
add_shape (less_than_eq e p) es = let ps = with_path e es in add_form (Entry.lesseq (last_number ps.paths) p) ps
add_shape (unique_lang e) es = let ps = with_path e es in add_form (Entry.onelang (last_number ps.paths)) ps

-- the entries of shapes after those that are there, and the entry that each shape begins with
unfoldable pub add_shapes : List Shape → Entries → Entries
add_shapes [] es = es
add_shapes (φ ∷ φs) es = add_shapes φs (add_shape φ es)

unfoldable pub roots_of : List Shape → Entries → List ℕ
roots_of [] es = []
roots_of (φ ∷ φs) es = let fs = add_shape φ es in last_number fs.forms ∷ roots_of φs fs

abbrev pub no_entries : Entries
no_entries = record { paths = []; forms = []; items = [] }
