-- Shapes as entries: entries that are there stay, and the last_number entry of a shape, read back, is that shape with the shape
-- names in it expanded.
use Prim.Native.Nat.{ℕ, ◌≤◌, ◌<◌}
use mathlib.Core.List.{List, [], ◌∷◌, ◌++◌}
use mathlib.Core.Bool.{Bool, true, cond, ◌&&◌}
use mathlib.Core.Path.{◌≡◌, refl, ap, ap₂, ◌∙◌}
use native.Mathlib.Omega.{arith}
use lib.Dec.{leb}
use lib.ListN.{length}
use lib.IntN.{ℤ}
use borrow.Author.Tests.{ne_eqb, leb-true}
use Rattle.base.specs.Numbered.{below}
use Rattle.base.proofs.Bools.{and_left, and_right}
use Rattle.base.proofs.Numbered.{at-number, below-number}
use Rattle.model.specs.Limits.{max_paths, max_count}
use Rattle.model.specs.Paths.{Path, End, self, along}
use Rattle.model.specs.Shapes.{Kind, an_iri, a_blank, a_literal, Test, node_kind, datatype, language_in, min_inclusive, min_exclusive, max_inclusive, max_exclusive, Upper, at_most, unbounded, Shape, top, has_shape, has_value, conj, disj, neg, test, count, for_all, equals, disjoint, closed, less_than, less_than_eq, unique_lang, def, expand}
use Rattle.model.specs.Books.{Book, shapes}
use Rattle.model.specs.Valid.{defined, upper_ok, path_ok, shape_ok}
use Rattle.tables.specs.Layout.{no_number, path_count, item_count, item_at, root_at}
use Rattle.tables.specs.Entries.{Entry, entry_of}
use Rattle.tables.specs.Decode.{path_entry_at, path_at, end_at, kind_of, upper_of, items_at, shape_of, entry_at, shape_at}
use Rattle.encoding.specs.Rows.{plain_row, value_row, form_row}
use Rattle.encoding.specs.Flatten.{last_number, add_path, Entries, add_form, with_path, with_items, with_end, end_number, kind_code, upper_number, add_test, add_shape}
use Rattle.base.proofs.Lists.{Extends}
use Rattle.encoding.proofs.Places.{Gives, gives_back, gives-end, gives-before, values_from-is, extends_refl, extends_more, extends_trans, extends_length}
use Rattle.encoding.proofs.Counts.{shape_size, form_entries_lem}
use Rattle.encoding.proofs.Paths.{path_extends, last_snoc, path_read, end_read}

-- an entry's row read back
pub form_back : (x : Entry) → entry_of (form_row x).code (form_row x).first (form_row x).second (form_row x).third (form_row x).fourth (form_row x).value ≡ x
unfolding entry_of form_row plain_row value_row
form_back Entry.top = refl
form_back (Entry.is c) = refl
form_back (Entry.shape s) = refl
form_back (Entry.conj a b) = refl
form_back (Entry.disj a b) = refl
form_back (Entry.neg a) = refl
form_back (Entry.kind k) = refl
form_back (Entry.datatype t) = refl
form_back (Entry.lang i n) = refl
form_back (Entry.from x) = refl
form_back (Entry.above x) = refl
form_back (Entry.to x) = refl
form_back (Entry.under x) = refl
form_back (Entry.count p a lo hi) = refl
form_back (Entry.all p a) = refl
form_back (Entry.equal f p) = refl
form_back (Entry.apart f p) = refl
form_back (Entry.closed i n) = refl
form_back (Entry.less e p) = refl
form_back (Entry.lesseq e p) = refl
form_back (Entry.onelang e) = refl
form_back Entry.bad = refl

-- ---- entries that are there stay
pub record Grows (es fs : Entries) : Type 0 where
  pub paths : Extends es.paths fs.paths
  pub forms : Extends es.forms fs.forms
  pub items : Extends es.items fs.items

pub grows-refl : (es : Entries) → Grows es es
grows-refl es = record { paths = extends_refl es.paths; forms = extends_refl es.forms; items = extends_refl es.items }

pub grows-trans : {es fs gs : Entries} → Grows es fs → Grows fs gs → Grows es gs
grows-trans {es} {fs} {gs} g h =
    record {
      paths = extends_trans es.paths fs.paths gs.paths g.paths h.paths;
      forms = extends_trans es.forms fs.forms gs.forms g.forms h.forms;
      items = extends_trans es.items fs.items gs.items g.items h.items;
    }

pub grows_form : (x : Entry) (es : Entries) → Grows es (add_form x es)
grows_form x es = record { paths = extends_refl es.paths; forms = extends_more es.forms (x ∷ []); items = extends_refl es.items }

pub grows-items : (xs : List ℕ) (es : Entries) → Grows es (with_items xs es)
grows-items xs es = record { paths = extends_refl es.paths; forms = extends_refl es.forms; items = extends_more es.items xs }

pub grows_path : (e : Path) (es : Entries) → Grows es (with_path e es)
grows_path e es = record { paths = path_extends e es.paths; forms = extends_refl es.forms; items = extends_refl es.items }

pub grows_end : (f : End) (es : Entries) → Grows es (with_end f es)
unfolding with_end
grows_end self es = grows-refl es
grows_end (along e) es = grows_path e es

pub grows_test : (t : Test) (es : Entries) → Grows es (add_test t es)
unfolding add_test
grows_test (node_kind k) es = grows_form (Entry.kind (kind_code k)) es
grows_test (datatype t) es = grows_form (Entry.datatype t) es
grows_test (language_in ls) es = grows-trans (grows-items ls es) (grows_form (Entry.lang (length es.items) (length ls)) (with_items ls es))
grows_test (min_inclusive x) es = grows_form (Entry.from x) es
grows_test (min_exclusive x) es = grows_form (Entry.above x) es
grows_test (max_inclusive x) es = grows_form (Entry.to x) es
grows_test (max_exclusive x) es = grows_form (Entry.under x) es

pub grows_shape : (φ : Shape) (es : Entries) → Grows es (add_shape φ es)
unfolding add_shape
grows_shape top es = grows_form Entry.top es
grows_shape (has_shape s) es = grows_form (Entry.shape s) es
grows_shape (has_value c) es = grows_form (Entry.is c) es
grows_shape (conj φ ψ) es =
    let fs = add_shape φ es in
    let gs = add_shape ψ fs in
    grows-trans (grows_shape φ es) (grows-trans (grows_shape ψ fs) (grows_form (Entry.conj (last_number fs.forms) (last_number gs.forms)) gs))
grows_shape (disj φ ψ) es =
    let fs = add_shape φ es in
    let gs = add_shape ψ fs in
    grows-trans (grows_shape φ es) (grows-trans (grows_shape ψ fs) (grows_form (Entry.disj (last_number fs.forms) (last_number gs.forms)) gs))
grows_shape (neg φ) es =
    let fs = add_shape φ es in
    grows-trans (grows_shape φ es) (grows_form (Entry.neg (last_number fs.forms)) fs)
grows_shape (test t) es = grows_test t es
grows_shape (count lo hi e ψ) es =
    let ps = with_path e es in
    let fs = add_shape ψ ps in
    grows-trans (grows_path e es) (grows-trans (grows_shape ψ ps) (grows_form (Entry.count (last_number ps.paths) (last_number fs.forms) lo (upper_number hi)) fs))
grows_shape (for_all e ψ) es =
    let ps = with_path e es in
    let fs = add_shape ψ ps in
    grows-trans (grows_path e es) (grows-trans (grows_shape ψ ps) (grows_form (Entry.all (last_number ps.paths) (last_number fs.forms)) fs))
grows_shape (equals f p) es = let ps = with_end f es in grows-trans (grows_end f es) (grows_form (Entry.equal (end_number f ps) p) ps)
grows_shape (disjoint f p) es = let ps = with_end f es in grows-trans (grows_end f es) (grows_form (Entry.apart (end_number f ps) p) ps)
grows_shape (closed qs) es = grows-trans (grows-items qs es) (grows_form (Entry.closed (length es.items) (length qs)) (with_items qs es))
grows_shape (less_than e p) es = let ps = with_path e es in grows-trans (grows_path e es) (grows_form (Entry.less (last_number ps.paths) p) ps)
grows_shape (less_than_eq e p) es = let ps = with_path e es in grows-trans (grows_path e es) (grows_form (Entry.lesseq (last_number ps.paths) p) ps)
grows_shape (unique_lang e) es = let ps = with_path e es in grows-trans (grows_path e es) (grows_form (Entry.onelang (last_number ps.paths)) ps)

pub form_last : (φ : Shape) (es : Entries) → last_number (add_shape φ es).forms < length (add_shape φ es).forms
form_last φ es = omega (arith, shape_size φ es, form_entries_lem φ)

-- ---- tables that hold these entries, by number, and perhaps more
pub record EntriesHeld (cs : List ℕ) (vs : List ℤ) (es : Entries) : Type 0 where
  pub paths : Gives (path_entry_at cs) es.paths
  pub forms : Gives (entry_at cs vs) es.forms
  pub items : Gives (item_at cs) es.items
  pub paths_fit : length es.paths ≤ path_count cs
  pub items_fit : length es.items ≤ item_count cs

pub held-before : {cs : List ℕ} {vs : List ℤ} {es fs : Entries} → Grows es fs → EntriesHeld cs vs fs → EntriesHeld cs vs es
held-before {cs} {vs} {es} {fs} g h =
    record {
      paths = gives-before (path_entry_at cs) es.paths fs.paths g.paths h.paths;
      forms = gives-before (entry_at cs vs) es.forms fs.forms g.forms h.forms;
      items = gives-before (item_at cs) es.items fs.items g.items h.items;
      paths_fit = omega (arith, extends_length es.paths fs.paths g.paths, h.paths_fit);
      items_fit = omega (arith, extends_length es.items fs.items g.items, h.items_fit);
    }

-- the shapes named above begin below the entries to come
abbrev pub Low : List ℕ → Book → Entries → Type 0
Low cs a es = (s : ℕ) → defined a shapes s ≡ true → root_at cs s < length es.forms

pub low-shape : (cs : List ℕ) (a : Book) (φ : Shape) (es : Entries) → Low cs a es → Low cs a (add_shape φ es)
low-shape cs a φ es low s d = omega (arith, low s d, shape_size φ es)

-- ---- operands read back
pub kind-back : (k : Kind) → kind_of (kind_code k) ≡ k
unfolding kind_of kind_code
kind-back an_iri = refl
kind-back a_blank = refl
kind-back a_literal = refl

pub upper_back : (hi : Upper) → upper_ok hi ≡ true → upper_of (upper_number hi) ≡ hi
unfolding upper_ok upper_of upper_number
upper_back (at_most hi) e = ap (λ (t : Bool). cond t unbounded (at_most hi)) (ne_eqb hi no_number (λ q. let z : ⊥ = omega (arith, leb-true hi max_count e) in z))
upper_back unbounded e = refl

-- ---- the last_number entry of a shape
module _ (cs : List ℕ) (vs : List ℤ) (few : path_count cs ≤ max_paths) where
  abbrev lower : ℕ → ℕ → Shape
  lower = below Shape.top (λ e at. shape_of cs (entry_at cs vs e) at)

  -- the entry at the end, by its parts
  form_end : (es : Entries) (x : Entry) → EntriesHeld cs vs (add_form x es) → shape_at cs vs (last_number (es.forms ++ (x ∷ []))) ≡ shape_of cs x (lower (length es.forms))
  unfolding shape_at
  form_end es x h =
      ap (shape_at cs vs) (last_snoc es.forms x) ∙ at-number Shape.top (λ e at. shape_of cs (entry_at cs vs e) at) (length es.forms)
      ∙ ap (λ (y : Entry). shape_of cs y (lower (length es.forms))) (gives-end (entry_at cs vs) es.forms x h.forms)

  lower-at : (n k : ℕ) → k < n → lower n k ≡ shape_at cs vs k
  unfolding shape_at
  lower-at n k l = below-number Shape.top (λ e at. shape_of cs (entry_at cs vs e) at) n k l

  items_read : (xs : List ℕ) (es : Entries) → EntriesHeld cs vs (with_items xs es) → items_at cs (length es.items) (length xs) ≡ xs
  unfolding items_at
  items_read xs es h = values_from-is (item_at cs) (length es.items) xs (gives_back (item_at cs) es.items xs h.items)

  test_read : (t : Test) (es : Entries) → EntriesHeld cs vs (add_test t es) → shape_at cs vs (last_number (add_test t es).forms) ≡ test t
  unfolding add_test shape_of
  test_read (node_kind k) es h = form_end es (Entry.kind (kind_code k)) h ∙ ap (λ (k : Kind). test (node_kind k)) (kind-back k)
  test_read (datatype t) es h = form_end es (Entry.datatype t) h
  test_read (language_in ls) es h =
      let fs = with_items ls es in
      let x = Entry.lang (length es.items) (length ls) in
      form_end fs x h ∙ ap (λ (ls : List ℕ). test (language_in ls)) (items_read ls es (held-before (grows_form x fs) h))
  test_read (min_inclusive x) es h = form_end es (Entry.from x) h
  test_read (min_exclusive x) es h = form_end es (Entry.above x) h
  test_read (max_inclusive x) es h = form_end es (Entry.to x) h
  test_read (max_exclusive x) es h = form_end es (Entry.under x) h

  -- a path whose entries come before a form entry
  path_of_lem : (e : Path) (es fs : Entries) → Grows (with_path e es) fs → EntriesHeld cs vs fs → path_at cs (last_number (add_path e es.paths)) ≡ e
  path_of_lem e es fs g h = path_read cs e es.paths (held-before g h).paths

  end_of : (f : End) (es : Entries) (x : Entry) → EntriesHeld cs vs (add_form x (with_end f es)) → end_at cs (end_number f (with_end f es)) ≡ f
  end_of f es x h = let g = held-before (grows_form x (with_end f es)) h in end_read cs f es g.paths (omega (arith, g.paths_fit))

  -- H: what the shapes named so far stand for; a: the lines above
  module _ (H : List Shape) (a : Book) (known : (s : ℕ) → defined a shapes s ≡ true → shape_at cs vs (root_at cs s) ≡ def H s) where
    -- the entry of a part, asked for below number n
    part : (φ : Shape) (es fs : Entries) → Grows (add_shape φ es) fs → shape_at cs vs (last_number (add_shape φ es).forms) ≡ expand H φ → lower (length fs.forms) (last_number (add_shape φ es).forms) ≡ expand H φ
    part φ es fs g e = lower-at (length fs.forms) (last_number (add_shape φ es).forms) (omega (arith, form_last φ es, extends_length (add_shape φ es).forms fs.forms g.forms)) ∙ e

    -- an entry of two parts
    two-parts : (f : Shape → Shape → Shape) (g : ℕ → ℕ → Entry) → ((m n : ℕ) (at : ℕ → Shape) → shape_of cs (g m n) at ≡ f (at m) (at n)) → (φ ψ : Shape) (es : Entries) → (let fs = add_shape φ es in let gs = add_shape ψ fs in let x = g (last_number fs.forms) (last_number gs.forms) in EntriesHeld cs vs (add_form x gs) → (EntriesHeld cs vs fs → shape_at cs vs (last_number fs.forms) ≡ expand H φ) → (EntriesHeld cs vs gs → shape_at cs vs (last_number gs.forms) ≡ expand H ψ) → shape_at cs vs (last_number (gs.forms ++ (x ∷ []))) ≡ f (expand H φ) (expand H ψ))
    two-parts f g of φ ψ es h p q =
        let fs = add_shape φ es in
        let gs = add_shape ψ fs in
        let x = g (last_number fs.forms) (last_number gs.forms) in
        let hg : EntriesHeld cs vs gs = held-before (grows_form x gs) h in
        form_end gs x h ∙ of (last_number fs.forms) (last_number gs.forms) (lower (length gs.forms))
        ∙ ap₂ f (part φ es gs (grows_shape ψ fs) (p (held-before (grows_shape ψ fs) hg))) (part ψ fs gs (grows-refl gs) (q hg))

    pub shape_read : (φ : Shape) (es : Entries) → Low cs a es → EntriesHeld cs vs (add_shape φ es) → shape_ok a φ ≡ true → shape_at cs vs (last_number (add_shape φ es).forms) ≡ expand H φ
    unfolding add_shape shape_of expand shape_ok
    shape_read top es low h ok = form_end es Entry.top h
    shape_read (has_shape s) es low h ok = form_end es (Entry.shape s) h ∙ lower-at (length es.forms) (root_at cs s) (low s ok) ∙ known s ok
    shape_read (has_value c) es low h ok = form_end es (Entry.is c) h
    shape_read (conj φ ψ) es low h ok = two-parts conj Entry.conj (λ m n at. refl) φ ψ es h (λ k. shape_read φ es low k (and_left _ _ ok)) (λ k. shape_read ψ (add_shape φ es) (low-shape cs a φ es low) k (and_right (shape_ok a φ) _ ok))
    shape_read (disj φ ψ) es low h ok = two-parts disj Entry.disj (λ m n at. refl) φ ψ es h (λ k. shape_read φ es low k (and_left _ _ ok)) (λ k. shape_read ψ (add_shape φ es) (low-shape cs a φ es low) k (and_right (shape_ok a φ) _ ok))
    shape_read (neg φ) es low h ok =
        let fs = add_shape φ es in
        let x = Entry.neg (last_number fs.forms) in
        form_end fs x h ∙ ap neg (part φ es fs (grows-refl fs) (shape_read φ es low (held-before (grows_form x fs) h) ok))
    shape_read (test t) es low h ok = test_read t es h
    shape_read (count lo hi e ψ) es low h ok =
        let ps = with_path e es in
        let fs = add_shape ψ ps in
        let x = Entry.count (last_number ps.paths) (last_number fs.forms) lo (upper_number hi) in
        let g : EntriesHeld cs vs fs = held-before (grows_form x fs) h in
        let bounds : (leb lo max_count && upper_ok hi) ≡ true = and_left _ _ ok in
        let parts : (path_ok a e && shape_ok a ψ) ≡ true = and_right (leb lo max_count && upper_ok hi) _ ok in
        let upper = upper_back hi (and_right (leb lo max_count) _ bounds) in
        let path = path_of_lem e es fs (grows_shape ψ ps) g in
        let child = part ψ ps fs (grows-refl fs) (shape_read ψ ps low g (and_right (path_ok a e) _ parts)) in
        form_end fs x h ∙ ap₂ (λ (u : Upper) (d : Path). count lo u d (lower (length fs.forms) (last_number fs.forms))) upper path ∙ ap (count lo hi e) child
    shape_read (for_all e ψ) es low h ok =
        let ps = with_path e es in
        let fs = add_shape ψ ps in
        let x = Entry.all (last_number ps.paths) (last_number fs.forms) in
        let g : EntriesHeld cs vs fs = held-before (grows_form x fs) h in
        form_end fs x h ∙ ap₂ for_all (path_of_lem e es fs (grows_shape ψ ps) g) (part ψ ps fs (grows-refl fs) (shape_read ψ ps low g (and_right (path_ok a e) _ ok)))
    shape_read (equals f p) es low h ok = form_end (with_end f es) (Entry.equal (end_number f (with_end f es)) p) h ∙ ap (λ (f : End). equals f p) (end_of f es (Entry.equal (end_number f (with_end f es)) p) h)
    shape_read (disjoint f p) es low h ok = form_end (with_end f es) (Entry.apart (end_number f (with_end f es)) p) h ∙ ap (λ (f : End). disjoint f p) (end_of f es (Entry.apart (end_number f (with_end f es)) p) h)
    shape_read (closed qs) es low h ok =
        let fs = with_items qs es in
        let x = Entry.closed (length es.items) (length qs) in
        form_end fs x h ∙ ap closed (items_read qs es (held-before (grows_form x fs) h))
    shape_read (less_than e p) es low h ok =
        let ps = with_path e es in
        let x = Entry.less (last_number ps.paths) p in
        form_end ps x h ∙ ap (λ (e : Path). less_than e p) (path_of_lem e es (add_form x ps) (grows_form x ps) h)
    shape_read (less_than_eq e p) es low h ok =
        let ps = with_path e es in
        let x = Entry.lesseq (last_number ps.paths) p in
        form_end ps x h ∙ ap (λ (e : Path). less_than_eq e p) (path_of_lem e es (add_form x ps) (grows_form x ps) h)
    shape_read (unique_lang e) es low h ok =
        let ps = with_path e es in
        let x = Entry.onelang (last_number ps.paths) in
        form_end ps x h ∙ ap unique_lang (path_of_lem e es (add_form x ps) (grows_form x ps) h)
