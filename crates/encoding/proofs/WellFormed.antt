-- The tables of an admissible book are well formed.
use Prim.Native.Nat.{ℕ, ◌+◌, ◌≤◌, ◌<◌}
use mathlib.Core.List.{List, [], ◌∷◌, ◌++◌}
use mathlib.Core.Bool.{Bool, true, false, not, ◌&&◌, ◌||◌, or-true}
use mathlib.Core.Path.{◌≡◌, refl, sym, ap, ◌∙◌, subst}
use native.Mathlib.Omega.{arith}
use lib.Dec.{eqb, ltb, leb}
use lib.ListN.{length, get_or, length-append}
use lib.IntN.{ℤ, pos}
use borrow.Author.Tests.{eq-eqb, lt-ltb, ltb-true, le-leb}
use Rattle.base.specs.Range.{in_range}
use Rattle.base.specs.Bounded.{every}
use Rattle.base.specs.Lists.{allb}
use Rattle.base.proofs.Bools.{and_left, and_right, and_both}
use Rattle.base.proofs.Bounded.{every-all}
use Rattle.base.proofs.Lists.{allb-at}
use Rattle.model.specs.Limits.{max_nodes, max_links, max_types, max_langs, max_shapes, max_rules, max_facts, max_forms, max_paths, max_items, max_count}
use Rattle.model.specs.Graph.{Term, iri, blank_node, numeric, plain, tagged, Triple, lang_string}
use Rattle.model.specs.Paths.{Path, predicate, inverse, sequence, alternative, zero_or_more, one_or_more, End, self, along}
use Rattle.model.specs.Shapes.{Kind, an_iri, a_blank, a_literal, Test, node_kind, datatype, language_in, min_inclusive, min_exclusive, max_inclusive, max_exclusive, Upper, at_most, unbounded, Shape, top, has_shape, has_value, conj, disj, neg, test, count, for_all, equals, disjoint, closed, less_than, less_than_eq, unique_lang}
use Rattle.model.specs.Rules.{Target, target_node, subjects_of, objects_of, target_class, Rule}
use Rattle.model.specs.Books.{Book, Line, link, type, lang, node, fact, shape, rule, Pool, nodes, links, types, langs, shapes, pool_number, new_terms, new_triples, new_shapes, new_rules, collect, names, rules}
use Rattle.model.specs.Valid.{capacity, is_resource, defined, has_room, term_ok, path_ok, test_ok, shape_ok, target_ok, line_ok, admissible}
use Rattle.model.specs.Valid as Valid
use Rattle.tables.specs.Layout.{no_number, node_count, link_count, type_count, lang_count, shape_count, fact_count, path_count, form_count, item_count, rule_count, subject_at, predicate_at, object_at, item_at, root_at}
use Rattle.tables.specs.Entries.{PathEntry, Entry, entry_of}
use Rattle.tables.specs.Entries as E
use Rattle.tables.specs.Decode.{triple_at, path_entry_at, entry_at}
use Rattle.tables.specs.WellFormed.{counts_ok, node_ok, fact_ok, path_entry_ok, item_ok, items_ok, upper_ok, end_number_ok, entry_ok, rule_ok, well_formed}
use Rattle.encoding.specs.Rows.{node_row, target_code, target_operand, plain_row, value_row, form_row}
use Rattle.encoding.specs.Flatten.{last_number, add_path, Entries, add_form, with_path, with_items, with_end, end_number, kind_code, upper_number, add_test, add_shape, add_shapes, no_entries}
use Rattle.encoding.specs.Encode.{entries_of, encode_cells, encode_values}
use Rattle.encoding.proofs.Places.{gives_back, Each, by_number-none, by_number_snoc, extends_length}
use Rattle.model.proofs.Lines.{defined_more, all_right, names-before, facts_within, rules-within, names-within, forms-within, paths-within, items-within, terms-counted, shapes_counted}
use Rattle.encoding.proofs.Counts.{path_size, entries-size, names-counted, facts_counted_lem, rules-counted, paths-counted, forms-counted, items-counted}
use Rattle.encoding.proofs.Graph.{kind-at, type-at, lang-at, triple_at_lem, rule_shape-at, rule_target-at, rule_operand_at_lem}
use Rattle.encoding.proofs.Paths.{path_last}
use Rattle.encoding.proofs.Shapes.{form_last, Grows, grows-refl, grows_form, grows_shape, EntriesHeld, held-before, Low, low-shape}
use Rattle.encoding.proofs.Schema.{entries_snoc, roots-length, roots-low, low-roots, held_shapes, path_entry-at, form_entry-with, root_at_lem, entries-held}

-- ---- what lines add uses what the book defines
uses : Book → Triple → Bool
uses b t = defined b nodes t.subject && (defined b links t.predicate && defined b nodes t.object)

applies : Book → Rule → Bool
applies b r = defined b shapes r.shape && target_ok b r.target

terms-line : (a : Book) (l : Line) → line_ok a l ≡ true → allb (term_ok a) (new_terms l) ≡ true
unfolding line_ok new_terms allb
terms-line a (link n) e = refl
terms-line a (type n) e = refl
terms-line a (lang n) e = refl
terms-line a (node n t) e = and_both _ _ (and_right (has_room a nodes) _ e) refl
terms-line a (fact t) e = refl
terms-line a (shape n φ) e = refl
terms-line a (rule r) e = refl

facts_line : (a : Book) (l : Line) → line_ok a l ≡ true → allb (uses a) (new_triples l) ≡ true
unfolding line_ok new_triples allb uses Valid.fact_ok
facts_line a (link n) e = refl
facts_line a (type n) e = refl
facts_line a (lang n) e = refl
facts_line a (node n t) e = refl
facts_line a (fact t) e =
    let s = defined a nodes t.subject in
    let r = is_resource (get_or (collect new_terms a) t.subject iri) in
    let po = defined a links t.predicate && defined a nodes t.object in
    let f : ((s && r) && po) ≡ true = and_left _ _ e in
    and_both (uses a t) true (and_both s po (and_left s r (and_left (s && r) po f)) (and_right (s && r) po f)) refl
facts_line a (shape n φ) e = refl
facts_line a (rule r) e = refl

rules-line : (a : Book) (l : Line) → line_ok a l ≡ true → allb (applies a) (new_rules l) ≡ true
unfolding line_ok new_rules allb applies
rules-line a (link n) e = refl
rules-line a (type n) e = refl
rules-line a (lang n) e = refl
rules-line a (node n t) e = refl
rules-line a (fact t) e = refl
rules-line a (shape n φ) e = refl
rules-line a (rule r) e = and_both (applies a r) true (and_left (applies a r) (ltb (length (rules a)) max_rules) e) refl

term-more : (a : Book) (l : Line) (t : Term) → term_ok a t ≡ true → term_ok (a ++ (l ∷ [])) t ≡ true
unfolding term_ok
term-more a l iri e = refl
term-more a l blank_node e = refl
term-more a l (numeric t x) e =
    let c = a ++ (l ∷ []) in
    let r = not (eqb t lang_string) && in_range x in
    and_both _ _ (defined_more a l types t (and_left _ _ e)) (and_right (defined a types t) _ e)
term-more a l (plain t) e =
    let c = a ++ (l ∷ []) in
    and_both _ _ (defined_more a l types t (and_left _ _ e)) (and_right (defined a types t) _ e)
term-more a l (tagged k) e = defined_more a l langs k e

fact_more : (a : Book) (l : Line) (t : Triple) → uses a t ≡ true → uses (a ++ (l ∷ [])) t ≡ true
unfolding uses
fact_more a l t e =
    let c = a ++ (l ∷ []) in
    let po = defined a links t.predicate && defined a nodes t.object in
    let f : po ≡ true = and_right (defined a nodes t.subject) _ e in
    and_both _ _ (defined_more a l nodes t.subject (and_left _ _ e))
    (and_both _ _ (defined_more a l links t.predicate (and_left _ _ f)) (defined_more a l nodes t.object (and_right (defined a links t.predicate) _ f)))

target_more : (a : Book) (l : Line) (t : Target) → target_ok a t ≡ true → target_ok (a ++ (l ∷ [])) t ≡ true
unfolding target_ok
target_more a l (target_node c) e = defined_more a l nodes c e
target_more a l (subjects_of p) e = defined_more a l links p e
target_more a l (objects_of p) e = defined_more a l links p e
target_more a l (target_class c) e = defined_more a l nodes c e

rule_more : (a : Book) (l : Line) (r : Rule) → applies a r ≡ true → applies (a ++ (l ∷ [])) r ≡ true
unfolding applies
rule_more a l r e =
    and_both _ _ (defined_more a l shapes r.shape (and_left _ _ e))
    (target_more a l r.target (and_right (defined a shapes r.shape) _ e))

-- ---- entries of shapes, where the tables count at least the names of the lines above
pub record EntriesOk (cs : List ℕ) (es : Entries) : Type 0 where
  pub paths : Each (path_entry_ok cs) es.paths
  pub forms : Each (entry_ok cs) es.forms

-- a form entry is not judged by its V
value-free : (cs : List ℕ) (e : ℕ) (x : Entry) (v : ℤ) → entry_ok cs e (entry_of (form_row x).code (form_row x).first (form_row x).second (form_row x).third (form_row x).fourth v) ≡ entry_ok cs e x
unfolding entry_of form_row plain_row value_row entry_ok
value-free cs e Entry.top v = refl
value-free cs e (Entry.is c) v = refl
value-free cs e (Entry.shape s) v = refl
value-free cs e (Entry.conj a b) v = refl
value-free cs e (Entry.disj a b) v = refl
value-free cs e (Entry.neg a) v = refl
value-free cs e (Entry.kind k) v = refl
value-free cs e (Entry.datatype t) v = refl
value-free cs e (Entry.lang i n) v = refl
value-free cs e (Entry.from x) v = refl
value-free cs e (Entry.above x) v = refl
value-free cs e (Entry.to x) v = refl
value-free cs e (Entry.under x) v = refl
value-free cs e (Entry.count p a lo hi) v = refl
value-free cs e (Entry.all p a) v = refl
value-free cs e (Entry.equal f p) v = refl
value-free cs e (Entry.apart f p) v = refl
value-free cs e (Entry.closed i n) v = refl
value-free cs e (Entry.less d p) v = refl
value-free cs e (Entry.lesseq d p) v = refl
value-free cs e (Entry.onelang d) v = refl
value-free cs e Entry.bad v = refl

kind-low : (k : Kind) → ltb (kind_code k) 3 ≡ true
unfolding kind_code
kind-low an_iri = lt-ltb 0 3 (omega arith)
kind-low a_blank = lt-ltb 1 3 (omega arith)
kind-low a_literal = lt-ltb 2 3 (omega arith)

parts-lower : (d e : Path) (es : List PathEntry) → (ltb (last_number (add_path d es)) (length (add_path e (add_path d es))) && ltb (last_number (add_path e (add_path d es))) (length (add_path e (add_path d es)))) ≡ true
parts-lower d e es =
    let ds = add_path d es in
    let fs = add_path e ds in
    and_both _ _ (lt-ltb (last_number ds) (length fs) (omega (arith, path_last d es, path_size e ds))) (lt-ltb (last_number fs) (length fs) (path_last e ds))

module _ (cs : List ℕ) where
  upper_ok_lem : (hi : Upper) → Valid.upper_ok hi ≡ true → upper_ok cs (upper_number hi) ≡ true
  unfolding Valid.upper_ok upper_ok upper_number
  upper_ok_lem (at_most hi) e = ap (λ (t : Bool). t || eqb hi no_number) e
  upper_ok_lem unbounded e = ap (λ (t : Bool). leb no_number max_count || t) (eq-eqb no_number no_number refl) ∙ or-true (leb no_number max_count)

  with_form : (es : Entries) (x : Entry) → EntriesOk cs es → entry_ok cs (length es.forms) x ≡ true → EntriesOk cs (add_form x es)
  with_form es x h e = record { paths = h.paths; forms = by_number_snoc (λ i x. entry_ok cs i x ≡ true) es.forms x h.forms e }

  -- a part of the entry to come
  form_lower : (φ : Shape) (es fs : Entries) → Grows (add_shape φ es) fs → ltb (last_number (add_shape φ es).forms) (length fs.forms) ≡ true
  form_lower φ es fs g = lt-ltb (last_number (add_shape φ es).forms) (length fs.forms) (omega (arith, form_last φ es, extends_length (add_shape φ es).forms fs.forms g.forms))

  module _ (vs : List ℤ) where
    path_lower : (e : Path) (es fs : Entries) → Grows (with_path e es) fs → EntriesHeld cs vs fs → ltb (last_number (add_path e es.paths)) (path_count cs) ≡ true
    path_lower e es fs g h = lt-ltb (last_number (add_path e es.paths)) (path_count cs) (omega (arith, path_last e es.paths, (held-before g h).paths_fit))

    end-ok : (f : End) (es : Entries) (x : Entry) → EntriesHeld cs vs (add_form x (with_end f es)) → end_number_ok cs (end_number f (with_end f es)) ≡ true
    unfolding end_number_ok with_end end_number
    end-ok self es x h = ap (λ (t : Bool). ltb no_number (path_count cs) || t) (eq-eqb no_number no_number refl) ∙ or-true (ltb no_number (path_count cs))
    end-ok (along e) es x h = ap (λ (t : Bool). t || eqb (last_number (add_path e es.paths)) no_number) (path_lower e es (add_form x (with_path e es)) (grows_form x (with_path e es)) h)

    module _ (a : Book) (enough : (p : Pool) → length (names p a) ≤ get_or cs (pool_number p) 0) where
      below-count : (p : Pool) (k : ℕ) → defined a p k ≡ true → ltb k (get_or cs (pool_number p) 0) ≡ true
      unfolding defined
      below-count p k d = lt-ltb k (get_or cs (pool_number p) 0) (omega (arith, ltb-true k (length (names p a)) d, enough p))

      items-ok : (p : Pool) (xs : List ℕ) (es : Entries) → allb (defined a p) xs ≡ true → EntriesHeld cs vs (with_items xs es) → items_ok cs (get_or cs (pool_number p) 0) (length es.items) (length xs) ≡ true
      unfolding items_ok
      items-ok p xs es d h =
          let i = length es.items in
          let bound = get_or cs (pool_number p) 0 in
          every-all (λ k. item_ok cs bound (i + k)) (length xs) (λ k l.
          and_both (ltb (i + k) (item_count cs)) (ltb (item_at cs (i + k)) bound)
          (lt-ltb (i + k) (item_count cs) (omega (arith, l, h.items_fit, length-append es.items xs)))
          (ap (λ (x : ℕ). ltb x bound) (gives_back (item_at cs) es.items xs h.items k 0 l) ∙ below-count p (get_or xs k 0) (allb-at (defined a p) xs 0 d k l)))

      -- an entry of one part
      one_ok : (x : ℕ → PathEntry) → ((k n : ℕ) → ltb k n ≡ true → path_entry_ok cs n (x k) ≡ true) → (e : Path) (es : List PathEntry) → Each (path_entry_ok cs) (add_path e es) → Each (path_entry_ok cs) (add_path e es ++ (x (last_number (add_path e es)) ∷ []))
      one_ok x ok e es h =
          let ds = add_path e es in
          by_number_snoc (λ i y. path_entry_ok cs i y ≡ true) ds (x (last_number ds)) h (ok (last_number ds) (length ds) (lt-ltb (last_number ds) (length ds) (path_last e es)))

      path_ok_lem : (e : Path) (es : List PathEntry) → path_ok a e ≡ true → Each (path_entry_ok cs) es → Each (path_entry_ok cs) (add_path e es)
      unfolding add_path path_ok path_entry_ok
      path_ok_lem (predicate p) es d h = by_number_snoc (λ i x. path_entry_ok cs i x ≡ true) es (E.link p) h (below-count links p d)
      path_ok_lem (inverse e) es d h = one_ok E.inv (λ k n l. l) e es (path_ok_lem e es d h)
      path_ok_lem (sequence e f) es d h =
          let ds = add_path e es in
          let fs = add_path f ds in
          by_number_snoc (λ i x. path_entry_ok cs i x ≡ true) fs (E.seq (last_number ds) (last_number fs)) (path_ok_lem f ds (and_right (path_ok a e) _ d) (path_ok_lem e es (and_left _ _ d) h))
          (parts-lower e f es)
      path_ok_lem (alternative e f) es d h =
          let ds = add_path e es in
          let fs = add_path f ds in
          by_number_snoc (λ i x. path_entry_ok cs i x ≡ true) fs (E.alt (last_number ds) (last_number fs)) (path_ok_lem f ds (and_right (path_ok a e) _ d) (path_ok_lem e es (and_left _ _ d) h))
          (parts-lower e f es)
      path_ok_lem (zero_or_more e) es d h = one_ok E.star (λ k n l. l) e es (path_ok_lem e es d h)
      path_ok_lem (one_or_more e) es d h = one_ok E.plus (λ k n l. l) e es (path_ok_lem e es d h)

      with_items_lem : (xs : List ℕ) (es : Entries) → EntriesOk cs es → EntriesOk cs (with_items xs es)
      with_items_lem xs es k = record { paths = k.paths; forms = k.forms }

      with_path_lem : (e : Path) (es : Entries) → path_ok a e ≡ true → EntriesOk cs es → EntriesOk cs (with_path e es)
      with_path_lem e es d k = record { paths = path_ok_lem e es.paths d k.paths; forms = k.forms }

      with-end : (f : End) (es : Entries) → Valid.end_ok a f ≡ true → EntriesOk cs es → EntriesOk cs (with_end f es)
      unfolding Valid.end_ok with_end
      with-end self es d k = k
      with-end (along e) es d k = with_path_lem e es d k

      test_ok_lem : (t : Test) (es : Entries) → EntriesHeld cs vs (add_test t es) → test_ok a t ≡ true → EntriesOk cs es → EntriesOk cs (add_test t es)
      unfolding add_test test_ok entry_ok
      test_ok_lem (node_kind k) es h d o = with_form es (Entry.kind (kind_code k)) o (kind-low k)
      test_ok_lem (datatype t) es h d o = with_form es (Entry.datatype t) o (below-count types t d)
      test_ok_lem (language_in ls) es h d o =
          let fs = with_items ls es in
          let x = Entry.lang (length es.items) (length ls) in
          with_form fs x (with_items_lem ls es o) (items-ok langs ls es d (held-before (grows_form x fs) h))
      test_ok_lem (min_inclusive x) es h d o = with_form es (Entry.from x) o refl
      test_ok_lem (min_exclusive x) es h d o = with_form es (Entry.above x) o refl
      test_ok_lem (max_inclusive x) es h d o = with_form es (Entry.to x) o refl
      test_ok_lem (max_exclusive x) es h d o = with_form es (Entry.under x) o refl

      -- an entry of two parts
      two-parts : (φ ψ : Shape) (es : Entries) (x : Entry) → (let fs = add_shape φ es in let gs = add_shape ψ fs in let n = length gs.forms in entry_ok cs n x ≡ (ltb (last_number fs.forms) n && ltb (last_number gs.forms) n) → EntriesHeld cs vs (add_form x gs) → (EntriesHeld cs vs fs → EntriesOk cs fs) → (EntriesHeld cs vs gs → EntriesOk cs fs → EntriesOk cs gs) → EntriesOk cs (add_form x gs))
      two-parts φ ψ es x e h p q =
          let fs = add_shape φ es in
          let gs = add_shape ψ fs in
          let hg : EntriesHeld cs vs gs = held-before (grows_form x gs) h in
          with_form gs x (q hg (p (held-before (grows_shape ψ fs) hg))) (e ∙ and_both _ _ (form_lower φ es gs (grows_shape ψ fs)) (form_lower ψ fs gs (grows-refl gs)))

      -- a path or END, and a link
      path_link_lem : (e : Path) (p : ℕ) (es : Entries) (x : Entry) → EntriesHeld cs vs (add_form x (with_path e es)) → (path_ok a e && defined a links p) ≡ true → (ltb (last_number (add_path e es.paths)) (path_count cs) && ltb p (link_count cs)) ≡ true
      path_link_lem e p es x h d = and_both _ _ (path_lower e es (add_form x (with_path e es)) (grows_form x (with_path e es)) h) (below-count links p (and_right (path_ok a e) _ d))

      end-link : (f : End) (p : ℕ) (es : Entries) (x : Entry) → EntriesHeld cs vs (add_form x (with_end f es)) → (Valid.end_ok a f && defined a links p) ≡ true → (end_number_ok cs (end_number f (with_end f es)) && ltb p (link_count cs)) ≡ true
      end-link f p es x h d = and_both _ _ (end-ok f es x h) (below-count links p (and_right (Valid.end_ok a f) _ d))

      shape-ok : (φ : Shape) (es : Entries) → Low cs a es → EntriesHeld cs vs (add_shape φ es) → shape_ok a φ ≡ true → EntriesOk cs es → EntriesOk cs (add_shape φ es)
      unfolding add_shape shape_ok entry_ok
      shape-ok top es low h d o = with_form es Entry.top o refl
      shape-ok (has_shape s) es low h d o = with_form es (Entry.shape s) o (and_both _ _ (below-count shapes s d) (lt-ltb (root_at cs s) (length es.forms) (low s d)))
      shape-ok (has_value c) es low h d o = with_form es (Entry.is c) o (below-count nodes c d)
      shape-ok (conj φ ψ) es low h d o =
          let fs = add_shape φ es in
          two-parts φ ψ es (Entry.conj (last_number fs.forms) (last_number (add_shape ψ fs).forms)) refl h (λ k. shape-ok φ es low k (and_left _ _ d) o) (λ k. shape-ok ψ fs (low-shape cs a φ es low) k (and_right (shape_ok a φ) _ d))
      shape-ok (disj φ ψ) es low h d o =
          let fs = add_shape φ es in
          two-parts φ ψ es (Entry.disj (last_number fs.forms) (last_number (add_shape ψ fs).forms)) refl h (λ k. shape-ok φ es low k (and_left _ _ d) o) (λ k. shape-ok ψ fs (low-shape cs a φ es low) k (and_right (shape_ok a φ) _ d))
      shape-ok (neg φ) es low h d o =
          let fs = add_shape φ es in
          let x = Entry.neg (last_number fs.forms) in
          with_form fs x (shape-ok φ es low (held-before (grows_form x fs) h) d o) (form_lower φ es fs (grows-refl fs))
      shape-ok (test t) es low h d o = test_ok_lem t es h d o
      shape-ok (count lo hi e ψ) es low h d o =
          let ps = with_path e es in
          let fs = add_shape ψ ps in
          let x = Entry.count (last_number ps.paths) (last_number fs.forms) lo (upper_number hi) in
          let g : EntriesHeld cs vs fs = held-before (grows_form x fs) h in
          let bounds : (leb lo max_count && Valid.upper_ok hi) ≡ true = and_left _ _ d in
          let parts : (path_ok a e && shape_ok a ψ) ≡ true = and_right (leb lo max_count && Valid.upper_ok hi) _ d in
          let p = ltb (last_number ps.paths) (path_count cs) in
          let c = ltb (last_number fs.forms) (length fs.forms) in
          with_form fs x (shape-ok ψ ps low g (and_right (path_ok a e) _ parts) (with_path_lem e es (and_left _ _ parts) o))
          (and_both _ _ (and_both _ _ (path_lower e es fs (grows_shape ψ ps) g) (form_lower ψ ps fs (grows-refl fs)))
          (and_both (leb lo max_count) (upper_ok cs (upper_number hi)) (and_left (leb lo max_count) (Valid.upper_ok hi) bounds) (upper_ok_lem hi (and_right (leb lo max_count) (Valid.upper_ok hi) bounds))))
      shape-ok (for_all e ψ) es low h d o =
          let ps = with_path e es in
          let fs = add_shape ψ ps in
          let x = Entry.all (last_number ps.paths) (last_number fs.forms) in
          let g : EntriesHeld cs vs fs = held-before (grows_form x fs) h in
          with_form fs x (shape-ok ψ ps low g (and_right (path_ok a e) _ d) (with_path_lem e es (and_left _ _ d) o))
          (and_both _ _ (path_lower e es fs (grows_shape ψ ps) g) (form_lower ψ ps fs (grows-refl fs)))
      shape-ok (equals f p) es low h d o = let ps = with_end f es in let x = Entry.equal (end_number f ps) p in with_form ps x (with-end f es (and_left _ _ d) o) (end-link f p es x h d)
      shape-ok (disjoint f p) es low h d o = let ps = with_end f es in let x = Entry.apart (end_number f ps) p in with_form ps x (with-end f es (and_left _ _ d) o) (end-link f p es x h d)
      shape-ok (closed qs) es low h d o =
          let fs = with_items qs es in
          let x = Entry.closed (length es.items) (length qs) in
          with_form fs x (with_items_lem qs es o) (items-ok links qs es d (held-before (grows_form x fs) h))
      shape-ok (less_than e p) es low h d o =
          let ps = with_path e es in
          let x = Entry.less (last_number ps.paths) p in
          with_form ps x (with_path_lem e es (and_left _ _ d) o) (path_link_lem e p es x h d)
      shape-ok (less_than_eq e p) es low h d o =
          let ps = with_path e es in
          let x = Entry.lesseq (last_number ps.paths) p in
          with_form ps x (with_path_lem e es (and_left _ _ d) o) (path_link_lem e p es x h d)
      shape-ok (unique_lang e) es low h d o =
          let ps = with_path e es in
          let x = Entry.onelang (last_number ps.paths) in
          with_form ps x (with_path_lem e es d o) (path_lower e es (add_form x ps) (grows_form x ps) h)

-- ---- the tables of a book
module _ (b : Book) (ok : admissible b ≡ true) where
  counts-ok : counts_ok (encode_cells b) ≡ true
  unfolding counts_ok capacity
  counts-ok =
      let cs = encode_cells b in
      and_both _ _ (le-leb (node_count cs) max_nodes (omega (arith, names-counted b nodes, names-within nodes b ok)))
      (and_both _ _ (le-leb (link_count cs) max_links (omega (arith, names-counted b links, names-within links b ok)))
      (and_both _ _ (le-leb (type_count cs) max_types (omega (arith, names-counted b types, names-within types b ok)))
      (and_both _ _ (le-leb (lang_count cs) max_langs (omega (arith, names-counted b langs, names-within langs b ok)))
      (and_both _ _ (le-leb (shape_count cs) max_shapes (omega (arith, names-counted b shapes, names-within shapes b ok)))
      (and_both _ _ (le-leb (fact_count cs) max_facts (omega (arith, facts_counted_lem b, facts_within b ok)))
      (and_both _ _ (le-leb (path_count cs) max_paths (omega (arith, paths-counted b, paths-within b ok)))
      (and_both _ _ (le-leb (form_count cs) max_forms (omega (arith, forms-counted b, forms-within b ok)))
      (and_both _ _ (le-leb (item_count cs) max_items (omega (arith, items-counted b, items-within b ok)))
      (le-leb (rule_count cs) max_rules (omega (arith, rules-counted b, rules-within b ok)))))))))))

  node_row_lem : (t : Term) → term_ok b t ≡ true → get_or (true ∷ true ∷ ltb (node_row t).type (length (names types b)) ∷ ltb (node_row t).type (length (names types b)) ∷ ltb (node_row t).lang (length (names langs b)) ∷ []) (node_row t).kind false ≡ true
  unfolding node_row term_ok defined
  node_row_lem iri e = refl
  node_row_lem blank_node e = refl
  node_row_lem (numeric t x) e = and_left _ _ e
  node_row_lem (plain t) e = and_left _ _ e
  node_row_lem (tagged l) e = e

  nodes-ok : every (node_ok (encode_cells b)) (node_count (encode_cells b)) ≡ true
  unfolding node_ok
  nodes-ok = every-all (node_ok (encode_cells b)) (node_count (encode_cells b)) (λ v h.
      let ts = collect new_terms b in
      let l : v < length ts = omega (arith, names-counted b nodes, terms-counted b) in
      let tc : type_count (encode_cells b) ≡ length (names types b) = names-counted b types in
      let lc : lang_count (encode_cells b) ≡ length (names langs b) = names-counted b langs in
      rw (kind-at b ok v iri l, type-at b ok v iri l, lang-at b ok v iri l, tc, lc) (node_row_lem (get_or ts v iri) (allb-at (term_ok b) ts iri (all_right new_terms term_ok terms-line term-more b ok) v l)))

  facts_ok : every (fact_ok (encode_cells b)) (fact_count (encode_cells b)) ≡ true
  unfolding fact_ok triple_at uses defined
  facts_ok = every-all (fact_ok (encode_cells b)) (fact_count (encode_cells b)) (λ i h.
      let ts = collect new_triples b in
      let d : Triple = record { subject = 0; predicate = 0; object = 0 } in
      let l : i < length ts = omega (arith, facts_counted_lem b) in
      let t = triple_at_lem b ok i d l in
      let s : subject_at (encode_cells b) i ≡ (get_or ts i d).subject = ap (λ (t : Triple). t.subject) t in
      let p : predicate_at (encode_cells b) i ≡ (get_or ts i d).predicate = ap (λ (t : Triple). t.predicate) t in
      let o : object_at (encode_cells b) i ≡ (get_or ts i d).object = ap (λ (t : Triple). t.object) t in
      let nc : node_count (encode_cells b) ≡ length (names nodes b) = names-counted b nodes in
      let lc : link_count (encode_cells b) ≡ length (names links b) = names-counted b links in
      rw (s, p, o, nc, lc) (allb-at (uses b) ts d (all_right new_triples uses facts_line fact_more b ok) i l))

  target_row : (t : Target) → target_ok b t ≡ true → get_or (ltb (target_operand t) (length (names nodes b)) ∷ ltb (target_operand t) (length (names links b)) ∷ ltb (target_operand t) (length (names links b)) ∷ ltb (target_operand t) (length (names nodes b)) ∷ []) (target_code t) false ≡ true
  unfolding target_ok defined target_operand target_code
  target_row (target_node c) e = e
  target_row (subjects_of p) e = e
  target_row (objects_of p) e = e
  target_row (target_class c) e = e

  rule_row : (r : Rule) → applies b r ≡ true → (ltb r.shape (length (names shapes b)) && get_or (ltb (target_operand r.target) (length (names nodes b)) ∷ ltb (target_operand r.target) (length (names links b)) ∷ ltb (target_operand r.target) (length (names links b)) ∷ ltb (target_operand r.target) (length (names nodes b)) ∷ []) (target_code r.target) false) ≡ true
  unfolding applies defined
  rule_row r e = and_both _ _ (and_left (defined b shapes r.shape) (target_ok b r.target) e) (target_row r.target (and_right (defined b shapes r.shape) (target_ok b r.target) e))

  rules-ok : every (rule_ok (encode_cells b)) (rule_count (encode_cells b)) ≡ true
  unfolding rule_ok rules
  rules-ok = every-all (rule_ok (encode_cells b)) (rule_count (encode_cells b)) (λ i h.
      let rs = rules b in
      let d : Rule = record { shape = 0; target = target_node 0 } in
      let l : i < length rs = omega (arith, rules-counted b) in
      let sc : shape_count (encode_cells b) ≡ length (names shapes b) = names-counted b shapes in
      let nc : node_count (encode_cells b) ≡ length (names nodes b) = names-counted b nodes in
      let lc : link_count (encode_cells b) ≡ length (names links b) = names-counted b links in
      rw (rule_shape-at b ok i d l, rule_target-at b ok i d l, rule_operand_at_lem b ok i d l, sc, nc, lc) (rule_row (get_or rs i d) (allb-at (applies b) rs d (all_right new_rules applies rules-line rule_more b ok) i l)))

  -- all entries
  entries-ok : EntriesOk (encode_cells b) (entries_of b)
  unfolding entries_of add_shapes
  entries-ok =
      let cs = encode_cells b in
      let vs = encode_values b in
      held_shapes cs vs (λ φs. EntriesOk cs (add_shapes φs no_entries)) (record { paths = by_number-none (λ i x. path_entry_ok cs i x ≡ true); forms = by_number-none (λ i x. entry_ok cs i x ≡ true) }) b
      (λ a φ x n o d. subst (EntriesOk cs) (sym (entries_snoc (collect new_shapes a) no_entries φ)) (shape-ok cs vs a (λ p. omega (arith, names-before p a b x, names-counted b p)) φ (add_shapes (collect new_shapes a) no_entries) (low-roots cs a n.roots) n.entries d o))
      ok (entries-held b ok) (root_at_lem b ok)

  paths-ok : every (λ e. path_entry_ok (encode_cells b) e (path_entry_at (encode_cells b) e)) (path_count (encode_cells b)) ≡ true
  paths-ok =
      let cs = encode_cells b in
      every-all (λ e. path_entry_ok cs e (path_entry_at cs e)) (path_count cs) (λ e h.
      let l : e < length (entries_of b).paths = omega (arith, paths-counted b, entries-size b) in
      ap (path_entry_ok cs e) (path_entry-at b ok e PathEntry.bad l) ∙ entries-ok.paths e PathEntry.bad l)

  forms-ok : every (λ e. entry_ok (encode_cells b) e (entry_at (encode_cells b) [] e)) (form_count (encode_cells b)) ≡ true
  unfolding entry_at
  forms-ok =
      let cs = encode_cells b in
      every-all (λ e. entry_ok cs e (entry_at cs [] e)) (form_count cs) (λ e h.
      let l : e < length (entries_of b).forms = omega (arith, forms-counted b, entries-size b) in
      ap (entry_ok cs e) (form_entry-with b ok (pos 0) e Entry.bad l) ∙ value-free cs e (get_or (entries_of b).forms e Entry.bad) (pos 0) ∙ entries-ok.forms e Entry.bad l)

  roots-ok : every (λ s. ltb (root_at (encode_cells b) s) (form_count (encode_cells b))) (shape_count (encode_cells b)) ≡ true
  unfolding entries_of
  roots-ok =
      let cs = encode_cells b in
      let φs = collect new_shapes b in
      every-all (λ s. ltb (root_at cs s) (form_count cs)) (shape_count cs) (λ s h.
      let l : s < length φs = omega (arith, names-counted b shapes, shapes_counted b) in
      lt-ltb (root_at cs s) (form_count cs) (omega (arith, root_at_lem b ok s 0 (omega (arith, roots-length φs no_entries)), roots-low φs no_entries s l, forms-counted b, entries-size b)))

  pub well_formed_lem : well_formed (encode_cells b) ≡ true
  unfolding well_formed
  well_formed_lem = and_both _ _ counts-ok (and_both _ _ nodes-ok (and_both _ _ facts_ok (and_both _ _ paths-ok (and_both _ _ forms-ok (and_both _ _ roots-ok rules-ok)))))
