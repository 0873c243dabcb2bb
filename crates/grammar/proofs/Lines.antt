-- A line is read exactly: what is accepted is a valid line written there, and a valid line written there is accepted.
use Prim.Native.Nat.{ℕ, suc, ◌+◌, ◌≤◌}
use mathlib.Core.Path.{◌≡◌, refl, sym, ap, ap₂, ◌∙◌, subst}
use mathlib.Core.List.{List, [], ◌∷◌, ◌++◌}
use mathlib.Core.Bool.{Bool, true, false, not, cond, ◌&&◌, and-true, and_assoc, and_comm}
use mathlib.Core.Logic.{⊎_elim}
use native.Mathlib.Omega.{arith}
use lib.Dec.{eqb, ltb, leb}
use lib.ListN.{length, get_or}
use borrow.Author.Tests.{eqb-true, eq-eqb, leb-true, le-leb}
use Rattle.base.specs.Range.{in_range}
use Rattle.base.proofs.Bools.{and_left, and_right, and_both, and_swap}
use Rattle.text.specs.Spans.{Span}
use Rattle.text.proofs.Spans.{span_join, span_byte, span_split, span_one}
use Rattle.model.specs.Graph.{iri, blank_node, numeric, plain, tagged, lang_string}
use Rattle.model.specs.Books.{Book, Line, link, type, lang, node, fact, shape, rule, nodes, links, types, langs, shapes, collect, new_terms, new_triples, rules}
use Rattle.model.specs.Sizes.{form_entries, shape_paths, list_items, forms_in, paths_in, items_in}
use Rattle.model.specs.Valid.{defined, has_room, term_ok, fact_ok, is_resource, shape_ok, target_ok, entries_fit, line_ok}
use Rattle.model.specs.Limits.{max_depth, max_rules, max_facts, max_forms, max_paths, max_items}
use Rattle.grammar.specs.Writing.{spaced, bracket, write_node, write_line}
use Rattle.grammar.specs.Valid.{line_depth, new_name, names_ok, valid_line}
use Rattle.grammar.specs.Syntax.{Args, LineCode, link_l, type_l, lang_l, thing_l, blank_l, number_l, text_l, words_l, fact_l, shape_l, rule_l, line_family}
use Rattle.grammar.specs.Reading.{max_within, Read, got, refused, and_then, after, bracket_at, readers_at, line_room, begun_above, line_at}
use Rattle.grammar.proofs.Exact.{never_refused, passes, thens, got_value, got_next}
use Rattle.grammar.proofs.Leaves.{Pools}
use Rattle.grammar.proofs.Args.{args_depth, after_all, Fit, write_args, args_ok}
use Rattle.grammar.proofs.Families.{Opened, bracket_sound, bracket_complete}
use Rattle.grammar.proofs.Rows.{line_placed}
use Rattle.grammar.proofs.Nesting.{readers_exact}

-- the tests of a line's places, its room and its entries, in the order of the reading
number_tests : (a b c d e : Bool) → ((a && (b && (c && d))) && e) ≡ (((e && a) && ((b && c) && (d && true))) && (true && true))
number_tests a b c d e = simp (and-true, and_assoc, and_comm, and_swap)

text_tests : (a b c e : Bool) → ((a && (b && c)) && e) ≡ (((e && a) && ((b && c) && true)) && (true && true))
text_tests a b c e = simp (and-true, and_assoc, and_comm, and_swap)

words_tests : (a b e : Bool) → ((a && b) && e) ≡ (((e && a) && (b && true)) && (true && true))
words_tests a b e = simp (and-true, and_assoc, and_comm, and_swap)

fact_tests_lem : (a b c d e : Bool) → ((((a && b) && (c && d)) && e) && true) ≡ (((a && b) && (c && (d && true))) && (e && true))
fact_tests_lem a b c d e = simp (and-true, and_assoc, and_comm, and_swap)

shape_tests : (a b c e : Bool) → ((a && (b && c)) && e) ≡ (((e && a) && (b && true)) && (true && c))
shape_tests a b c e = simp (and-true, and_assoc, and_comm, and_swap)

rule_tests : (a b e : Bool) → (((a && b) && e) && true) ≡ ((a && (b && true)) && (e && true))
rule_tests a b e = simp (and-true, and_assoc, and_comm, and_swap)

module _ (above : Book) where
  line-text : (c : LineCode) (xs : Args (line_family.slots c)) → write_line above (line_family.build c xs) ≡ 40 ∷ (line_family.word c ++ (write_args above (line_family.slots c) xs ++ (41 ∷ [])))
  unfolding write_line write_node bracket spaced
  line-text link_l xs = refl
  line-text type_l xs = refl
  line-text lang_l xs = refl
  line-text thing_l xs = refl
  line-text blank_l xs = refl
  line-text number_l xs = refl
  line-text text_l xs = refl
  line-text words_l xs = refl
  line-text fact_l xs = refl
  line-text shape_l xs = refl
  line-text rule_l xs = refl

  line_depth_lem : (c : LineCode) (xs : Args (line_family.slots c)) → line_depth (line_family.build c xs) ≡ suc (args_depth (line_family.slots c) xs)
  unfolding line_depth
  line_depth_lem link_l xs = refl
  line_depth_lem type_l xs = refl
  line_depth_lem lang_l xs = refl
  line_depth_lem thing_l xs = refl
  line_depth_lem blank_l xs = refl
  line_depth_lem number_l xs = refl
  line_depth_lem text_l xs = refl
  line_depth_lem words_l xs = refl
  line_depth_lem fact_l xs = refl
  line_depth_lem shape_l xs = omega arith
  line_depth_lem rule_l xs = refl

  -- the entries of a shape line fit; no other line has any
  line_fits : (c : LineCode) → Args (line_family.slots c) → Bool
  line_fits link_l xs = true
  line_fits type_l xs = true
  line_fits lang_l xs = true
  line_fits thing_l xs = true
  line_fits blank_l xs = true
  line_fits number_l xs = true
  line_fits text_l xs = true
  line_fits words_l xs = true
  line_fits fact_l xs = true
  line_fits shape_l xs = entries_fit above xs.1.0
  line_fits rule_l xs = true

  -- what is asked of a line is what is asked at its places, its room and its entries
  line_ok_lem : (s : List ℕ) (c : LineCode) (xs : Args (line_family.slots c))
      → (line_ok above (line_family.build c xs) && names_ok above (line_family.build c xs)) ≡ (args_ok above (line_family.slots c) xs && (line_room s above c && line_fits c xs))
  unfolding line_ok names_ok term_ok fact_ok line_room line_fits
  line_ok_lem s link_l xs = simp (and-true, and_assoc, and_comm, and_swap)
  line_ok_lem s type_l xs = simp (and-true, and_assoc, and_comm, and_swap)
  line_ok_lem s lang_l xs = simp (and-true, and_assoc, and_comm, and_swap)
  line_ok_lem s thing_l xs = words_tests (has_room above nodes) true (new_name above nodes xs.0)
  line_ok_lem s blank_l xs = words_tests (has_room above nodes) true (new_name above nodes xs.0)
  line_ok_lem s number_l xs = number_tests (has_room above nodes) (defined above types xs.1.0) (not (eqb xs.1.0 lang_string)) (in_range xs.1.1.0) (new_name above nodes xs.0)
  line_ok_lem s text_l xs = text_tests (has_room above nodes) (defined above types xs.1.0) (not (eqb xs.1.0 lang_string)) (new_name above nodes xs.0)
  line_ok_lem s words_l xs = words_tests (has_room above nodes) (defined above langs xs.1.0) (new_name above nodes xs.0)
  line_ok_lem s fact_l xs = fact_tests_lem (defined above nodes xs.0) (is_resource (get_or (collect new_terms above) xs.0 iri)) (defined above links xs.1.0) (defined above nodes xs.1.1.0) (ltb (length (collect new_triples above)) max_facts)
  line_ok_lem s shape_l xs = shape_tests (has_room above shapes) (shape_ok above xs.1.0) (entries_fit above xs.1.0) (new_name above shapes xs.0)
  line_ok_lem s rule_l xs = rule_tests (defined above shapes xs.0) (target_ok above xs.1.0) (ltb (length (rules above)) max_rules)

  valid_tests : (l : Line) (b : Bool) → (line_ok above l && names_ok above l) ≡ b → valid_line above l ≡ (b && leb (line_depth l) max_depth)
  unfolding valid_line
  valid_tests l b e = sym (and_assoc (line_ok above l) (names_ok above l) (leb (line_depth l) max_depth)) ∙ ap (λ (c : Bool). c && leb (line_depth l) max_depth) e

  -- the entries of the lines above and of this one
  fits-from : (c : LineCode) (xs : Args (line_family.slots c)) → Fit (begun_above above) → line_fits c xs ≡ true → Fit (after_all (line_family.slots c) xs (begun_above above))
  unfolding after line_fits entries_fit begun_above
  fits-from link_l xs f e = f
  fits-from type_l xs f e = f
  fits-from lang_l xs f e = f
  fits-from thing_l xs f e = f
  fits-from blank_l xs f e = f
  fits-from number_l xs f e = f
  fits-from text_l xs f e = f
  fits-from words_l xs f e = f
  fits-from fact_l xs f e = f
  fits-from shape_l xs f e =
      let φ = xs.1.0 in
      let p = and_right (leb (forms_in above + form_entries xs.1.0) max_forms) (leb (paths_in above + shape_paths xs.1.0) max_paths && leb (items_in above + list_items xs.1.0) max_items) e in
      record {
        forms = leb-true (forms_in above + form_entries xs.1.0) max_forms (and_left (leb (forms_in above + form_entries xs.1.0) max_forms) (leb (paths_in above + shape_paths xs.1.0) max_paths && leb (items_in above + list_items xs.1.0) max_items) e);
        paths = leb-true (paths_in above + shape_paths xs.1.0) max_paths (and_left (leb (paths_in above + shape_paths xs.1.0) max_paths) (leb (items_in above + list_items xs.1.0) max_items) p);
        items = leb-true (items_in above + list_items xs.1.0) max_items (and_right (leb (paths_in above + shape_paths xs.1.0) max_paths) (leb (items_in above + list_items xs.1.0) max_items) p);
      }
  fits-from rule_l xs f e = f

  from-fits : (c : LineCode) (xs : Args (line_family.slots c)) → Fit (after_all (line_family.slots c) xs (begun_above above)) → line_fits c xs ≡ true
  unfolding after line_fits entries_fit begun_above
  from-fits link_l xs f = refl
  from-fits type_l xs f = refl
  from-fits lang_l xs f = refl
  from-fits thing_l xs f = refl
  from-fits blank_l xs f = refl
  from-fits number_l xs f = refl
  from-fits text_l xs f = refl
  from-fits words_l xs f = refl
  from-fits fact_l xs f = refl
  from-fits shape_l xs f =
      and_both (leb (forms_in above + form_entries xs.1.0) max_forms) (leb (paths_in above + shape_paths xs.1.0) max_paths && leb (items_in above + list_items xs.1.0) max_items) (le-leb (forms_in above + form_entries xs.1.0) max_forms f.forms)
      (and_both (leb (paths_in above + shape_paths xs.1.0) max_paths) (leb (items_in above + list_items xs.1.0) max_items) (le-leb (paths_in above + shape_paths xs.1.0) max_paths f.paths) (le-leb (items_in above + list_items xs.1.0) max_items f.items))
  from-fits rule_l xs f = refl

line_made : (l : Line) → (c : LineCode) × (xs : Args (line_family.slots c)) × (line_family.build c xs ≡ l)
line_made (link n) = (link_l, (n, tt), refl)
line_made (type n) = (type_l, (n, tt), refl)
line_made (lang n) = (lang_l, (n, tt), refl)
line_made (node n iri) = (thing_l, (n, tt), refl)
line_made (node n blank_node) = (blank_l, (n, tt), refl)
line_made (node n (numeric t x)) = (number_l, (n, (t, (x, tt))), refl)
line_made (node n (plain t)) = (text_l, (n, (t, tt)), refl)
line_made (node n (tagged l)) = (words_l, (n, (l, tt)), refl)
line_made (fact t) = (fact_l, (t.subject, (t.predicate, (t.object, tt))), refl)
line_made (shape n φ) = (shape_l, (n, (φ, tt)), refl)
line_made (rule r) = (rule_l, (r.shape, (r.target, tt)), refl)

module _ (s : List ℕ) (above : Book) (N : Pools above) (f : Fit (begun_above above)) where
  opened_valid : (l : Line) (at nx : ℕ) → Opened s above N line_family line_placed (readers_at s above max_within) max_within false false (line_room s above) (begun_above above) (λ _. readers_exact s above N max_within) (λ _. f) l at nx
      → Span s at nx (write_line above l) × (valid_line above l ≡ true)
  opened_valid l at nx O =
      let c = O.code in
      let xs = O.args in
      let dd = O.good.1 in
      let dr = line_depth_lem above O.code O.args in
      subst (λ (l : Line). Span s at nx (write_line above l) × (valid_line above l ≡ true)) O.made (
        subst (λ (w : List ℕ). Span s at nx w) (sym (line-text above O.code O.args)) O.span,
        valid_tests above (line_family.build O.code O.args) (args_ok above (line_family.slots O.code) O.args && (line_room s above O.code && line_fits above O.code O.args)) (line_ok_lem above s O.code O.args)
            ∙ and_both (args_ok above (line_family.slots O.code) O.args && (line_room s above O.code && line_fits above O.code O.args)) (leb (line_depth (line_family.build O.code O.args)) max_depth)
            (and_both (args_ok above (line_family.slots O.code) O.args) (line_room s above O.code && line_fits above O.code O.args) O.good.0 (and_both (line_room s above O.code) (line_fits above O.code O.args) O.roomy (from-fits above O.code O.args O.good.2)))
            (le-leb (line_depth (line_family.build O.code O.args)) max_depth (omega arith)),
      )

  -- a line without its LF
  pub bracket-line : (at : ℕ) → at ≤ length s → (l : Line) (nx : ℕ) → bracket_at s above line_family (readers_at s above max_within) false false (line_room s above) (refused 2) (begun_above above) at ≡ got l nx → Span s at nx (write_line above l) × (valid_line above l ≡ true)
  bracket-line at h l nx r =
      ⊎_elim (λ b. absurd (never_refused b)) (opened_valid l at nx) (bracket_sound s above N line_family line_placed (readers_at s above max_within) max_within false false (line_room s above) (begun_above above) (λ _. readers_exact s above N max_within) (λ _. f) (refused 2) at h l nx r)

  pub line_sound : (at : ℕ) → at ≤ length s → (l : Line) (nx : ℕ) → line_at s above at ≡ got l nx → Span s at nx (write_line above l ++ (10 ∷ [])) × (valid_line above l ≡ true)
  unfolding line_at
  line_sound at h l nx e =
      let (k, m, r, g) = thens (bracket_at s above line_family (readers_at s above max_within) false false (line_room s above) (refused 2) (begun_above above) at) (λ l next. cond (eqb (get_or s next 0) 10) (got l (next + 1)) (refused 2)) e in
      let p = passes (eqb (get_or s m 0) 10) 2 (got k (m + 1)) g in
      let u = bracket-line at h k m r in
      subst (λ (l : Line). Span s at nx (write_line above l ++ (10 ∷ [])) × (valid_line above l ≡ true)) (got_value p.1)
      (subst (λ (j : ℕ). Span s at j (write_line above k ++ (10 ∷ []))) (got_next p.1) (span_join u.0 (span_byte s m 9 (eqb-true (get_or s m 0) 10 p.0))), u.1)

  built_accepted : (c : LineCode) (xs : Args (line_family.slots c)) (at nx : ℕ) → Span s at nx (write_line above (line_family.build c xs)) → valid_line above (line_family.build c xs) ≡ true
      → bracket_at s above line_family (readers_at s above max_within) false false (line_room s above) (refused 2) (begun_above above) at ≡ got (line_family.build c xs) nx
  built_accepted c xs at nx p v =
      let t = sym (valid_tests above (line_family.build c xs) (args_ok above (line_family.slots c) xs && (line_room s above c && line_fits above c xs)) (line_ok_lem above s c xs)) ∙ v in
      let a = and_left (args_ok above (line_family.slots c) xs && (line_room s above c && line_fits above c xs)) (leb (line_depth (line_family.build c xs)) max_depth) t in
      let b = and_right (args_ok above (line_family.slots c) xs) (line_room s above c && line_fits above c xs) a in
      let dd : line_depth (line_family.build c xs) ≤ max_depth = leb-true (line_depth (line_family.build c xs)) max_depth (and_right (args_ok above (line_family.slots c) xs && (line_room s above c && line_fits above c xs)) (leb (line_depth (line_family.build c xs)) max_depth) t) in
      let dr = line_depth_lem above c xs in
      bracket_complete s above N line_family line_placed (readers_at s above max_within) max_within false false (line_room s above) (begun_above above) (λ _. readers_exact s above N max_within) (λ _. f) c refl refl (and_left (line_room s above c) (line_fits above c xs) b) (refused 2) at nx xs
      (subst (λ (w : List ℕ). Span s at nx w) (line-text above c xs) p)
      (and_left (args_ok above (line_family.slots c) xs) (line_room s above c && line_fits above c xs) a, omega arith, fits-from above c xs f (and_right (line_room s above c) (line_fits above c xs) b))

  pub line_complete : (at nx : ℕ) (l : Line) → Span s at nx (write_line above l ++ (10 ∷ [])) → valid_line above l ≡ true → line_at s above at ≡ got l nx
  unfolding line_at
  line_complete at nx l p v =
      let (c, xs, i) = line_made l in
      let sp = span_split (write_line above l) (10 ∷ []) p in
      let mid : ℕ = at + length (write_line above l) in
      let o = span_one sp.1 in
      ap (λ (r : Read Line). and_then r (λ l next. cond (eqb (get_or s next 0) 10) (got l (next + 1)) (refused 2)))
      (subst (λ (l : Line). Span s at mid (write_line above l) → valid_line above l ≡ true → bracket_at s above line_family (readers_at s above max_within) false false (line_room s above) (refused 2) (begun_above above) at ≡ got l mid) i (built_accepted c xs at mid) sp.0 v)
      ∙ ap₂ (λ (b : Bool) (j : ℕ). cond b (got l j) (refused 2)) (eq-eqb (get_or s mid 0) 10 o.1) o.0
