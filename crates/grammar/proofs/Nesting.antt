-- PATH, FORM and TARGET are read exactly, whatever they nest: by induction on the brackets that are left to open.
use Prim.Native.Nat.{ℕ, zero, suc, ◌≤◌, ◌<◌}
use mathlib.Core.Path.{◌≡◌, refl, sym, ap, ap₂, ◌∙◌, subst}
use mathlib.Core.List.{List, [], ◌∷◌}
use mathlib.Core.Bool.{Bool, true, false, not, cond, ◌&&◌}
use mathlib.Core.Logic.{◌⊎◌, inl, inr, ⊎_elim}
use native.Mathlib.Omega.{arith}
use lib.Dec.{leb}
use lib.ListN.{length, get_or}
use lib.Seq.{slice}
use borrow.Author.Tests.{leb-false, lt-leb, ltb-true}
use Rattle.base.specs.Bytes.{bytes, eql}
use Rattle.base.specs.Lists.{allb}
use Rattle.base.proofs.Bools.{bool_cases, and_left, never_both}
use Rattle.base.proofs.Bytes.{eql_true, eql-refl}
use Rattle.text.specs.Items.{edge, item_end, is_name}
use Rattle.text.proofs.Items.{name_some}
use Rattle.text.specs.Spans.{Span}
use Rattle.text.proofs.Spans.{span_head}
use Rattle.text.proofs.Words.{plain, word-item, word-ends, item_span}
use Rattle.model.specs.Paths.{Path, predicate, inverse, sequence, alternative, zero_or_more, one_or_more}
use Rattle.model.specs.Shapes.{Test, node_kind, datatype, language_in, min_inclusive, min_exclusive, max_inclusive, max_exclusive, Shape, top, has_shape, has_value, conj, disj, neg, test, count, for_all, equals, disjoint, closed, less_than, less_than_eq, unique_lang}
use Rattle.model.specs.Rules.{Target, target_node, subjects_of, objects_of, target_class}
use Rattle.model.specs.Books.{Book, links, names}
use Rattle.model.specs.Sizes.{path_entries, form_entries, shape_paths, list_items}
use Rattle.model.specs.Valid.{defined, path_ok, shape_ok}
use Rattle.model.specs.Limits.{max_forms, max_paths}
use Rattle.grammar.specs.Writing.{name_of, write_path, write_shape, write_target}
use Rattle.grammar.specs.Valid.{path_depth, shape_depth, reserved, well_named}
use Rattle.grammar.specs.Syntax.{Slot, path, form, target, Arg, Args, Family, inv_c, seq_c, alt_c, star_c, plus_c, path_family, is_c, shape_c, and_c, or_c, not_c, kind_c, datatype_c, lang_c, from_c, above_c, to_c, below_c, count_c, all_c, equal_c, apart_c, closed_c, less_c, lesseq_c, onelang_c, form_family, node_c, subjects_c, objects_c, class_c, target_family}
use Rattle.grammar.specs.Reading.{Read, got, refused, and_then, Begun, after, path_begun, form_begun, Readers, used_at, link_at, true_at, bracket_at, deeper, no_readers, readers_at}
use Rattle.grammar.proofs.Exact.{Exact, Edge, never_refused, passes, fails, thens, got_value, got_next, ends_of_lem}
use Rattle.grammar.proofs.Leaves.{Pools, used_exact, named-plain}
use Rattle.grammar.proofs.Args.{Fit, Good, AllGood, Exacts, shrink_all}
use Rattle.grammar.proofs.Families.{Placed, Opened, bracket_sound, bracket-bare, bracket_complete}
use Rattle.grammar.proofs.Rows.{Rows, path_rows, path_placed, form_rows, form_placed, target-rows, target_placed}

-- ---- a family in general
-- k: what the family makes; d brackets are left to open, and d' deeper one of this family
module _ (s : List ℕ) (above : Book) (N : Pools above) (k : Slot) (F : Family (Arg k)) (placed : (c : F.Code) → Placed F c) (W : Arg k → List ℕ) (begun : Begun → Begun) (rows : Rows above k F W begun)
    (R : Readers) (d d' : ℕ) (deep full : Bool) (n : Begun) (bare : ℕ → Read (Arg k))
    (none_left : deep ≡ true → d ≡ 0) (one_less : deep ≡ false → d ≡ suc d') (X : deep ≡ false → Exacts s above R d')
    (opens : full ≡ false → Fit (begun n)) (fits : Fit (begun n) → full ≡ false) where
  abbrev reader : ℕ → Read (Arg k)
  reader at = bracket_at s above F R deep full (λ c. true) (bare at) (begun n) at

  pub record Bare : Type 0 where
    pub bare_sound : (at : ℕ) → at ≤ length s → (x : Arg k) (nx : ℕ) → bare at ≡ got x nx → Span s at nx (W x) × Good above d n k x
    -- what is written without a bracket, and what with one
    pub view : (x : Arg k) → ((at nx : ℕ) → Span s at nx (W x) → Good above d n k x → Edge s nx → (get_or s at 0 ≡ 40 → ⊥) × (bare at ≡ got x nx)) ⊎ ((c : F.Code) × (xs : Args (F.slots c)) × (F.build c xs ≡ x))

  opened_good : (x : Arg k) (at nx : ℕ) → Opened s above N F placed R d' deep full (λ c. true) (begun n) X opens x at nx → Span s at nx (W x) × Good above d n k x
  opened_good x at nx O =
      let one = one_less O.shallow in
      let dd = O.good.1 in
      let dr = rows.depth O.code O.args in
      subst (λ (x : Arg k). Span s at nx (W x) × Good above d n k x) O.made
      (subst (λ (w : List ℕ). Span s at nx w) (sym (rows.text O.code O.args)) O.span, (rows.ok O.code O.args ∙ O.good.0, omega arith, subst Fit (sym (rows.counts O.code O.args n)) O.good.2))

  built : (c : F.Code) (xs : Args (F.slots c)) (at nx : ℕ) → Span s at nx (W (F.build c xs)) → Good above d n k (F.build c xs) → reader at ≡ got (F.build c xs) nx
  built c xs at nx p q =
      let dr = rows.depth c xs in
      let dq = q.1 in
      let sh : deep ≡ false = bool_cases (λ b. deep ≡ b → b ≡ false) deep (λ _ e. absurd (let z = none_left e in let y : ⊥ = omega arith in y)) (λ _ _. refl) refl in
      let one = one_less sh in
      let all : AllGood above d' (begun n) (F.slots c) xs = (sym (rows.ok c xs) ∙ q.0, omega arith, subst Fit (rows.counts c xs n) q.2) in
      bracket_complete s above N F placed R d' deep full (λ c. true) (begun n) X opens c sh (fits (shrink_all (F.slots c) xs (begun n) all.2)) refl (bare at) at nx xs (subst (λ (w : List ℕ). Span s at nx w) (rows.text c xs) p) all

  pub family_exact : Bare → Exact s (Edge s) reader W (Good above d n k)
  family_exact B =
      record {
        sound = λ at h x nx e. ⊎_elim (λ b. B.bare_sound at h x nx b) (opened_good x at nx) (bracket_sound s above N F placed R d' deep full (λ c. true) (begun n) X opens (bare at) at h x nx e);
        complete = λ at nx x p q e. ⊎_elim
            (λ f. let u = f at nx p q e in bracket-bare s above N F placed R d' deep full (λ c. true) (begun n) X opens (bare at) at u.0 ∙ u.1)
            (λ v. let (c, xs, i) = v in subst (λ (x : Arg k). Span s at nx (W x) → Good above d n k x → reader at ≡ got x nx) i (built c xs at nx) p q)
            (B.view x);
      }

-- ---- what is bare
module _ (s : List ℕ) (above : Book) (N : Pools above) (d : ℕ) (n : Begun) where
  -- a word does not begin with a bracket
  word-start : (w : List ℕ) (at nx : ℕ) → Span s at nx w → allb plain w ≡ true → 0 < length w → get_or s at 0 ≡ 40 → ⊥
  unfolding allb edge
  word-start [] at nx p e l z = omega arith
  word-start (x ∷ w) at nx p e l z = never_both e (ap (λ (y : ℕ). plain y && allb plain w) (sym (span_head p).1 ∙ z))

  link_name : (p : ℕ) → defined above links p ≡ true → (allb plain (name_of above links p) ≡ true) × (0 < length (name_of above links p))
  unfolding defined well_named
  link_name p o =
      let w = N.named links p (ltb-true p (length (names links above)) o) in
      (named-plain links (name_of above links p) w, name_some (name_of above links p) (and_left (is_name (name_of above links p)) (not (reserved links (name_of above links p))) w))

  link_sound : Fit n → (at : ℕ) → at ≤ length s → (x : Path) (nx : ℕ) → link_at s above (leb max_paths n.paths) at ≡ got x nx → Span s at nx (write_path above x) × Good above d n path x
  unfolding link_at write_path path_ok path_depth after path_entries
  link_sound f at h x nx e =
      let (p, m, r, g) = thens (used_at s above links at) (λ p next. cond (leb max_paths n.paths) (refused 7) (got (predicate p) next)) e in
      let q = fails (leb max_paths n.paths) 7 (got (predicate p) m) g in
      let u = (used_exact s above N links).sound at h p m r in
      let l : n.paths < max_paths = leb-false max_paths n.paths q.0 in
      subst (λ (x : Path). Span s at nx (write_path above x) × Good above d n path x) (got_value q.1)
      (subst (λ (j : ℕ). Span s at j (name_of above links p)) (got_next q.1) u.0, (u.1, omega arith, record { forms = f.forms; paths = omega arith; items = f.items }))

  link_complete : (p at nx : ℕ) → Span s at nx (write_path above (predicate p)) → Good above d n path (predicate p) → Edge s nx → (get_or s at 0 ≡ 40 → ⊥) × (link_at s above (leb max_paths n.paths) at ≡ got (predicate p) nx)
  unfolding link_at write_path path_ok after path_entries
  link_complete p at nx q g e =
      let l = g.2.paths in
      let w = link_name p g.0 in (
        word-start (name_of above links p) at nx q w.0 w.1,
        ap (λ (r : Read ℕ). and_then r (λ p next. cond (leb max_paths n.paths) (refused 7) (got (predicate p) next))) ((used_exact s above N links).complete at nx p q g.0 e)
            ∙ ap (λ (b : Bool). cond b (refused 7) (got (predicate p) nx)) (lt-leb max_paths n.paths (omega arith)),
      )

  true_sound : Fit n → (at : ℕ) → at ≤ length s → (x : Shape) (nx : ℕ) → true_at s above (leb max_forms n.forms) at ≡ got x nx → Span s at nx (write_shape above x) × Good above d n form x
  unfolding true_at write_shape shape_ok shape_depth after form_entries shape_paths list_items
  true_sound f at h x nx e =
      let p = passes (eql (slice at (item_end s at) s) (bytes "true")) 2 (cond (leb max_forms n.forms) (refused 7) (got top (item_end s at))) e in
      let q = fails (leb max_forms n.forms) 7 (got top (item_end s at)) p.1 in
      let l : n.forms < max_forms = leb-false max_forms n.forms q.0 in
      subst (λ (x : Shape). Span s at nx (write_shape above x) × Good above d n form x) (got_value q.1)
      (subst (λ (j : ℕ). Span s at j (bytes "true")) (got_next q.1) (subst (λ (w : List ℕ). Span s at (item_end s at) w) (eql_true (slice at (item_end s at) s) (bytes "true") p.0) (item_span s at h)), (refl, omega arith, record { forms = omega arith; paths = omega (arith, f.paths); items = omega (arith, f.items) }))

  true_complete : (at nx : ℕ) → Span s at nx (write_shape above top) → Good above d n form top → Edge s nx → (get_or s at 0 ≡ 40 → ⊥) × (true_at s above (leb max_forms n.forms) at ≡ got top nx)
  unfolding true_at write_shape after form_entries allb edge
  true_complete at nx p g e =
      let l = g.2.forms in (
        word-start (bytes "true") at nx p refl (omega arith),
        ap₂ (λ (w : List ℕ) (j : ℕ). cond (eql w (bytes "true")) (cond (leb max_forms n.forms) (refused 7) (got top j)) (refused 2)) (word-item (bytes "true") p refl (ends_of_lem s nx e)) (word-ends (bytes "true") p refl (ends_of_lem s nx e))
            ∙ ap₂ (λ (a b : Bool). cond a (cond b (refused 7) (got top nx)) (refused 2)) (eql-refl (bytes "true")) (lt-leb max_forms n.forms (omega arith)),
      )

-- ---- what is a bracket
abbrev Made : (k : Slot) (F : Family (Arg k)) → Arg k → Type 0
Made k F x = (c : F.Code) × (xs : Args (F.slots c)) × (F.build c xs ≡ x)

test_made : (t : Test) → Made form form_family (test t)
test_made (node_kind k) = (kind_c, (k, tt), refl)
test_made (datatype t) = (datatype_c, (t, tt), refl)
test_made (language_in ls) = (lang_c, (ls, tt), refl)
test_made (min_inclusive x) = (from_c, (x, tt), refl)
test_made (min_exclusive x) = (above_c, (x, tt), refl)
test_made (max_inclusive x) = (to_c, (x, tt), refl)
test_made (max_exclusive x) = (below_c, (x, tt), refl)

form_made : (x : Shape) → (x ≡ top) ⊎ Made form form_family x
form_made top = inl refl
form_made (has_shape s) = inr (shape_c, (s, tt), refl)
form_made (has_value c) = inr (is_c, (c, tt), refl)
form_made (conj φ ψ) = inr (and_c, (φ, (ψ, tt)), refl)
form_made (disj φ ψ) = inr (or_c, (φ, (ψ, tt)), refl)
form_made (neg φ) = inr (not_c, (φ, tt), refl)
form_made (test t) = inr (test_made t)
form_made (count lo hi e ψ) = inr (count_c, (lo, (hi, (e, (ψ, tt)))), refl)
form_made (for_all e ψ) = inr (all_c, (e, (ψ, tt)), refl)
form_made (equals f p) = inr (equal_c, (f, (p, tt)), refl)
form_made (disjoint f p) = inr (apart_c, (f, (p, tt)), refl)
form_made (closed ps) = inr (closed_c, (ps, tt), refl)
form_made (less_than e p) = inr (less_c, (e, (p, tt)), refl)
form_made (less_than_eq e p) = inr (lesseq_c, (e, (p, tt)), refl)
form_made (unique_lang e) = inr (onelang_c, (e, tt), refl)

path_made : (x : Path) → ((p : ℕ) × (predicate p ≡ x)) ⊎ Made path path_family x
path_made (predicate p) = inl (p, refl)
path_made (inverse e) = inr (inv_c, (e, tt), refl)
path_made (sequence d e) = inr (seq_c, (d, (e, tt)), refl)
path_made (alternative d e) = inr (alt_c, (d, (e, tt)), refl)
path_made (zero_or_more e) = inr (star_c, (e, tt), refl)
path_made (one_or_more e) = inr (plus_c, (e, tt), refl)

target-made : (x : Target) → Made target target_family x
target-made (target_node c) = (node_c, (c, tt), refl)
target-made (subjects_of p) = (subjects_c, (p, tt), refl)
target-made (objects_of p) = (objects_c, (p, tt), refl)
target-made (target_class c) = (class_c, (c, tt), refl)

-- ---- all three
module _ (s : List ℕ) (above : Book) (N : Pools above) where
  abbrev BareAt : ℕ → (k : Slot) → (Arg k → List ℕ) → (ℕ → Read (Arg k)) → Begun → Arg k → Type 0
  BareAt d k W bare n x = (at nx : ℕ) → Span s at nx (W x) → Good above d n k x → Edge s nx → (get_or s at 0 ≡ 40 → ⊥) × (bare at ≡ got x nx)

  path_view : (d : ℕ) (n : Begun) (x : Path) → ((p : ℕ) × (predicate p ≡ x)) ⊎ Made path path_family x → BareAt d path (write_path above) (link_at s above (leb max_paths n.paths)) n x ⊎ Made path path_family x
  path_view d n x (inl b) = inl (subst (λ (x : Path). BareAt d path (write_path above) (link_at s above (leb max_paths n.paths)) n x) b.1 (λ at nx. link_complete s above N d n b.0 at nx))
  path_view d n x (inr m) = inr m

  form_view : (d : ℕ) (n : Begun) (x : Shape) → (x ≡ top) ⊎ Made form form_family x → BareAt d form (write_shape above) (true_at s above (leb max_forms n.forms)) n x ⊎ Made form form_family x
  form_view d n x (inl b) = inl (subst (λ (x : Shape). BareAt d form (write_shape above) (true_at s above (leb max_forms n.forms)) n x) (sym b) (true_complete s above N d n))
  form_view d n x (inr m) = inr m

  -- with one bracket more than R
  step : (R : Readers) (d d' : ℕ) (deep : Bool) → (deep ≡ true → d ≡ 0) → (deep ≡ false → d ≡ suc d') → (deep ≡ false → Exacts s above R d') → Exacts s above (deeper s above deep R) d
  unfolding deeper
  step R d d' deep none one X =
      record {
        path_e = λ n f. family_exact s above N path path_family path_placed (write_path above) path_begun (path_rows above) R d d' deep (leb max_paths n.paths) n (link_at s above (leb max_paths n.paths)) none one X
            (λ e. record { forms = f.forms; paths = let l = leb-false max_paths n.paths e in omega arith; items = f.items })
            (λ g. lt-leb max_paths n.paths (let l = g.paths in omega arith))
            (record { bare_sound = link_sound s above N d n f; view = λ x. path_view d n x (path_made x) });
        form_e = λ n f. family_exact s above N form form_family form_placed (write_shape above) form_begun (form_rows above) R d d' deep (leb max_forms n.forms) n (true_at s above (leb max_forms n.forms)) none one X
            (λ e. record { forms = let l = leb-false max_forms n.forms e in omega arith; paths = f.paths; items = f.items })
            (λ g. lt-leb max_forms n.forms (let l = g.forms in omega arith))
            (record { bare_sound = true_sound s above N d n f; view = λ x. form_view d n x (form_made x) });
        target_e = λ n f. family_exact s above N target target_family target_placed (write_target above) (λ n. n) (target-rows above) R d d' deep false n (λ at. refused 2) none one X
            (λ e. f) (λ g. refl)
            (record { bare_sound = λ at h x nx e. absurd (never_refused e); view = λ x. inr (target-made x) });
      }

  pub readers_exact : (left : ℕ) → Exacts s above (readers_at s above left) left
  unfolding readers_at
  readers_exact zero = step (no_readers s above) 0 0 true (λ _. refl) (λ e. absurd (never_both refl e)) (λ e. absurd (never_both refl e))
  readers_exact (suc left) = step (readers_at s above left) (suc left) left false (λ e. absurd (never_both e refl)) (λ _. refl) (λ _. readers_exact left)
