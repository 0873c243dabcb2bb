-- The readers of single items and of lists are exact.
use Prim.Native.Nat.{ℕ, zero, suc, ◌+◌, ◌≤◌, ◌<◌}
use mathlib.Core.Path.{◌≡◌, refl, sym, ap, ap₂, ◌∙◌, subst}
use mathlib.Core.List.{List, [], ◌∷◌, map}
use mathlib.Core.Bool.{Bool, true, false, not, cond, ◌&&◌, ◌||◌}
use mathlib.Core.Logic.{⊎_elim}
use native.Mathlib.Omega.{arith}
use lib.Dec.{eqb, leb}
use lib.ListN.{length, get_or}
use lib.IntN.{ℤ}
use borrow.Author.Tests.{eqb-true, ltb-true, lt-ltb, le-leb, leb-true, not-true}
use Rattle.base.specs.Range.{in_range}
use Rattle.base.specs.Lists.{anyb, allb}
use Rattle.base.specs.Bytes.{bytes, eql}
use Rattle.base.proofs.Bools.{and_left, and_right, and_both, never_both, bool_cases}
use Rattle.base.proofs.Bytes.{eql_true, eql-refl}
use Rattle.text.specs.Items.{edge, is_name}
use Rattle.text.specs.Decimals.{number_of, bound_of, decimal, signed, digit}
use Rattle.text.specs.Pool.{index_of, first_from}
use Rattle.text.specs.Spans.{Span}
use Rattle.text.proofs.Spans.{span_join, span_byte, span_head, span_split, span_none, span_nothing}
use Rattle.text.proofs.Words.{plain, names-plain}
use Rattle.text.proofs.Places.{NoneOf, index_at, index_nothing}
use Rattle.text.proofs.Inverse.{number-value, bound-value, decimal-digits, decimal-plain, signed-plain}
use Rattle.model.specs.Graph.{iri, lang_string}
use Rattle.model.specs.Shapes.{Kind, an_iri, a_blank, a_literal, Upper, at_most, unbounded}
use Rattle.model.specs.Books.{Name, Book, Pool, nodes, types, names, collect, new_terms}
use Rattle.model.specs.Valid.{defined, has_room, is_resource, upper_ok}
use Rattle.model.specs.Limits.{max_count}
use Rattle.grammar.specs.Writing.{name_of, write_kind, write_upper, spaced}
use Rattle.grammar.specs.Valid.{reserved, well_named, new_name}
use Rattle.grammar.specs.Reading.{Read, got, refused, and_then, known, unknown, used_at, new_at, subject_at, literal_type_at, kind_numbered, kind_at, valued, value_at, bounded, low_at, high_at, list_at}
use Rattle.grammar.proofs.Exact.{Exact, Edge, never_refused, passes, one_of, thens, got_value, got_next, edge_of, item_exact, check_exact, exact_as}
use Rattle.std.specs.Prelude.{Option, Some, None}
use Rattle.std.specs.Prelude.{Result, Ok, Err}
use Rattle.text.specs.declared.NumberError.{NumberError}
use Rattle.text.specs.declared.NumberError.TheVariants.{Malformed, Range}

-- the names of each pool are well made and differ
pub record Pools (above : Book) : Type 0 where
  pub named : (p : Pool) (k : ℕ) → k < length (names p above) → well_named p (name_of above p k) ≡ true
  pub distinct : (p : Pool) (j k : ℕ) → j < k → k < length (names p above) → name_of above p j ≡ name_of above p k → ⊥

-- a name is new exactly where the search finds nothing
pub fresh_nothing : (ws : List (List ℕ)) (w : List ℕ) → anyb (eql w) ws ≡ false → NoneOf (λ k. get_or ws k []) (length ws) w
unfolding anyb
fresh_nothing [] w e j l q = absurd (omega arith)
fresh_nothing (x ∷ ws) w e zero l q = never_both (ap (λ (b : Bool). b || anyb (eql w) ws) (ap (eql w) q ∙ eql-refl w)) e
fresh_nothing (x ∷ ws) w e (suc j) l q = fresh_nothing ws w (later (eql w x) (anyb (eql w) ws) e) j (omega arith) q
  where
    later : (a b : Bool) → (a || b) ≡ false → b ≡ false
    later true b e = absurd (never_both refl e)
    later false b e = e

pub nothing_fresh : (ws : List (List ℕ)) (w : List ℕ) → NoneOf (λ k. get_or ws k []) (length ws) w → anyb (eql w) ws ≡ false
unfolding anyb
nothing_fresh [] w n = refl
nothing_fresh (x ∷ ws) w n = ap₂ (λ (a b : Bool). a || b) (bool_cases (λ b. eql w x ≡ b → b ≡ false) (eql w x) (λ e f. absurd (n 0 (omega arith) (sym (eql_true w x f)))) (λ _ _. refl) refl) (nothing_fresh ws w (λ j l q. n (suc j) (omega arith) q))

pub named-plain : (p : Pool) (n : Name) → well_named p n ≡ true → allb plain n ≡ true
unfolding well_named
named-plain p n e = names-plain n (and_left (is_name n) (not (reserved p n)) e)

kind-found : (s : List ℕ) (above : Book) (k : Kind) (e : ℕ) → kind_numbered s above (index_of (map write_kind (an_iri ∷ a_blank ∷ a_literal ∷ [])) (write_kind k)) e ≡ got k e
unfolding write_kind index_of first_from eql
kind-found s above an_iri e = refl
kind-found s above a_blank e = refl
kind-found s above a_literal e = refl

kind-plain : (k : Kind) → allb plain (write_kind k) ≡ true
unfolding write_kind allb edge
kind-plain an_iri = refl
kind-plain a_blank = refl
kind-plain a_literal = refl

-- no decimal is a star
no-star : (n : ℕ) → eql (decimal n) (bytes "*") ≡ false
unfolding allb digit
no-star n = bool_cases (λ b. eql (decimal n) (bytes "*") ≡ b → b ≡ false) (eql (decimal n) (bytes "*")) (λ _ e. sym (decimal-digits n) ∙ ap (allb digit) (eql_true (decimal n) (bytes "*") e)) (λ _ _. refl) refl

upper_plain : (u : Upper) → allb plain (write_upper u) ≡ true
unfolding write_upper allb edge
upper_plain (at_most n) = decimal-plain n
upper_plain unbounded = refl

module _ (s : List ℕ) (above : Book) where
  known_at : (r : Option ℕ) (e k nx : ℕ) → known s above r e ≡ got k nx → (r ≡ Some k) × (e ≡ nx)
  known_at (Some j) e k nx q = (ap Some (got_value q), got_next q)
  known_at None e k nx q = absurd (never_refused q)

  unknown-at : (r : Option ℕ) (y : Read Name) (n : Name) (nx : ℕ) → unknown s above r y ≡ got n nx → (r ≡ None) × (y ≡ got n nx)
  unknown-at (Some j) y n nx q = absurd (never_refused q)
  unknown-at None y n nx q = (refl, q)

  -- ---- a name that is defined above
  -- what is accepted is one of the pool's names
  pub used_only : (p : Pool) (w : List ℕ) (e k nx : ℕ) → cond (well_named p w) (known s above (index_of (names p above) w) e) (refused 2) ≡ got k nx → (w ≡ name_of above p k) × (e ≡ nx) × (defined above p k ≡ true)
  unfolding defined name_of
  used_only p w e k nx q =
      let t = passes (well_named p w) 2 (known s above (index_of (names p above) w) e) q in
      let u = known_at (index_of (names p above) w) e k nx t.1 in
      let f = (index_at (names p above) w k).0 u.0 in
      (sym f.1, u.1, lt-ltb k (length (names p above)) f.0)

  module _ (N : Pools above) where
    pub used_exact : (p : Pool) → Exact s (Edge s) (used_at s above p) (name_of above p) (λ k. defined above p k ≡ true)
    unfolding used_at defined name_of
    used_exact p = item_exact s (λ w e. cond (well_named p w) (known s above (index_of (names p above) w) e) (refused 2)) (name_of above p) (λ k. defined above p k ≡ true)
        (used_only p)
        (λ k d e.
        let l : k < length (names p above) = ltb-true k (length (names p above)) d in
        ap₂ (λ (b : Bool) (r : Option ℕ). cond b (known s above r e) (refused 2)) (N.named p k l) ((index_at (names p above) (name_of above p k) k).1 (l, refl, λ j h q. N.distinct p j k h l q)))
        (λ k d. named-plain p (name_of above p k) (N.named p k (ltb-true k (length (names p above)) d)))

  -- ---- a new name
  pub new_exact : (p : Pool) → Exact s (Edge s) (new_at s above p) (λ n. n) (λ n. (new_name above p n && has_room above p) ≡ true)
  unfolding new_at new_name
  new_exact p = item_exact s (λ w e. cond (well_named p w) (unknown s above (index_of (names p above) w) (cond (has_room above p) (got w e) (refused 7))) (refused 2)) (λ n. n) (λ n. (new_name above p n && has_room above p) ≡ true)
      (λ w e n nx q.
      let t = passes (well_named p w) 2 (unknown s above (index_of (names p above) w) (cond (has_room above p) (got w e) (refused 7))) q in
      let u = unknown-at (index_of (names p above) w) (cond (has_room above p) (got w e) (refused 7)) n nx t.1 in
      let v = passes (has_room above p) 7 (got w e) u.1 in
      let i : w ≡ n = got_value v.1 in
      (i, got_next v.1, subst (λ (m : Name). (new_name above p m && has_room above p) ≡ true) i (and_both (new_name above p w) (has_room above p) (and_both (well_named p w) (not (anyb (eql w) (names p above))) t.0 (ap not (nothing_fresh (names p above) w ((index_nothing (names p above) w).0 u.0)))) v.0)))
      (λ n d e.
      let a = and_left (new_name above p n) (has_room above p) d in
      ap₂ (λ (b : Bool) (r : Option ℕ). cond b (unknown s above r (cond (has_room above p) (got n e) (refused 7))) (refused 2)) (and_left (well_named p n) (not (anyb (eql n) (names p above))) a) ((index_nothing (names p above) n).1 (fresh_nothing (names p above) n (not-true (anyb (eql n) (names p above)) (and_right (well_named p n) (not (anyb (eql n) (names p above))) a))))
      ∙ ap (λ (b : Bool). cond b (got n e) (refused 7)) (and_right (new_name above p n) (has_room above p) d))
      (λ n d. named-plain p n (and_left (well_named p n) (not (anyb (eql n) (names p above))) (and_left (new_name above p n) (has_room above p) d)))

  -- ---- a subject, a literal's datatype
  module _ (N : Pools above) where
    pub subject_exact : Exact s (Edge s) (subject_at s above) (name_of above nodes) (λ v. (defined above nodes v && is_resource (get_or (collect new_terms above) v iri)) ≡ true)
    unfolding subject_at
    subject_exact = exact_as (λ v. (defined above nodes v && is_resource (get_or (collect new_terms above) v iri)) ≡ true) (λ v q. and_both (defined above nodes v) (is_resource (get_or (collect new_terms above) v iri)) q.0 q.1) (λ v q. (and_left (defined above nodes v) (is_resource (get_or (collect new_terms above) v iri)) q, and_right (defined above nodes v) (is_resource (get_or (collect new_terms above) v iri)) q)) (check_exact (λ v. is_resource (get_or (collect new_terms above) v iri)) 2 (used_exact N nodes))

    pub literal_type_exact : Exact s (Edge s) (literal_type_at s above) (name_of above types) (λ t. (defined above types t && not (eqb t lang_string)) ≡ true)
    unfolding literal_type_at
    literal_type_exact = exact_as (λ t. (defined above types t && not (eqb t lang_string)) ≡ true) (λ t q. and_both (defined above types t) (not (eqb t lang_string)) q.0 q.1) (λ t q. (and_left (defined above types t) (not (eqb t lang_string)) q, and_right (defined above types t) (not (eqb t lang_string)) q)) (check_exact (λ t. not (eqb t lang_string)) 2 (used_exact N types))

  -- ---- kinds, numbers, counts
  kind-at : (w : List ℕ) (r : Option ℕ) → r ≡ index_of (map write_kind (an_iri ∷ a_blank ∷ a_literal ∷ [])) w → (e : ℕ) (k : Kind) (nx : ℕ) → kind_numbered s above r e ≡ got k nx → (w ≡ write_kind k) × (e ≡ nx)
  kind-at w (Some j) r e k nx q =
      let f = (index_at (map write_kind (an_iri ∷ a_blank ∷ a_literal ∷ [])) w j).0 (sym r) in
      (sym f.1 ∙ three j f.0 ∙ ap write_kind (got_value q), got_next q)
    where
      three : (j : ℕ) → j < 3 → get_or (map write_kind (an_iri ∷ a_blank ∷ a_literal ∷ [])) j [] ≡ write_kind (get_or (an_iri ∷ a_blank ∷ a_literal ∷ []) j a_literal)
      three zero l = refl
      three (suc zero) l = refl
      three (suc (suc zero)) l = refl
      three (suc (suc (suc j))) l = absurd (omega arith)
  kind-at w None r e k nx q = absurd (never_refused q)

  pub kind_exact : Exact s (Edge s) (kind_at s above) write_kind (λ k. true ≡ true)
  unfolding kind_at
  kind_exact = item_exact s (λ w e. kind_numbered s above (index_of (map write_kind (an_iri ∷ a_blank ∷ a_literal ∷ [])) w) e) write_kind (λ k. true ≡ true)
      (λ w e k nx q. let u = kind-at w (index_of (map write_kind (an_iri ∷ a_blank ∷ a_literal ∷ [])) w) refl e k nx q in (u.0, u.1, refl))
      (λ k _ e. kind-found s above k e)
      (λ k _. kind-plain k)

  pub value_exact : Exact s (Edge s) (value_at s above) signed (λ x. in_range x ≡ true)
  unfolding value_at
  value_exact = item_exact s (λ w e. valued s above (number_of w) e) signed (λ x. in_range x ≡ true)
      (λ w e x nx q. let u = value-at (number_of w) e x nx q in let v = (number-value w x).0 u.0 in (v.0, u.1, v.1))
      (λ x d e. ap (λ (r : Result ℤ NumberError). valued s above r e) ((number-value (signed x) x).1 (refl, d)))
      (λ x d. signed-plain x)
    where
      value-at : (r : Result ℤ NumberError) (e : ℕ) (x : ℤ) (nx : ℕ) → valued s above r e ≡ got x nx → (r ≡ Ok x) × (e ≡ nx)
      value-at (Err Malformed) e x nx q = absurd (never_refused q)
      value-at (Err Range) e x nx q = absurd (never_refused q)
      value-at (Ok y) e x nx q = (ap Ok (got_value q), got_next q)

  bound_at : (r : Result ℕ NumberError) (e n nx : ℕ) → bounded s above r e ≡ got n nx → (r ≡ Ok n) × (e ≡ nx)
  bound_at (Err Malformed) e n nx q = absurd (never_refused q)
  bound_at (Err Range) e n nx q = absurd (never_refused q)
  bound_at (Ok m) e n nx q = (ap Ok (got_value q), got_next q)

  pub low_exact : Exact s (Edge s) (low_at s above) decimal (λ n. leb n max_count ≡ true)
  unfolding low_at
  low_exact = item_exact s (λ w e. bounded s above (bound_of w) e) decimal (λ n. leb n max_count ≡ true)
      (λ w e n nx q. let u = bound_at (bound_of w) e n nx q in let v = (bound-value w n).0 u.0 in (v.0, u.1, le-leb n max_count v.1))
      (λ n d e. ap (λ (r : Result ℕ NumberError). bounded s above r e) ((bound-value (decimal n) n).1 (refl, leb-true n max_count d)))
      (λ n d. decimal-plain n)

  high-at : (w : List ℕ) (e : ℕ) (u : Upper) (nx : ℕ) → cond (eql w (bytes "*")) (got unbounded e) (and_then (bounded s above (bound_of w) e) (λ n next. got (at_most n) next)) ≡ got u nx → (w ≡ write_upper u) × (e ≡ nx) × (upper_ok u ≡ true)
  unfolding write_upper upper_ok
  high-at w e u nx q = ⊎_elim
      (λ t. let i : unbounded ≡ u = got_value t.1 in (eql_true w (bytes "*") t.0 ∙ ap write_upper i, got_next t.1, ap upper_ok (sym i)))
      (λ t.
      let (n, m, r, g) = thens (bounded s above (bound_of w) e) (λ n next. got (at_most n) next) t.1 in
      let b = bound_at (bound_of w) e n m r in
      let v = (bound-value w n).0 b.0 in
      let i : at_most n ≡ u = got_value g in
      (v.0 ∙ ap write_upper i, b.1 ∙ got_next g, ap upper_ok (sym i) ∙ le-leb n max_count v.1))
      (one_of (eql w (bytes "*")) (got unbounded e) (and_then (bounded s above (bound_of w) e) (λ n next. got (at_most n) next)) q)

  high-gives : (u : Upper) → upper_ok u ≡ true → (e : ℕ) → cond (eql (write_upper u) (bytes "*")) (got unbounded e) (and_then (bounded s above (bound_of (write_upper u)) e) (λ n next. got (at_most n) next)) ≡ got u e
  unfolding write_upper upper_ok eql
  high-gives (at_most n) d e = ap₂ (λ (b : Bool) (r : Result ℕ NumberError). cond b (got unbounded e) (and_then (bounded s above r e) (λ n next. got (at_most n) next))) (no-star n) ((bound-value (decimal n) n).1 (refl, leb-true n max_count d))
  high-gives unbounded d e = refl

  pub high_exact : Exact s (Edge s) (high_at s above) write_upper (λ u. upper_ok u ≡ true)
  unfolding high_at low_at
  high_exact = item_exact s (λ w e. cond (eql w (bytes "*")) (got unbounded e) (and_then (bounded s above (bound_of w) e) (λ n next. got (at_most n) next))) write_upper (λ u. upper_ok u ≡ true)
      high-at high-gives (λ u d. upper_plain u)

  -- ---- a list of names: with a closing bracket after it
  module _ (N : Pools above) (p : Pool) where
    abbrev Listed : ℕ → List ℕ → Type 0
    Listed room ks = (allb (defined above p) ks ≡ true) × (length ks ≤ room)

    list_sound : (room at : ℕ) → at ≤ length s → (ks : List ℕ) (nx : ℕ) → list_at s above p room at ≡ got ks nx → Span s at nx (spaced (map (name_of above p) ks)) × Listed room ks
    unfolding list_at spaced allb
    list_sound zero at h ks nx e = ⊎_elim
        (λ t. let (k, m, r, g) = thens (used_at s above p (at + 1)) (λ k next. refused 7) t.1 in absurd (never_refused g))
        (λ t.
        let i : [] ≡ ks = got_value t.1 in
        subst (λ (ks : List ℕ). Span s at nx (spaced (map (name_of above p) ks)) × Listed 0 ks) i (subst (λ (n : ℕ). Span s at n []) (got_next t.1) (span_nothing s at h), (refl, omega arith)))
        (one_of (eqb (get_or s at 0) 32) (and_then (used_at s above p (at + 1)) (λ k next. refused 7)) (got [] at) e)
    list_sound (suc room) at h ks nx e = ⊎_elim
        (λ t.
        let sp = span_byte s at 31 (eqb-true (get_or s at 0) 32 t.0) in
        let (k, m, r, g) = thens (used_at s above p (at + 1)) (λ k next. and_then (list_at s above p room next) (λ ks last. got (k ∷ ks) last)) t.1 in
        let u = (used_exact N p).sound (at + 1) sp.within k m r in
        let (js, l, r', g') = thens (list_at s above p room m) (λ ks last. got (k ∷ ks) last) g in
        let v = list_sound room m u.0.within js l r' in
        let i : k ∷ js ≡ ks = got_value g' in
        let len = v.1.1 in
        subst (λ (ks : List ℕ). Span s at nx (spaced (map (name_of above p) ks)) × Listed (suc room) ks) i
        (subst (λ (n : ℕ). Span s at n (spaced (map (name_of above p) (k ∷ js)))) (got_next g') (span_join sp (span_join u.0 v.0)), (and_both (defined above p k) (allb (defined above p) js) u.1 v.1.0, omega arith)))
        (λ t.
        let i : [] ≡ ks = got_value t.1 in
        subst (λ (ks : List ℕ). Span s at nx (spaced (map (name_of above p) ks)) × Listed (suc room) ks) i (subst (λ (n : ℕ). Span s at n []) (got_next t.1) (span_nothing s at h), (refl, omega arith)))
        (one_of (eqb (get_or s at 0) 32) (and_then (used_at s above p (at + 1)) (λ k next. and_then (list_at s above p room next) (λ ks last. got (k ∷ ks) last))) (got [] at) e)

    list_edge : (ks : List ℕ) (mid nx : ℕ) → Span s mid nx (spaced (map (name_of above p) ks)) → get_or s nx 0 ≡ 41 → Edge s mid
    unfolding spaced edge
    list_edge [] mid nx q c = edge_of s mid 41 (ap (λ (n : ℕ). get_or s n 0) (span_none q) ∙ c) refl
    list_edge (k ∷ ks) mid nx q c = edge_of s mid 32 (span_head q).1 refl

    list_complete : (room at nx : ℕ) (ks : List ℕ) → Span s at nx (spaced (map (name_of above p) ks)) → Listed room ks → get_or s nx 0 ≡ 41 → list_at s above p room at ≡ got ks nx
    unfolding list_at spaced allb
    list_complete zero at nx [] q d c = ap₂ (λ (b : Bool) (n : ℕ). cond b (and_then (used_at s above p (at + 1)) (λ k next. refused 7)) (got [] n)) (ap (λ (x : ℕ). eqb x 32) (ap (λ (n : ℕ). get_or s n 0) (span_none q) ∙ c)) (span_none q)
    list_complete zero at nx (k ∷ ks) q d c = absurd (let l = d.1 in omega arith)
    list_complete (suc room) at nx [] q d c = ap₂ (λ (b : Bool) (n : ℕ). cond b (and_then (used_at s above p (at + 1)) (λ k next. and_then (list_at s above p room next) (λ ks last. got (k ∷ ks) last))) (got [] n)) (ap (λ (x : ℕ). eqb x 32) (ap (λ (n : ℕ). get_or s n 0) (span_none q) ∙ c)) (span_none q)
    list_complete (suc room) at nx (k ∷ ks) q d c =
        let h = span_head q in
        let sp = span_split (name_of above p k) (spaced (map (name_of above p) ks)) h.2 in
        let mid : ℕ = at + 1 + length (name_of above p k) in
        let l = d.1 in
        ap (λ (b : Bool). cond b (and_then (used_at s above p (at + 1)) (λ k next. and_then (list_at s above p room next) (λ ks last. got (k ∷ ks) last))) (got [] at)) (ap (λ (x : ℕ). eqb x 32) h.1)
        ∙ ap (λ (r : Read ℕ). and_then r (λ k next. and_then (list_at s above p room next) (λ ks last. got (k ∷ ks) last))) ((used_exact N p).complete (at + 1) mid k sp.0 (and_left (defined above p k) (allb (defined above p) ks) d.0) (list_edge ks mid nx sp.1 c))
        ∙ ap (λ (r : Read (List ℕ)). and_then r (λ ks last. got (k ∷ ks) last)) (list_complete room mid nx ks sp.1 (and_right (defined above p k) (allb (defined above p) ks) d.0, omega arith) c)

    pub list_exact : (room : ℕ) → Exact s (λ nx. get_or s nx 0 ≡ 41) (list_at s above p room) (λ ks. spaced (map (name_of above p) ks)) (Listed room)
    list_exact room = record { sound = list_sound room; complete = λ at nx ks q d c. list_complete room at nx ks q d c }
