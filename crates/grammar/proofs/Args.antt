-- What stands after the word of a bracket: how it is written, what is asked of it, and that reading it is exact.
use Prim.Native.Nat.{ℕ, ◌+◌, ◌-◌, ◌≤◌, max}
use mathlib.Core.Path.{◌≡◌, refl, ap, ap₂, ◌∙◌, subst}
use mathlib.Core.List.{List, [], ◌∷◌, ◌++◌, map}
use mathlib.Core.Bool.{Bool, true, false, not, cond, ◌&&◌, ◌||◌}
use mathlib.Core.Logic.{◌⊎◌, inl, inr, ⊎_elim}
use native.Mathlib.Omega.{arith}
use lib.ListN.{length, get_or}
use lib.Seq.{slice, slice_empty}
use borrow.Author.Tests.{ltb-true, not-true}
use Rattle.base.specs.Lists.{allb}
use Rattle.base.specs.Bytes.{bytes, eql}
use Rattle.base.proofs.Bools.{and_left, and_right, and_both, never_both}
use Rattle.base.proofs.Bytes.{eql_true, eql-refl}
use Rattle.text.specs.Items.{edge, item_end, is_name}
use Rattle.text.specs.Decimals.{decimal, signed}
use Rattle.text.specs.Spans.{Span}
use Rattle.text.proofs.Spans.{span_join, span_head, span_split, span_none, span_nothing}
use Rattle.text.proofs.Items.{item_end-edge}
use Rattle.text.proofs.Words.{word-item, word-ends, item_span}
use Rattle.model.specs.Paths.{Path, predicate, inverse, sequence, alternative, zero_or_more, one_or_more, End, self, along}
use Rattle.model.specs.Books.{Book, nodes, links, types, names}
use Rattle.model.specs.Sizes.{end_entries}
use Rattle.model.specs.Valid.{defined, path_ok, end_ok}
use Rattle.model.specs.Limits.{max_forms, max_paths, max_items}
use Rattle.grammar.specs.Writing.{spaced, bracket, write_kind, write_upper, name_of, write_path, write_end, write_shape, write_target}
use Rattle.grammar.specs.Valid.{path_depth, end_depth, shape_depth, reserved, well_named}
use Rattle.grammar.specs.Syntax.{Slot, used, new, subject, literal_type, kind_word, value, low, high, path, end, form, target, list, Arg, Args}
use Rattle.grammar.specs.Reading.{Read, got, and_then, Begun, after, Readers, end_at, arg_at, args_at}
use Rattle.grammar.specs.Args.{is_list, write_arg, arg_ok}
use Rattle.grammar.proofs.Exact.{Exact, Edge, one_of, thens, got_value, got_next, edge_of, edge-inside, ends_of_lem, space_exact, exact_as}
use Rattle.grammar.proofs.Leaves.{Pools, used_exact, new_exact, subject_exact, literal_type_exact, kind_exact, value_exact, low_exact, high_exact, list_exact, named-plain}

-- ---- brackets open together
abbrev pub arg_depth : (k : Slot) → Arg k → ℕ
arg_depth (used p) a = 0
arg_depth (new p) a = 0
arg_depth subject a = 0
arg_depth literal_type a = 0
arg_depth kind_word a = 0
arg_depth value a = 0
arg_depth low a = 0
arg_depth high a = 0
arg_depth path a = path_depth a
arg_depth end a = end_depth a
arg_depth form a = shape_depth a
arg_depth target a = 1
arg_depth (list p) a = 0

abbrev pub args_depth : (ks : List Slot) → Args ks → ℕ
args_depth [] xs = 0
args_depth (k ∷ ks) xs = max (arg_depth k xs.0) (args_depth ks xs.1)

abbrev pub after_all : (ks : List Slot) → Args ks → Begun → Begun
after_all [] xs n = n
after_all (k ∷ ks) xs n = after_all ks xs.1 (after k xs.0 n)

-- the entries and items begun are within their limits
pub record Fit (n : Begun) : Type 0 where
  pub forms : n.forms ≤ max_forms
  pub paths : n.paths ≤ max_paths
  pub items : n.items ≤ max_items

-- a list is the last at its bracket
abbrev pub is_last : List Slot → Bool
is_last [] = true
is_last (k ∷ ks) = false

abbrev pub proper : List Slot → Bool
proper [] = true
proper (k ∷ ks) = (not (is_list k) || is_last ks) && proper ks

module _ (above : Book) where
  abbrev pub write_args : (ks : List Slot) → Args ks → List ℕ
  write_args [] xs = []
  write_args (k ∷ ks) xs = write_arg above k xs.0 ++ write_args ks xs.1

  abbrev pub args_ok : (ks : List Slot) → Args ks → Bool
  args_ok [] xs = true
  args_ok (k ∷ ks) xs = arg_ok above k xs.0 && args_ok ks xs.1

  -- within the depth that is left, and within the limits
  abbrev pub Good : ℕ → Begun → (k : Slot) → Arg k → Type 0
  Good d n k a = (arg_ok above k a ≡ true) × (arg_depth k a ≤ d) × Fit (after k a n)

  abbrev pub AllGood : ℕ → Begun → (ks : List Slot) → Args ks → Type 0
  AllGood d n ks xs = (args_ok ks xs ≡ true) × (args_depth ks xs ≤ d) × Fit (after_all ks xs n)

-- entries only grow
shrink : (k : Slot) (a : Arg k) (n : Begun) → Fit (after k a n) → Fit n
unfolding after
shrink (used p) a n f = f
shrink (new p) a n f = f
shrink subject a n f = f
shrink literal_type a n f = f
shrink kind_word a n f = f
shrink value a n f = f
shrink low a n f = f
shrink high a n f = f
shrink path a n f = record { forms = f.forms; paths = omega (arith, f.paths); items = f.items }
shrink end a n f = record { forms = f.forms; paths = omega (arith, f.paths); items = f.items }
shrink form a n f = record { forms = omega (arith, f.forms); paths = omega (arith, f.paths); items = omega (arith, f.items) }
shrink target a n f = f
shrink (list p) a n f = record { forms = f.forms; paths = f.paths; items = omega (arith, f.items) }

pub shrink_all : (ks : List Slot) (xs : Args ks) (n : Begun) → Fit (after_all ks xs n) → Fit n
shrink_all [] xs n f = f
shrink_all (k ∷ ks) xs n f = shrink k xs.0 n (shrink_all ks xs.1 (after k xs.0 n) f)

-- ---- what is written of a path is not `id`
link-not-id : (n : List ℕ) → well_named links n ≡ true → eql n (bytes "id") ≡ false
unfolding well_named reserved
link-not-id n w = not-true (eql n (bytes "id")) (and_right (is_name n) (not (eql n (bytes "id"))) w)

opened_not-id : (s : List ℕ) (at : ℕ) → get_or s at 0 ≡ 40 → eql (slice at (item_end s at) s) (bytes "id") ≡ false
unfolding eql edge
opened_not-id s at e =
    let h : Edge s at = edge_of s at 40 e refl in
    ap (λ (n : ℕ). eql (slice at n s) (bytes "id")) (item_end-edge s at (edge-inside s at h) h) ∙ ap (λ (w : List ℕ). eql w (bytes "id")) (slice_empty at s)

module _ (s : List ℕ) (above : Book) where
  -- what may stand after it
  abbrev pub stop_if : Bool → ℕ → Type 0
  stop_if true nx = get_or s nx 0 ≡ 41
  stop_if false nx = Edge s nx

  -- the readers of what nests are exact, with d brackets left to open
  pub record Exacts (R : Readers) (d : ℕ) : Type 0 where
    pub path_e : (n : Begun) → Fit n → Exact s (Edge s) (R.path_r n) (write_path above) (Good above d n path)
    pub form_e : (n : Begun) → Fit n → Exact s (Edge s) (R.form_r n) (write_shape above) (Good above d n form)
    pub target_e : (n : Begun) → Fit n → Exact s (Edge s) (R.target_r n) (write_target above) (Good above d n target)

  module _ (N : Pools above) (R : Readers) (d : ℕ) (X : Exacts R d) where
    -- ---- END
    link-named : (p : ℕ) → defined above links p ≡ true → well_named links (name_of above links p) ≡ true
    unfolding defined
    link-named p o = N.named links p (ltb-true p (length (names links above)) o)

    path_not-id : (e : Path) (at nx : ℕ) → Span s at nx (write_path above e) → path_ok above e ≡ true → Edge s nx → eql (slice at (item_end s at) s) (bytes "id") ≡ false
    unfolding write_path path_ok bracket
    path_not-id (predicate p) at nx q o e =
        let w = link-named p o in
        ap (λ (w : List ℕ). eql w (bytes "id")) (word-item (name_of above links p) q (named-plain links (name_of above links p) w) (ends_of_lem s nx e)) ∙ link-not-id (name_of above links p) w
    path_not-id (inverse e) at nx q o f = opened_not-id s at (span_head q).1
    path_not-id (sequence d e) at nx q o f = opened_not-id s at (span_head q).1
    path_not-id (alternative d e) at nx q o f = opened_not-id s at (span_head q).1
    path_not-id (zero_or_more e) at nx q o f = opened_not-id s at (span_head q).1
    path_not-id (one_or_more e) at nx q o f = opened_not-id s at (span_head q).1

    is_self : (n : Begun) → Fit n → (at : ℕ) → at ≤ length s → (nx : ℕ) → slice at (item_end s at) s ≡ bytes "id" → item_end s at ≡ nx → Span s at nx (write_end above self) × Good above d n end self
    unfolding write_end end_ok end_depth after end_entries
    is_self n f at h nx i j = (subst (λ (k : ℕ). Span s at k (bytes "id")) j (subst (λ (w : List ℕ). Span s at (item_end s at) w) i (item_span s at h)), (refl, omega arith, record { forms = f.forms; paths = omega (arith, f.paths); items = f.items }))

    is_path : (n : Begun) (at m nx : ℕ) (y : Path) → Span s at m (write_path above y) → Good above d n path y → m ≡ nx → Span s at nx (write_end above (along y)) × Good above d n end (along y)
    unfolding write_end end_ok end_depth after end_entries
    is_path n at m nx y p q j = (subst (λ (k : ℕ). Span s at k (write_path above y)) j p, q)

    end_sound : (n : Begun) → Fit n → (at : ℕ) → at ≤ length s → (x : End) (nx : ℕ) → end_at s above R n at ≡ got x nx → Span s at nx (write_end above x) × Good above d n end x
    unfolding end_at after
    end_sound n f at h x nx e = ⊎_elim
        (λ t. subst (λ (x : End). Span s at nx (write_end above x) × Good above d n end x) (got_value t.1) (is_self n f at h nx (eql_true (slice at (item_end s at) s) (bytes "id") t.0) (got_next t.1)))
        (λ t.
        let (y, m, r, g) = thens (R.path_r n at) (λ e next. got (along e) next) t.1 in
        let u = (X.path_e n f).sound at h y m r in
        subst (λ (x : End). Span s at nx (write_end above x) × Good above d n end x) (got_value g) (is_path n at m nx y u.0 u.1 (got_next g)))
        (one_of (eql (slice at (item_end s at) s) (bytes "id")) (got self (item_end s at)) (and_then (R.path_r n at) (λ e next. got (along e) next)) e)

    end_complete : (n : Begun) → Fit n → (at nx : ℕ) (x : End) → Span s at nx (write_end above x) → Good above d n end x → Edge s nx → end_at s above R n at ≡ got x nx
    unfolding end_at write_end end_ok end_depth after end_entries allb edge
    end_complete n f at nx self p q e =
        let i = word-item (bytes "id") p refl (ends_of_lem s nx e) in
        ap₂ (λ (w : List ℕ) (k : ℕ). cond (eql w (bytes "id")) (got self k) (and_then (R.path_r n at) (λ e next. got (along e) next))) i (word-ends (bytes "id") p refl (ends_of_lem s nx e)) ∙ ap (λ (b : Bool). cond b (got self nx) (and_then (R.path_r n at) (λ e next. got (along e) next))) (eql-refl (bytes "id"))
    end_complete n f at nx (along y) p q e =
        ap (λ (b : Bool). cond b (got self (item_end s at)) (and_then (R.path_r n at) (λ e next. got (along e) next))) (path_not-id y at nx p q.0 e)
        ∙ ap (λ (r : Read Path). and_then r (λ e next. got (along e) next)) ((X.path_e n f).complete at nx y p q e)

    -- ---- at one place
    pub arg_exact : (k : Slot) (n : Begun) → Fit n → Exact s (stop_if (is_list k)) (arg_at s above R k n) (write_arg above k) (Good above d n k)
    unfolding arg_at after
    arg_exact (used p) n f = exact_as (Good above d n (used p)) (λ a o. (o, omega arith, f)) (λ a q. q.0) (space_exact (used_exact s above N p))
    arg_exact (new p) n f = exact_as (Good above d n (new p)) (λ a o. (o, omega arith, f)) (λ a q. q.0) (space_exact (new_exact s above p))
    arg_exact subject n f = exact_as (Good above d n subject) (λ a o. (o, omega arith, f)) (λ a q. q.0) (space_exact (subject_exact s above N))
    arg_exact literal_type n f = exact_as (Good above d n literal_type) (λ a o. (o, omega arith, f)) (λ a q. q.0) (space_exact (literal_type_exact s above N))
    arg_exact kind_word n f = exact_as (Good above d n kind_word) (λ a o. (o, omega arith, f)) (λ a q. q.0) (space_exact (kind_exact s above))
    arg_exact value n f = exact_as (Good above d n value) (λ a o. (o, omega arith, f)) (λ a q. q.0) (space_exact (value_exact s above))
    arg_exact low n f = exact_as (Good above d n low) (λ a o. (o, omega arith, f)) (λ a q. q.0) (space_exact (low_exact s above))
    arg_exact high n f = exact_as (Good above d n high) (λ a o. (o, omega arith, f)) (λ a q. q.0) (space_exact (high_exact s above))
    arg_exact path n f = space_exact (X.path_e n f)
    arg_exact end n f = space_exact (record { sound = end_sound n f; complete = end_complete n f })
    arg_exact form n f = space_exact (X.form_e n f)
    arg_exact target n f = space_exact (X.target_e n f)
    arg_exact (list p) n f =
        exact_as (Good above d n (list p))
        (λ a q. (q.0, omega arith, record { forms = f.forms; paths = f.paths; items = let l = q.1 in omega (arith, f.items) }))
        (λ a q. (q.0, let l = q.2.items in omega arith))
        (list_exact s above N p (max_items - n.items))

    -- ---- one after the other
    -- a place is empty, or begins with a space
    arg_head : (k : Slot) (a : Arg k) → (write_arg above k a ≡ []) ⊎ ((w : List ℕ) × (write_arg above k a ≡ 32 ∷ w))
    unfolding spaced
    arg_head (used p) a = inr (name_of above p a, refl)
    arg_head (new p) a = inr (a, refl)
    arg_head subject a = inr (name_of above nodes a, refl)
    arg_head literal_type a = inr (name_of above types a, refl)
    arg_head kind_word a = inr (write_kind a, refl)
    arg_head value a = inr (signed a, refl)
    arg_head low a = inr (decimal a, refl)
    arg_head high a = inr (write_upper a, refl)
    arg_head path a = inr (write_path above a, refl)
    arg_head end a = inr (write_end above a, refl)
    arg_head form a = inr (write_shape above a, refl)
    arg_head target a = inr (write_target above a, refl)
    arg_head (list p) [] = inl refl
    arg_head (list p) (x ∷ a) = inr (name_of above p x ++ spaced (map (name_of above p) a), refl)

    pub args_edge : (ks : List Slot) (xs : Args ks) (mid nx : ℕ) → Span s mid nx (write_args above ks xs) → get_or s nx 0 ≡ 41 → Edge s mid
    unfolding edge
    args_edge [] xs mid nx q c = edge_of s mid 41 (ap (λ (n : ℕ). get_or s n 0) (span_none q) ∙ c) refl
    args_edge (k ∷ ks) xs mid nx q c = first (arg_head k xs.0) (λ q. args_edge ks xs.1 mid nx q c)
      where
        first : (write_arg above k xs.0 ≡ []) ⊎ ((w : List ℕ) × (write_arg above k xs.0 ≡ 32 ∷ w)) → (Span s mid nx (write_args above ks xs.1) → Edge s mid) → Edge s mid
        first (inl e) rest = rest (subst (λ (w : List ℕ). Span s mid nx (w ++ write_args above ks xs.1)) e q)
        first (inr e) rest = edge_of s mid 32 (span_head (subst (λ (w : List ℕ). Span s mid nx (w ++ write_args above ks xs.1)) e.1 q)).1 refl

    -- what stands after the first place is what may stand there
    first-stop : (k : Slot) (ks : List Slot) (xs : Args ks) (mid nx : ℕ) → (not (is_list k) || is_last ks) ≡ true → Span s mid nx (write_args above ks xs) → get_or s nx 0 ≡ 41 → stop_if (is_list k) mid
    first-stop k ks xs mid nx o q c = go (is_list k) ks xs o q
      where
        go : (b : Bool) (ks : List Slot) (xs : Args ks) → (not b || is_last ks) ≡ true → Span s mid nx (write_args above ks xs) → stop_if b mid
        go true [] xs o q = ap (λ (n : ℕ). get_or s n 0) (span_none q) ∙ c
        go true (k ∷ ks) xs o q = absurd (never_both o refl)
        go false ks xs o q = args_edge ks xs mid nx q c

    pub args_sound : (ks : List Slot) (n : Begun) → Fit n → (at : ℕ) → at ≤ length s → (xs : Args ks) (nx : ℕ) → args_at s above R ks n at ≡ got xs nx → Span s at nx (write_args above ks xs) × AllGood above d n ks xs
    unfolding args_at
    args_sound [] n f at h xs nx e = (subst (λ (k : ℕ). Span s at k []) (got_next e) (span_nothing s at h), (refl, omega arith, f))
    args_sound (k ∷ ks) n f at h xs nx e =
        let (a, m, r, g) = thens (arg_at s above R k n at) (λ a next. and_then (args_at s above R ks (after k a n) next) (λ xs last. got (a, xs) last)) e in
        let (ys, l, r', g') = thens (args_at s above R ks (after k a n) m) (λ xs last. got (a, xs) last) g in
        let u = (arg_exact k n f).sound at h a m r in
        let v = args_sound ks (after k a n) u.1.2 m u.0.within ys l r' in
        let dk = u.1.1 in
        let dks = v.1.1 in
        subst (λ (xs : Args (k ∷ ks)). Span s at nx (write_args above (k ∷ ks) xs) × AllGood above d n (k ∷ ks) xs) (got_value g')
        (subst (λ (j : ℕ). Span s at j (write_arg above k a ++ write_args above ks ys)) (got_next g') (span_join u.0 v.0), (and_both (arg_ok above k a) (args_ok above ks ys) u.1.0 v.1.0, omega arith, v.1.2))

    pub args_complete : (ks : List Slot) (n : Begun) → proper ks ≡ true → (at nx : ℕ) (xs : Args ks) → Span s at nx (write_args above ks xs) → AllGood above d n ks xs → get_or s nx 0 ≡ 41 → args_at s above R ks n at ≡ got xs nx
    unfolding args_at
    args_complete [] n o at nx xs p q c = ap (got tt) (span_none p)
    args_complete (k ∷ ks) n o at nx xs p q c =
        let sp = span_split (write_arg above k xs.0) (write_args above ks xs.1) p in
        let mid : ℕ = at + length (write_arg above k xs.0) in
        let fit : Fit (after k xs.0 n) = shrink_all ks xs.1 (after k xs.0 n) q.2 in
        let dd = q.1 in
        ap (λ (r : Read (Arg k)). and_then r (λ a next. and_then (args_at s above R ks (after k a n) next) (λ xs last. got (a, xs) last)))
        ((arg_exact k n (shrink k xs.0 n fit)).complete at mid xs.0 sp.0 (and_left (arg_ok above k xs.0) (args_ok above ks xs.1) q.0, omega arith, fit) (first-stop k ks xs.1 mid nx (and_left (not (is_list k) || is_last ks) (proper ks) o) sp.1 c))
        ∙ ap (λ (r : Read (Args ks)). and_then r (λ ys last. got (xs.0, ys) last)) (args_complete ks (after k xs.0 n) (and_right (not (is_list k) || is_last ks) (proper ks) o) mid nx xs.1 sp.1 (and_right (arg_ok above k xs.0) (args_ok above ks xs.1) q.0, omega arith, q.2) c)
