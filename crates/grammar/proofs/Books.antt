-- The two statements of the grammar are one: the reading accepts a text as a book exactly when the book is valid and renders to it.
use Prim.Native.Nat.{ℕ, zero, suc, ◌+◌, ◌-◌, ◌≤◌, ◌<◌}
use mathlib.Core.Path.{◌≡◌, refl, sym, ap, ap₂, ◌∙◌, subst}
use mathlib.Core.List.{List, [], ◌∷◌, ◌++◌, append-nil, append_assoc}
use mathlib.Core.Bool.{Bool, true, false, not, cond, ◌&&◌}
use mathlib.Core.Logic.{◌⊎◌, inl, inr, ⊎_elim, ◌↔◌}
use native.Mathlib.Nat.{le_refl, eq-or-lt_of_le}
use native.Mathlib.Omega.{arith}
use lib.Dec.{eqb, ltb, leb}
use lib.ListN.{length, get_or, length-append, get_or-append}
use lib.Seq.{get_or-append_seam}
use borrow.Author.Tests.{eqb-true, ltb-false, lt-ltb, le-ltb, leb-true, le-leb, not-true}
use Rattle.base.specs.Lists.{anyb, allb}
use Rattle.base.specs.Bytes.{bytes, eql}
use Rattle.base.proofs.Bools.{bool_cases, and_left, and_right, and_both}
use Rattle.text.specs.Items.{is_name, name_byte}
use Rattle.text.specs.Spans.{Span}
use Rattle.text.proofs.Spans.{span_join, span_split, span_whole, span_all, span_nothing, span_none, span_length}
use Rattle.model.specs.Limits.{max_bytes, max_depth}
use Rattle.model.specs.Answers.{Answer, value, refusal}
use Rattle.model.specs.Books.{Name, Line, link, type, lang, node, fact, shape, rule, Book, Pool, nodes, links, types, langs, shapes, pool_number, built_in, joins, new_names, collect, names}
use Rattle.model.specs.Valid.{line_ok, admissible_from, admissible}
use Rattle.model.proofs.Lines.{names_snoc, same_pool, forms-within, paths-within, items-within}
use Rattle.model.proofs.Answers.{same-value, not_refused}
use Rattle.grammar.specs.Writing.{name_of, write_line, render_from, render}
use Rattle.grammar.specs.Valid.{line_depth, reserved, well_named, new_name, names_ok, valid_line, valid_from, valid}
use Rattle.grammar.specs.Reading.{Read, got, refused, begun_above, line_at, follow, lines_from, reading}
use Rattle.grammar.proofs.Leaves.{Pools, fresh_nothing}
use Rattle.grammar.proofs.Args.{Fit}
use Rattle.grammar.proofs.Lines.{line_sound, line_complete}

-- ---- the names of a valid book are well made and differ
pub record PoolOk (p : Pool) (ws : List Name) : Type 0 where
  pub made : (k : ℕ) → k < length ws → well_named p (get_or ws k []) ≡ true
  pub differ : (j k : ℕ) → j < k → k < length ws → get_or ws j [] ≡ get_or ws k [] → ⊥

-- one more name
pool_snoc : (p : Pool) (ws : List Name) (n : Name) → PoolOk p ws → well_named p n ≡ true → anyb (eql n) ws ≡ false → PoolOk p (ws ++ (n ∷ []))
pool_snoc p ws n P w f =
    record {
      made = λ k l. ⊎_elim
          (λ e. ap (well_named p) (ap (λ (j : ℕ). get_or (ws ++ (n ∷ [])) j []) e ∙ get_or-append_seam ws n [] []) ∙ w)
          (λ h. ap (well_named p) (get_or-append ws (n ∷ []) [] k h) ∙ P.made k h)
          (place k l);
      differ = λ j k i l q. ⊎_elim
          (λ e. fresh_nothing ws n f j (omega arith) (sym (get_or-append ws (n ∷ []) [] j (omega arith)) ∙ q ∙ ap (λ (j : ℕ). get_or (ws ++ (n ∷ [])) j []) e ∙ get_or-append_seam ws n [] []))
          (λ h. P.differ j k i h (sym (get_or-append ws (n ∷ []) [] j (omega arith)) ∙ q ∙ get_or-append ws (n ∷ []) [] k h))
          (place k l);
    }
  where
    place : (k : ℕ) → k < length (ws ++ (n ∷ [])) → (k ≡ length ws) ⊎ (k < length ws)
    place k l = eq-or-lt_of_le (let e = length-append ws (n ∷ []) in omega arith)

module _ (a : Book) (p : Pool) (P : PoolOk p (names p a)) where
  pool_joined_lem : (q : Pool) (n : Name) → new_name a q n ≡ true → PoolOk p (names p a ++ joins p q n)
  unfolding joins new_name
  pool_joined_lem q n e = bool_cases (λ t. eqb (pool_number p) (pool_number q) ≡ t → PoolOk p (names p a ++ cond t (n ∷ []) [])) (eqb (pool_number p) (pool_number q))
      (λ _ s.
      let i : q ≡ p = sym (same_pool p q (eqb-true (pool_number p) (pool_number q) s)) in
      let e' = subst (λ (r : Pool). new_name a r n ≡ true) i e in
      pool_snoc p (names p a) n P (and_left (well_named p n) (not (anyb (eql n) (names p a))) e') (not-true (anyb (eql n) (names p a)) (and_right (well_named p n) (not (anyb (eql n) (names p a))) e')))
      (λ _ _. subst (PoolOk p) (sym (append-nil (names p a))) P) refl

  line_pool : (l : Line) → names_ok a l ≡ true → PoolOk p (names p a ++ new_names p l)
  unfolding new_names names_ok
  line_pool (link n) e = pool_joined_lem links n e
  line_pool (type n) e = pool_joined_lem types n e
  line_pool (lang n) e = pool_joined_lem langs n e
  line_pool (node n t) e = pool_joined_lem nodes n e
  line_pool (fact t) e = subst (PoolOk p) (sym (append-nil (names p a))) P
  line_pool (shape n φ) e = pool_joined_lem shapes n e
  line_pool (rule r) e = subst (PoolOk p) (sym (append-nil (names p a))) P

-- one name, or none
single : (p : Pool) (n : Name) → well_named p n ≡ true → PoolOk p (n ∷ [])
single p n e = record { made = λ k l. subst (λ (j : ℕ). well_named p (get_or (n ∷ []) j []) ≡ true) (let z : 0 ≡ k = omega arith in z) e; differ = λ j k i l. absurd (omega arith) }

nothing : (p : Pool) → PoolOk p []
nothing p = record { made = λ k l. absurd (omega arith); differ = λ j k i l. absurd (omega arith) }

start_pool : (p : Pool) → PoolOk p (names p [])
unfolding names built_in collect well_named reserved is_name allb name_byte eql
start_pool nodes = nothing nodes
start_pool links = single links (bytes "a") refl
start_pool types = single types (bytes "langstring") refl
start_pool langs = nothing langs
start_pool shapes = nothing shapes

-- ---- the lines above: valid, so their names differ and their entries are within the limits
pub record Sane (a : Book) : Type 0 where
  pub valid-above : valid_from [] a ≡ true
  pub pools_above : (p : Pool) → PoolOk p (names p a)

valid-more : (a c : Book) (l : Line) → valid_from a c ≡ true → valid_line (a ++ c) l ≡ true → valid_from a (c ++ (l ∷ [])) ≡ true
unfolding valid_from
valid-more a [] l v e = and_both (valid_line a l) true (ap (λ (b : Book). valid_line b l) (sym (append-nil a)) ∙ e) refl
valid-more a (k ∷ c) l v e =
    and_both (valid_line a k) (valid_from (a ++ (k ∷ [])) (c ++ (l ∷ []))) (and_left (valid_line a k) (valid_from (a ++ (k ∷ [])) c) v)
    (valid-more (a ++ (k ∷ [])) c l (and_right (valid_line a k) (valid_from (a ++ (k ∷ [])) c) v) (ap (λ (b : Book). valid_line b l) (append_assoc a (k ∷ []) c) ∙ e))

pub sane_start : Sane []
unfolding valid_from
sane_start = record { valid-above = refl; pools_above = start_pool }

pub sane_more : (a : Book) (l : Line) → Sane a → valid_line a l ≡ true → Sane (a ++ (l ∷ []))
unfolding valid_line
sane_more a l S e =
    record {
      valid-above = valid-more [] a l S.valid-above e;
      pools_above = λ p. subst (PoolOk p) (sym (names_snoc p a l)) (line_pool a p (S.pools_above p) l (and_left (names_ok a l) (leb (line_depth l) max_depth) (and_right (line_ok a l) (names_ok a l && leb (line_depth l) max_depth) e)));
    }

-- a valid book is admissible
pub admissible-from : (a b : Book) → valid_from a b ≡ true → admissible_from a b ≡ true
unfolding valid_from admissible_from valid_line
admissible-from a [] v = refl
admissible-from a (l ∷ b) v =
    and_both (line_ok a l) (admissible_from (a ++ (l ∷ [])) b) (and_left (line_ok a l) (names_ok a l && leb (line_depth l) max_depth) (and_left (valid_line a l) (valid_from (a ++ (l ∷ [])) b) v)) (admissible-from (a ++ (l ∷ [])) b (and_right (valid_line a l) (valid_from (a ++ (l ∷ [])) b) v))

pub valid-admissible : (b : Book) → valid b ≡ true → admissible b ≡ true
unfolding valid admissible
valid-admissible b v = admissible-from [] b (and_left (valid_from [] b) (leb (length (render b)) max_bytes) v)

pub pools_of : (a : Book) → Sane a → Pools a
unfolding name_of
pools_of a S = record { named = λ p. (S.pools_above p).made; distinct = λ p. (S.pools_above p).differ }

pub fit_of : (a : Book) → Sane a → Fit (begun_above a)
unfolding begun_above admissible
fit_of a S =
    let e : admissible a ≡ true = admissible-from [] a S.valid-above in
    record { forms = forms-within a e; paths = paths-within a e; items = items-within a e }

-- ---- line after line
-- where an answer comes from
pub either : (t : Bool) (x y o : Answer Book) → cond t x y ≡ o → ((t ≡ true) × (x ≡ o)) ⊎ ((t ≡ false) × (y ≡ o))
either true x y o e = inl (refl, e)
either false x y o e = inr (refl, e)

pub follows : (line : ℕ) (m : Read Line) (f : Line → ℕ → Answer Book) (o : Answer Book) → follow line m f ≡ o → ((r : ℕ) × (m ≡ refused r) × (refusal r line ≡ o)) ⊎ ((l : Line) × (next : ℕ) × (m ≡ got l next) × (f l next ≡ o))
follows line (got l next) f o e = inr (l, next, refl, e)
follows line (refused r) f o e = inl (r, refl, e)

module _ (s : List ℕ) where
  -- the book that a position and the lines above it end in
  abbrev Rest : ℕ → Book → Book → Type 0
  Rest at a b = (c : Book) × (b ≡ a ++ c) × (valid_from a c ≡ true) × Span s at (length s) (render_from a c)

  ended : (at : ℕ) (a b : Book) → at ≤ length s → length s ≤ at → value a ≡ value b → Rest at a b
  unfolding valid_from render_from
  ended at a b h k e = ([], sym (same-value e) ∙ sym (append-nil a), refl, subst (λ (n : ℕ). Span s at n []) (let z : at ≡ length s = omega arith in z) (span_nothing s at h))

  one_more_lem : (at nx : ℕ) (a b : Book) (l : Line) → Span s at nx (write_line a l ++ (10 ∷ [])) → valid_line a l ≡ true → Rest nx (a ++ (l ∷ [])) b → Rest at a b
  unfolding valid_from render_from
  one_more_lem at nx a b l p v (c, e, w, q) = (
    l ∷ c,
    e ∙ append_assoc a (l ∷ []) c,
    and_both (valid_line a l) (valid_from (a ++ (l ∷ [])) c) v w,
    subst (λ (t : List ℕ). Span s at (length s) t) (append_assoc (write_line a l) (10 ∷ []) (render_from (a ++ (l ∷ [])) c)) (span_join p q),
  )

  pub longer : (at nx : ℕ) (w : List ℕ) → Span s at nx (w ++ (10 ∷ [])) → at < nx
  longer at nx w p = omega (arith, span_length p, length-append w (10 ∷ []), p.from)

  lines_sound : (fuel at line : ℕ) (a : Book) → Sane a → at ≤ length s → length s ≤ at + fuel → (b : Book) → lines_from s fuel at line a ≡ value b → Rest at a b
  unfolding lines_from
  lines_sound zero at line a S h f b e = ended at a b h (omega arith) e
  lines_sound (suc fuel) at line a S h f b e = ⊎_elim
      (λ t. ⊎_elim
      (λ q. absurd (not_refused (sym q.2)))
      (λ q.
      let (l, nx, r, g) = q in
      let u = line_sound s a (pools_of a S) (fit_of a S) at h l nx r in
      let m = longer at nx (write_line a l) u.0 in
      one_more_lem at nx a b l u.0 u.1 (lines_sound fuel nx (line + 1) (a ++ (l ∷ [])) (sane_more a l S u.1) u.0.within (omega arith) b g))
      (follows (line + 1) (line_at s a at) (λ l next. lines_from s fuel next (line + 1) (a ++ (l ∷ []))) (value b) t.1))
      (λ t. ended at a b h (ltb-false at (length s) t.0) t.1)
      (either (ltb at (length s)) (follow (line + 1) (line_at s a at) (λ l next. lines_from s fuel next (line + 1) (a ++ (l ∷ [])))) (value a) (value b) e)

  -- each line has a byte at least
  few-lines : (a c : Book) → length c ≤ length (render_from a c)
  unfolding render_from
  few-lines a [] = omega arith
  few-lines a (l ∷ c) = let r = few-lines (a ++ (l ∷ [])) c in omega (arith, length-append (write_line a l) (10 ∷ render_from (a ++ (l ∷ [])) c))

  -- the lines of a valid book are read one after the other
  lines_read : (c : Book) (fuel rest at nx line : ℕ) (a : Book) → Sane a → fuel ≡ rest + length c → valid_from a c ≡ true → Span s at nx (render_from a c) → lines_from s fuel at line a ≡ lines_from s rest nx (line + length c) (a ++ c)
  unfolding lines_from valid_from render_from
  lines_read [] fuel rest at nx line a S f v p =
      ap₂ (λ (n k : ℕ). lines_from s n k line a) (let z : fuel ≡ rest = omega arith in z) (span_none p) ∙ ap₂ (λ (n : ℕ) (b : Book). lines_from s rest nx n b) (let z : line ≡ line + 0 = omega arith in z) (sym (append-nil a))
  lines_read (l ∷ c) zero rest at nx line a S f v p = absurd (let z : ⊥ = omega arith in z)
  lines_read (l ∷ c) (suc fuel) rest at nx line a S f v p =
      let sp = span_split (write_line a l ++ (10 ∷ [])) (render_from (a ++ (l ∷ [])) c) (subst (λ (t : List ℕ). Span s at nx t) (sym (append_assoc (write_line a l) (10 ∷ []) (render_from (a ++ (l ∷ [])) c))) p) in
      let mid : ℕ = at + length (write_line a l ++ (10 ∷ [])) in
      let m = longer at mid (write_line a l) sp.0 in
      let w = sp.0.within in
      let ok = and_left (valid_line a l) (valid_from (a ++ (l ∷ [])) c) v in
      ap₂ (λ (t : Bool) (r : Read Line). cond t (follow (line + 1) r (λ l next. lines_from s fuel next (line + 1) (a ++ (l ∷ [])))) (value a)) (lt-ltb at (length s) (omega arith)) (line_complete s a (pools_of a S) (fit_of a S) at mid l sp.0 ok)
      ∙ lines_read c fuel rest mid nx (line + 1) (a ++ (l ∷ [])) (sane_more a l S ok) (omega arith) (and_right (valid_line a l) (valid_from (a ++ (l ∷ [])) c) v) sp.1
      ∙ ap₂ (λ (n : ℕ) (b : Book). lines_from s rest nx n b) (let z : line + 1 + length c ≡ line + suc (length c) = omega arith in z) (append_assoc a (l ∷ []) c)

  lines_end : (fuel line : ℕ) (a : Book) → lines_from s fuel (length s) line a ≡ value a
  unfolding lines_from
  lines_end zero line a = refl
  lines_end (suc fuel) line a = ap (λ (t : Bool). cond t (follow (line + 1) (line_at s a (length s)) (λ l next. lines_from s fuel next (line + 1) (a ++ (l ∷ [])))) (value a)) (le-ltb (length s) (length s) (le_refl (length s)))

  lines_complete : (c : Book) (fuel at line : ℕ) (a : Book) → Sane a → length s ≤ at + fuel → valid_from a c ≡ true → Span s at (length s) (render_from a c) → lines_from s fuel at line a ≡ value (a ++ c)
  lines_complete c fuel at line a S f v p =
      lines_read c fuel (fuel - length c) at (length s) line a S (omega (arith, few-lines a c, span_length p, p.from)) v p ∙ lines_end (fuel - length c) (line + length c) (a ++ c)

  lines_refused : (fuel at line r : ℕ) (a : Book) → 0 < fuel → at < length s → line_at s a at ≡ refused r → lines_from s fuel at line a ≡ refusal r (line + 1)
  unfolding lines_from
  lines_refused zero at line r a z h q = absurd (omega arith)
  lines_refused (suc fuel) at line r a z h q =
      ap₂ (λ (t : Bool) (m : Read Line). cond t (follow (line + 1) m (λ l next. lines_from s fuel next (line + 1) (a ++ (l ∷ [])))) (value a)) (lt-ltb at (length s) h) q

-- ---- the theorems
-- what is accepted is a valid book, written so
pub reading_sound : (s : List ℕ) (b : Book) → reading s ≡ value b → (valid b ≡ true) × (render b ≡ s)
unfolding reading valid render
reading_sound s b e = ⊎_elim
    (λ t. absurd (not_refused (sym t.1)))
    (λ t.
    let (c, q, v, p) = lines_sound s (length s) 0 0 [] sane_start (omega arith) (omega arith) b t.1 in
    let r : render_from [] b ≡ s = ap (render_from []) q ∙ sym (span_all p) in
    (and_both (valid_from [] b) (leb (length (render_from [] b)) max_bytes) (ap (valid_from []) q ∙ v) (le-leb (length (render_from [] b)) max_bytes (let l : length s ≤ max_bytes = ltb-false max_bytes (length s) t.0 in omega (arith, ap length r))), r))
    (either (ltb max_bytes (length s)) (refusal 1 0) (lines_from s (length s) 0 0 []) (value b) e)

-- and a valid book is accepted as it is written
pub reading_complete : (b : Book) → valid b ≡ true → reading (render b) ≡ value b
unfolding reading valid render
reading_complete b v =
    let s = render_from [] b in
    ap (λ (t : Bool). cond t (refusal 1 0) (lines_from (render_from [] b) (length (render_from [] b)) 0 0 [])) (le-ltb max_bytes (length (render_from [] b)) (leb-true (length (render_from [] b)) max_bytes (and_right (valid_from [] b) (leb (length (render_from [] b)) max_bytes) v)))
    ∙ lines_complete (render_from [] b) b (length (render_from [] b)) 0 0 [] sane_start (omega arith) (and_left (valid_from [] b) (leb (length (render_from [] b)) max_bytes) v) (span_whole (render_from [] b))

-- the reading accepts s as b exactly when b is valid and renders to s
pub reading_iff : (s : List ℕ) (b : Book) → (reading s ≡ value b) ↔ ((valid b ≡ true) × (render b ≡ s))
reading_iff s b = (reading_sound s b, λ p. ap reading (sym p.1) ∙ reading_complete b p.0)

-- so a text is read in one way only
pub one_book : (a b : Book) → valid a ≡ true → valid b ≡ true → render a ≡ render b → a ≡ b
one_book a b v w e = same-value (sym (reading_complete a v) ∙ ap reading e ∙ reading_complete b w)

-- and a refusal is given only where no valid book renders to s
pub refused_only : (s : List ℕ) (k line : ℕ) → reading s ≡ refusal k line → (b : Book) → valid b ≡ true → render b ≡ s → ⊥
refused_only s k line e b v r = not_refused (sym (reading_complete b v) ∙ ap reading r ∙ e)

-- after the lines of a valid book, the refusal of the next line is the text's
pub refused_after : (s : List ℕ) (b : Book) (at r : ℕ) → valid_from [] b ≡ true → Span s 0 at (render_from [] b) → at < length s → length s ≤ max_bytes → line_at s b at ≡ refused r → reading s ≡ refusal r (suc (length b))
unfolding reading
refused_after s b at r v p i l q =
    let n = few-lines s [] b in
    let m = span_length p in
    ap (λ (t : Bool). cond t (refusal 1 0) (lines_from s (length s) 0 0 [])) (le-ltb max_bytes (length s) l)
    ∙ lines_read s b (length s) (length s - length b) 0 at 0 [] sane_start (omega arith) v p
    ∙ lines_refused s (length s - length b) at (0 + length b) r b (omega arith) i q
    ∙ ap (refusal r) (let z : 0 + length b + 1 ≡ suc (length b) = omega arith in z)
