-- No refusal is given without its ground.
use Prim.Native.Nat.{ℕ, zero, suc, ◌+◌, ◌≤◌, ◌<◌}
use mathlib.Core.Path.{◌≡◌, refl, sym, ap, ◌∙◌, subst}
use mathlib.Core.List.{List, [], ◌∷◌, ◌++◌, append-nil, append_assoc}
use mathlib.Core.Bool.{Bool, true, cond}
use mathlib.Core.Logic.{◌⊎◌, inl, inr, ⊎_elim, ◌↔◌}
use native.Mathlib.Omega.{arith}
use lib.Dec.{ltb}
use lib.ListN.{length, length-append}
use borrow.Author.Tests.{ltb-true, ltb-false, lt-ltb}
use Rattle.base.proofs.Bools.{and_left, and_right}
use Rattle.text.specs.Spans.{Span}
use Rattle.text.proofs.Spans.{span_join, span_split, span_none, span_nothing, span_whole}
use Rattle.model.specs.Answers.{value, refusal}
use Rattle.model.specs.Limits.{max_bytes}
use Rattle.model.specs.Books.{Line, Book}
use Rattle.model.proofs.Answers.{same_refusal, not_refused}
use Rattle.grammar.specs.Writing.{write_line, render_from, render}
use Rattle.grammar.specs.Valid.{valid_line, valid_from}
use Rattle.grammar.specs.Reading.{got, refused, line_at, follow, lines_from, reading}
use Rattle.grammar.specs.Grounds.{Grounded, NoneBegins, Agree, stop}
use Rattle.grammar.proofs.Exact.{never_refused, got_value, got_next}
use Rattle.grammar.proofs.Lines.{line_sound, line_complete}
use Rattle.grammar.proofs.Books.{Sane, sane_start, sane_more, pools_of, fit_of, either, follows, longer}
use Rattle.grammar.proofs.GroundsLocal.{agree_less, agree-inside, stop-past}
use Rattle.grammar.proofs.Grounds.{ground-numbered}
use Rattle.grammar.proofs.GroundsReaders.{line-settled}

-- one more line
render_snoc : (a b : Book) (l : Line) → render_from a (b ++ (l ∷ [])) ≡ render_from a b ++ (write_line (a ++ b) l ++ (10 ∷ []))
unfolding render_from
render_snoc a [] l = ap (λ (c : Book). write_line c l ++ (10 ∷ [])) (sym (append-nil a))
render_snoc a (k ∷ b) l =
    ap (λ (w : List ℕ). write_line a k ++ (10 ∷ w)) (render_snoc (a ++ (k ∷ [])) b l ∙ ap (λ (c : Book). render_from (a ++ (k ∷ [])) b ++ (write_line c l ++ (10 ∷ []))) (append_assoc a (k ∷ []) b))
    ∙ sym (append_assoc (write_line a k) (10 ∷ render_from (a ++ (k ∷ [])) b) (write_line (a ++ (k ∷ b)) l ++ (10 ∷ [])))

module _ (s : List ℕ) where
  -- from `at` on, after the book a: no text that agrees with s up to e goes on as valid lines
  abbrev NoneFrom : ℕ → Book → ℕ → Type 0
  NoneFrom at a e = (t : List ℕ) → Agree e t s → (c : Book) → valid_from a c ≡ true → Span t at (length t) (render_from a c) → ⊥

  -- a text that agrees with s up to where s goes on has lines there, and its next one is read as a valid line
  goes_on : (at e : ℕ) (a : Book) → Sane a → at < length s → at < e → ((t : List ℕ) → Agree e t s → (l : Line) (nx : ℕ) → line_at t a at ≡ got l nx → (c : Book) → valid_from (a ++ (l ∷ [])) c ≡ true → Span t nx (length t) (render_from (a ++ (l ∷ [])) c) → ⊥) → NoneFrom at a e
  unfolding valid_from render_from
  goes_on at e a S h k f t g [] v p = let z = span_none p in let i = agree-inside e at t s k h g in omega arith
  goes_on at e a S h k f t g (l ∷ c) v p =
      let sp = span_split (write_line a l ++ (10 ∷ [])) (render_from (a ++ (l ∷ [])) c) (subst (λ (w : List ℕ). Span t at (length t) w) (sym (append_assoc (write_line a l) (10 ∷ []) (render_from (a ++ (l ∷ [])) c))) p) in
      let nx : ℕ = at + length (write_line a l ++ (10 ∷ [])) in
      f t g l nx (line_complete t a (pools_of a S) (fit_of a S) at nx l sp.0 (and_left (valid_line a l) (valid_from (a ++ (l ∷ [])) c) v)) c (and_right (valid_line a l) (valid_from (a ++ (l ∷ [])) c) v) sp.1

  lines_grounds : (fuel at line : ℕ) (a : Book) → Sane a → at ≤ length s → Span s 0 at (render_from [] a) → length a ≡ line → (r k : ℕ) → lines_from s fuel at line a ≡ refusal r k → (G : Grounded s r k) × (at ≤ G.place) × NoneFrom at a (stop s G.place)
  unfolding lines_from
  lines_grounds zero at line a S h w n r k e = absurd (not_refused e)
  lines_grounds (suc fuel) at line a S h w n r k e = ⊎_elim
      (λ t. ⊎_elim
      (λ u.
      let (j, z) = same_refusal u.2 in
      let q : line_at s a at ≡ refused r = u.1 ∙ ap refused j in
      let (p, g, lt, f) = (line-settled s a at (pools_of a S) (fit_of a S) h).ground r q in
      let i = (ground-numbered s a at g).from in (
        record { above = a; counted = omega arith; right = S.valid-above; at = at; written = w; refuses = q; place = p; inside = i; ground = g },
        i,
        goes_on at (stop s p) a S (ltb-true at (length s) t.0) lt (λ t a l nx q _ _ _. never_refused (sym (f t a) ∙ q)),
      ))
      (λ u.
      let (l, nx, q, d) = u in
      let v = line_sound s a (pools_of a S) (fit_of a S) at h l nx q in
      let m = longer s at nx (write_line a l) v.0 in
      let (G, i, none) = lines_grounds fuel nx (line + 1) (a ++ (l ∷ [])) (sane_more a l S v.1) v.0.within (subst (λ (x : List ℕ). Span s 0 nx x) (sym (render_snoc [] a l)) (span_join w v.0)) (omega (arith, length-append a (l ∷ []))) r k d in
      let o = stop-past s G.place in
      let (_, f) = (line-settled s a at (pools_of a S) (fit_of a S) h).held l nx q in (
        G,
        omega arith,
        goes_on at (stop s G.place) a S (ltb-true at (length s) t.0) (omega arith)
            (λ t g l' nx' q' c v' p.
            let x = sym (f t (agree_less (nx + 1) (stop s G.place) t s (omega arith) g)) ∙ q' in
            none t g c (subst (λ (l : Line). valid_from (a ++ (l ∷ [])) c ≡ true) (sym (got_value x)) v') (subst (λ (j : ℕ). Span t j (length t) (render_from (a ++ (l ∷ [])) c)) (sym (got_next x)) (subst (λ (l : Line). Span t nx' (length t) (render_from (a ++ (l ∷ [])) c)) (sym (got_value x)) p))),
      ))
      (follows (line + 1) (line_at s a at) (λ l next. lines_from s fuel next (line + 1) (a ++ (l ∷ []))) (refusal r k) t.1))
      (λ t. absurd (not_refused t.1))
      (either (ltb at (length s)) (follow (line + 1) (line_at s a at) (λ l next. lines_from s fuel next (line + 1) (a ++ (l ∷ [])))) (value a) (refusal r k) e)

-- ---- the theorems
-- a text is refused because it is too long, by 1 at line 0; or at an item of a line, with its ground
pub refusal_ground : (s : List ℕ) (r k : ℕ) → reading s ≡ refusal r k → ((r ≡ 1) × (k ≡ 0) × (max_bytes < length s)) ⊎ ((length s ≤ max_bytes) × (G : Grounded s r k) × NoneBegins s G.place)
unfolding reading render render_from
refusal_ground s r k e = ⊎_elim
    (λ t. let z = same_refusal t.1 in inl (sym z.0, sym z.1, ltb-true max_bytes (length s) t.0))
    (λ t.
    let (G, _, none) = lines_grounds s (length s) 0 0 [] sane_start (omega arith) (span_nothing s 0 (omega arith)) refl r k t.1 in
    inr (ltb-false max_bytes (length s) t.0, G, λ b v g. none (render_from [] b) g b v (span_whole (render_from [] b))))
    (either (ltb max_bytes (length s)) (refusal 1 0) (lines_from s (length s) 0 0 []) (refusal r k) e)

-- 1 exactly when the text is longer than 65,536 bytes, and at line 0
pub too_long : (s : List ℕ) (k : ℕ) → (reading s ≡ refusal 1 k) ↔ ((k ≡ 0) × (max_bytes < length s))
unfolding reading
too_long s k = (
  λ e. ⊎_elim (λ t. (t.1, t.2)) (λ t. absurd (let G = t.1 in let z = (ground-numbered s G.above G.at G.ground).least in let y : ⊥ = omega arith in y)) (refusal_ground s 1 k e),
  λ p. ap (λ (b : Bool). cond b (refusal 1 0) (lines_from s (length s) 0 0 [])) (lt-ltb max_bytes (length s) p.1) ∙ ap (refusal 1) (sym p.0),
)
