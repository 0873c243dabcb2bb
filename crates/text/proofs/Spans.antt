-- A word that stands between two positions of a text, and how such words are joined and taken apart.
use Prim.Native.Nat.{ℕ, suc, ◌+◌, ◌-◌, ◌<◌, ◌≤◌}
use mathlib.Core.Path.{◌≡◌, refl, sym, ap, ◌∙◌}
use mathlib.Core.List.{List, [], ◌∷◌, ◌++◌}
use native.Mathlib.Numerals.{add-one}
use native.Mathlib.Nat.{le_refl}
use native.Mathlib.Omega.{arith}
use lib.ListN.{length, get_or, take, drop, length-append, take-append-drop}
use lib.Seq.{slice, slice-cons, slice_empty, length-slice, take-take, take-length, drop-append-le, length-take-le, take_at, drop_at}
use Rattle.text.specs.Spans.{Span}
use Rattle.text.proofs.Parts.{inside}

-- ---- joining
-- a byte that is not 0
pub span_byte : (s : List ℕ) (a x : ℕ) → get_or s a 0 ≡ suc x → Span s a (a + 1) (suc x ∷ [])
span_byte s a x e =
    let i : a < length s = inside s a (λ z. omega arith) in
    record {
      from = omega arith;
      within = omega arith;
      text = rw (add-one a) (slice-cons a (suc a) s 0 (omega arith) i ∙ rw (e, slice_empty (suc a) s));
    }

pub span_nothing : (s : List ℕ) (a : ℕ) → a ≤ length s → Span s a a []
span_nothing s a h = record { from = le_refl a; within = h; text = slice_empty a s }

pub cut : (s : List ℕ) (a b c : ℕ) → a ≤ b → b ≤ c → c ≤ length s → slice a c s ≡ slice a b s ++ slice b c s
cut s a b c h k l =
    let t : take c s ≡ take b s ++ slice b c s = sym (take-append-drop b (take c s)) ∙ ap (λ (r : List ℕ). r ++ slice b c s) (take-take b c s k) in
    ap (λ (r : List ℕ). drop a r) t ∙ drop-append-le a (take b s) (slice b c s) (omega (arith, length-take-le b s (omega arith)))

pub span_join : {s : List ℕ} {a b c : ℕ} {w v : List ℕ} → Span s a b w → Span s b c v → Span s a c (w ++ v)
span_join {s} {a} {b} {c} {w} {v} p q =
    let h = p.from in
    let k = q.from in
    record {
      from = omega arith;
      within = q.within;
      text = cut s a b c p.from q.from q.within ∙ rw (p.text, q.text);
    }

-- ---- taking apart
pub span_length : {s : List ℕ} {a b : ℕ} {w : List ℕ} → Span s a b w → b - a ≡ length w
span_length {s} {a} {b} {w} p = sym (length-slice a b s p.within) ∙ ap (λ (l : List ℕ). length l) p.text

pub span_split : {s : List ℕ} {a c : ℕ} (w v : List ℕ) → Span s a c (w ++ v) → Span s a (a + length w) w × Span s (a + length w) c v
span_split {s} {a} {c} w v p =
    let l = span_length p in
    let lw = length-append w v in
    let f = p.from in
    let i = p.within in
    let b : ℕ = a + length w in
    let bc : b ≤ c = omega arith in
    let e : slice a b s ++ slice b c s ≡ w ++ v = sym (cut s a b c (omega arith) bc p.within) ∙ p.text in
    let lab : length (slice a b s) ≡ length w = length-slice a b s (omega arith) ∙ omega arith in (
      record { from = omega arith; within = omega arith; text = sym (take_at (slice a b s) (slice b c s) (length w) lab) ∙ ap (λ (r : List ℕ). take (length w) r) e ∙ take_at w v (length w) refl },
      record { from = bc; within = p.within; text = sym (drop_at (slice a b s) (slice b c s) (length w) lab) ∙ ap (λ (r : List ℕ). drop (length w) r) e ∙ drop_at w v (length w) refl },
    )

pub span_head : {s : List ℕ} {a c x : ℕ} {w : List ℕ} → Span s a c (x ∷ w) → (a < c) × (get_or s a 0 ≡ x) × Span s (a + 1) c w
span_head {s} {a} {c} {x} {w} p =
    let l = span_length p in
    let f = p.from in
    let h : a < c = omega arith in
    let e = sym (slice-cons a c s 0 h p.within) ∙ p.text in
    let t : slice (suc a) c s ≡ w = cc in
    (h, cc, record { from = omega arith; within = p.within; text = rw (add-one a) t })

pub span_none : {s : List ℕ} {a b : ℕ} → Span s a b [] → a ≡ b
span_none p = let l = span_length p in let f = p.from in omega arith

pub span_one : {s : List ℕ} {a b x : ℕ} → Span s a b (x ∷ []) → (a + 1 ≡ b) × (get_or s a 0 ≡ x)
span_one p = let h = span_head p in (span_none h.2, h.1)

-- ---- between positions and whole texts
pub span_whole : (s : List ℕ) → Span s 0 (length s) s
span_whole s = record { from = omega arith; within = le_refl (length s); text = take-length s }

pub span_all : {s w : List ℕ} → Span s 0 (length s) w → s ≡ w
span_all {s} {w} p = sym (take-length s) ∙ p.text
