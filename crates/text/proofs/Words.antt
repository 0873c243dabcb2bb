-- An item is a word without edge bytes, up to an edge byte or the end of the text; and the other way round.
use Prim.Native.Nat.{ℕ, zero, suc, ◌+◌, ◌<◌, ◌≤◌}
use mathlib.Core.Path.{◌≡◌, refl, sym, ap, ◌∙◌}
use mathlib.Core.List.{List, [], ◌∷◌}
use mathlib.Core.Bool.{Bool, true, false, not}
use mathlib.Core.Logic.{◌⊎◌, inl, inr, ⊎_elim}
use native.Mathlib.Numerals.{add-one}
use native.Mathlib.Omega.{arith}
use borrow.Author.Tests.{eqb-true, not-true, ltb-true, ltb-false}
use lib.Dec.{eqb, ltb}
use lib.ListN.{length, get_or}
use lib.Seq.{slice, slice_empty, slice-cons}
use Rattle.base.specs.Lists.{allb}
use Rattle.base.proofs.Lists.{allb_weaker}
use Rattle.base.proofs.Bools.{bool_cases, and_left, and_right, and_both, or_cases, never_both}
use Rattle.text.specs.Items.{edge, item_end, name_byte, is_name}
use Rattle.text.specs.Decimals.{digit}
use Rattle.text.proofs.Parts.{inside}
use Rattle.text.proofs.Items.{item_end_out, item_end-edge, item_end-step, item_end-from, item_end-within, name_bytes_lem}
use Rattle.text.specs.Spans.{Span}
use Rattle.text.proofs.Spans.{span_head, span_none}

-- a byte that an item can have
abbrev pub plain : ℕ → Bool
plain x = not (edge x)

-- an item can end at b: the text does, or an edge byte stands there
abbrev pub Ends : List ℕ → ℕ → Type 0
Ends s b = (length s ≤ b) ⊎ ((b < length s) × (edge (get_or s b 0) ≡ true))

pub edge-ends : (s : List ℕ) (b x : ℕ) → get_or s b 0 ≡ suc x → edge (suc x) ≡ true → Ends s b
edge-ends s b x e t = inr (inside s b (λ z. omega arith), ap edge e ∙ t)

-- the word after this one begins with an edge byte
pub span_ends : {s : List ℕ} {b c x : ℕ} {v : List ℕ} → Span s b c (suc x ∷ v) → edge (suc x) ≡ true → Ends s b
span_ends {s} {b} {c} {x} p t = edge-ends s b x (span_head p).1 t

-- ---- from the word to where the item ends
pub word-ends : (w : List ℕ) {s : List ℕ} {a b : ℕ} → Span s a b w → allb plain w ≡ true → Ends s b → item_end s a ≡ b
unfolding allb
word-ends [] {s} {a} {b} p e d =
    let q = span_none p in
    rw q (⊎_elim (λ h. item_end_out s b h) (λ h. item_end-edge s b h.0 h.1) d)
word-ends (x ∷ w) {s} {a} {b} p e d =
    let h = span_head p in
    let k = p.within in
    item_end-step s a (omega arith) (ap edge h.1 ∙ not-true (edge x) (and_left (plain x) (allb plain w) e)) ∙ word-ends w h.2 (and_right (plain x) (allb plain w) e) d

-- and what the item is
pub word-item : (w : List ℕ) {s : List ℕ} {a b : ℕ} → Span s a b w → allb plain w ≡ true → Ends s b → slice a (item_end s a) s ≡ w
word-item w {s} {a} {b} p e d = rw (word-ends w p e d) p.text

-- ---- from where the item ends to the word
pub item_span : (s : List ℕ) (at : ℕ) → at ≤ length s → Span s at (item_end s at) (slice at (item_end s at) s)
item_span s at h = record { from = item_end-from s at; within = item_end-within s at h; text = refl }

-- the bytes left after a position, one fewer at each step
module _ (s : List ℕ) where
  abbrev Item : ℕ → Type 0
  Item at = (allb plain (slice at (item_end s at) s) ≡ true) × Ends s (item_end s at)

  nothing_here : (at : ℕ) → item_end s at ≡ at → Ends s at → Item at
  unfolding allb
  nothing_here at e d = rw e (rw (slice_empty at s) refl, d)

  item_from : (n at : ℕ) → length s ≤ at + n → Item at
  unfolding allb
  item_from zero at h = nothing_here at (item_end_out s at (omega arith)) (inl (omega arith))
  item_from (suc n) at h = bool_cases (λ b. ltb at (length s) ≡ b → Item at) (ltb at (length s)) (λ _ e. here (item_from n (at + 1) (omega arith)) (ltb-true at (length s) e)) (λ _ e. let o = ltb-false at (length s) e in nothing_here at (item_end_out s at o) (inl o)) refl
    where
      more : at < length s → edge (get_or s at 0) ≡ false → Item (at + 1) → Item at
      more l e i =
          let f = item_end-from s (at + 1) in
          let k = item_end-within s (at + 1) (omega arith) in
          rw (item_end-step s at l e)
          (rw (slice-cons at (item_end s (at + 1)) s 0 (omega arith) k) (and_both (plain (get_or s at 0)) (allb plain (slice (suc at) (item_end s (at + 1)) s)) (ap not e) (ap (λ (m : ℕ). allb plain (slice m (item_end s (at + 1)) s)) (sym (add-one at)) ∙ i.0)), i.1)

      here : Item (at + 1) → at < length s → Item at
      here i l = bool_cases (λ b. edge (get_or s at 0) ≡ b → Item at) (edge (get_or s at 0)) (λ _ e. nothing_here at (item_end-edge s at l e) (inr (l, e))) (λ _ e. more l e i) refl

  -- an item has no edge byte, and can end where it does
  pub item-plain : (at : ℕ) → allb plain (slice at (item_end s at) s) ≡ true
  item-plain at = (item_from (length s) at (omega arith)).0

  pub item-ends : (at : ℕ) → Ends s (item_end s at)
  item-ends at = (item_from (length s) at (omega arith)).1

-- ---- words without edge bytes
-- a test that no edge byte passes
test_plain : (p : ℕ → Bool) → p 10 ≡ false → p 32 ≡ false → p 40 ≡ false → p 41 ≡ false → (x : ℕ) → p x ≡ true → plain x ≡ true
unfolding edge
test_plain p p10 p32 p40 p41 x e = bool_cases (λ b. edge x ≡ b → not b ≡ true) (edge x) (λ _ q. absurd (edges q)) (λ _ q. refl) refl
  where
    bad : (k : ℕ) → p k ≡ false → eqb x k ≡ true → ⊥
    bad k f q = never_both e (ap p (eqb-true x k q) ∙ f)

    edges : edge x ≡ true → ⊥
    edges t = ⊎_elim (bad 10 p10) (λ t'. ⊎_elim (bad 32 p32) (λ t''. ⊎_elim (bad 40 p40) (bad 41 p41) (or_cases (eqb x 40) (eqb x 41) t'')) (or_cases (eqb x 32) _ t')) (or_cases (eqb x 10) _ t)

name_plain : (x : ℕ) → name_byte x ≡ true → plain x ≡ true
unfolding name_byte
name_plain = test_plain name_byte refl refl refl refl

digit-plain : (x : ℕ) → digit x ≡ true → plain x ≡ true
unfolding digit
digit-plain = test_plain digit refl refl refl refl

pub names-plain : (w : List ℕ) → is_name w ≡ true → allb plain w ≡ true
names-plain w e = allb_weaker name_byte plain w name_plain (name_bytes_lem w e)

pub digits-plain : (w : List ℕ) → allb digit w ≡ true → allb plain w ≡ true
digits-plain w e = allb_weaker digit plain w digit-plain e
