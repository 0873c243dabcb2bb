-- A reader is exact for a way of writing: what it accepts is written there, and what is written there it accepts.
use Prim.Native.Nat.{ℕ, ◌+◌, ◌≤◌, ◌<◌}
use mathlib.Core.Path.{◌≡◌, refl, sym, ap, ap₂, ◌∙◌, subst}
use mathlib.Core.List.{List, ◌∷◌}
use mathlib.Core.Bool.{Bool, true, false, cond}
use mathlib.Core.Logic.{◌⊎◌, inl, inr}
use native.Mathlib.Omega.{arith}
use lib.Dec.{eqb}
use lib.ListN.{length, get_or}
use lib.Seq.{slice}
use borrow.Author.Tests.{eqb-true, eq-eqb}
use Rattle.base.specs.Lists.{allb}
use Rattle.text.specs.Items.{edge, item_end}
use Rattle.text.proofs.Parts.{inside}
use Rattle.text.specs.Spans.{Span}
use Rattle.text.proofs.Spans.{span_join, span_byte, span_head}
use Rattle.text.proofs.Words.{plain, Ends, word-ends, word-item, item_span}
use Rattle.grammar.specs.Reading.{Read, got, refused, and_then}

-- ---- what an acceptance tells of the tests that led to it
module _ {A : Type 0} {x : A} {nx : ℕ} where
  pub never_refused : {k : ℕ} → refused k ≡ got x nx → ⊥
  never_refused e = let z : ◌≡◌ {A = ℕ} 0 1 = cc in omega arith

  -- a test that refuses where it fails, or where it passes
  pub passes : (b : Bool) (k : ℕ) (y : Read A) → cond b y (refused k) ≡ got x nx → (b ≡ true) × (y ≡ got x nx)
  passes true k y e = (refl, e)
  passes false k y e = absurd (never_refused e)

  pub fails : (b : Bool) (k : ℕ) (y : Read A) → cond b (refused k) y ≡ got x nx → (b ≡ false) × (y ≡ got x nx)
  fails true k y e = absurd (never_refused e)
  fails false k y e = (refl, e)

  pub one_of : (b : Bool) (y z : Read A) → cond b y z ≡ got x nx → ((b ≡ true) × (y ≡ got x nx)) ⊎ ((b ≡ false) × (z ≡ got x nx))
  one_of true y z e = inl (refl, e)
  one_of false y z e = inr (refl, e)

  pub thens : {B : Type 0} (r : Read B) (k : B → ℕ → Read A) → and_then r k ≡ got x nx → (y : B) × (m : ℕ) × (r ≡ got y m) × (k y m ≡ got x nx)
  thens (got y m) k e = (y, m, refl, e)
  thens (refused r) k e = absurd (never_refused e)

  pub got_value : {y : A} {m : ℕ} → got y m ≡ got x nx → y ≡ x
  got_value e = cc

  pub got_next : {y : A} {m : ℕ} → got y m ≡ got x nx → m ≡ nx
  got_next e = cc

-- ---- where a word ends
abbrev pub Edge : List ℕ → ℕ → Type 0
Edge s b = edge (get_or s b 0) ≡ true

pub edge-inside : (s : List ℕ) (b : ℕ) → Edge s b → b < length s
unfolding edge
edge-inside s b e = inside s b (λ z. let f : ◌≡◌ {A = Bool} false true = ap edge (sym z) ∙ e in let y : ◌≡◌ {A = ℕ} 0 1 = cc in omega arith)

pub edge_of : (s : List ℕ) (b x : ℕ) → get_or s b 0 ≡ x → edge x ≡ true → Edge s b
edge_of s b x e t = ap edge e ∙ t

pub ends_of_lem : (s : List ℕ) (b : ℕ) → Edge s b → Ends s b
ends_of_lem s b e = inr (edge-inside s b e, e)

-- ---- exactness: of a reader R in the text s, for the writing W of what has P, where E holds after it
pub record Exact {A : Type 0} (s : List ℕ) (E : ℕ → Type 0) (R : ℕ → Read A) (W : A → List ℕ) (P : A → Type 0) : Type 0 where
  pub sound : (at : ℕ) → at ≤ length s → (x : A) (nx : ℕ) → R at ≡ got x nx → Span s at nx (W x) × P x
  pub complete : (at nx : ℕ) (x : A) → Span s at nx (W x) → P x → E nx → R at ≡ got x nx

-- a reader of one item, by its bytes and its end
module _ {A : Type 0} (s : List ℕ) (f : List ℕ → ℕ → Read A) (W : A → List ℕ) (P : A → Type 0)
    (only : (w : List ℕ) (e : ℕ) (x : A) (nx : ℕ) → f w e ≡ got x nx → (w ≡ W x) × (e ≡ nx) × P x)
    (gives : (x : A) → P x → (e : ℕ) → f (W x) e ≡ got x e)
    (solid : (x : A) → P x → allb plain (W x) ≡ true) where
  pub item_exact : Exact s (Edge s) (λ at. f (slice at (item_end s at) s) (item_end s at)) W P
  item_exact =
      record {
        sound = λ at h x nx e.
            let o = only (slice at (item_end s at) s) (item_end s at) x nx e in
            (subst (λ (n : ℕ). Span s at n (W x)) o.1 (subst (λ (w : List ℕ). Span s at (item_end s at) w) o.0 (item_span s at h)), o.2);
        complete = λ at nx x p q e.
            let d = ends_of_lem s nx e in
            ap₂ f (word-item (W x) p (solid x q) d) (word-ends (W x) p (solid x q) d) ∙ gives x q nx;
      }

-- a space before it
pub space_exact : {A : Type 0} {s : List ℕ} {E : ℕ → Type 0} {R : ℕ → Read A} {W : A → List ℕ} {P : A → Type 0} → Exact s E R W P
    → Exact s E (λ at. cond (eqb (get_or s at 0) 32) (R (at + 1)) (refused 2)) (λ x. 32 ∷ W x) P
space_exact {s = s} {R = R} {W = W} X =
    record {
      sound = λ at h x nx e.
          let p = passes (eqb (get_or s at 0) 32) 2 (R (at + 1)) e in
          let sp = span_byte s at 31 (eqb-true (get_or s at 0) 32 p.0) in
          let r = X.sound (at + 1) sp.within x nx p.1 in
          (span_join sp r.0, r.1);
      complete = λ at nx x p q e.
          let h = span_head p in
          ap (λ (b : Bool). cond b (R (at + 1)) (refused 2)) (eq-eqb (get_or s at 0) 32 h.1) ∙ X.complete (at + 1) nx x h.2 q e;
    }

-- the same with another condition on what is read
pub exact_as : {A : Type 0} {s : List ℕ} {E : ℕ → Type 0} {R : ℕ → Read A} {W : A → List ℕ} {P : A → Type 0} (Q : A → Type 0) → ((x : A) → P x → Q x) → ((x : A) → Q x → P x) → Exact s E R W P → Exact s E R W Q
exact_as Q to back X =
    record {
      sound = λ at h x nx e. let r = X.sound at h x nx e in (r.0, to x r.1);
      complete = λ at nx x p q e. X.complete at nx x p (back x q) e;
    }

-- a test more of what was read
pub check_exact : {A : Type 0} {s : List ℕ} {E : ℕ → Type 0} {R : ℕ → Read A} {W : A → List ℕ} {P : A → Type 0} (t : A → Bool) (k : ℕ) → Exact s E R W P
    → Exact s E (λ at. and_then (R at) (λ x nx. cond (t x) (got x nx) (refused k))) W (λ x. P x × (t x ≡ true))
check_exact {s = s} {R = R} {W = W} {P = P} t k X =
    record {
      sound = λ at h x nx e.
          let (y, m, r, f) = thens (R at) (λ x nx. cond (t x) (got x nx) (refused k)) e in
          let p = passes (t y) k (got y m) f in
          let i : y ≡ x = got_value p.1 in
          let j : m ≡ nx = got_next p.1 in
          let u = X.sound at h x nx (r ∙ p.1) in
          (u.0, (u.1, ap t (sym i) ∙ p.0));
      complete = λ at nx x p q e. ap (λ (r : Read _). and_then r (λ x nx. cond (t x) (got x nx) (refused k))) (X.complete at nx x p q.0 e) ∙ ap (λ (b : Bool). cond b (got x nx) (refused k)) q.1;
    }
