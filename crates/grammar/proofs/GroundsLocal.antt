-- What a reader says is settled by the bytes that it has seen: texts that agree up to there are read in the same way; and a
-- refusal has its ground. A law for each way in which readers are put together.
use Prim.Native.Nat.{ℕ, ◌+◌, ◌≤◌, ◌<◌}
use mathlib.Core.Path.{◌≡◌, refl, sym, ap, ap₂, ◌∙◌, subst}
use mathlib.Core.List.{List}
use mathlib.Core.Bool.{Bool, true, false, cond}
use mathlib.Core.Logic.{◌⊎◌, inl, inr, ⊎_elim}
use native.Mathlib.Omega.{arith}
use lib.Dec.{eqb}
use lib.ListN.{length, get_or, take, drop, length-take}
use lib.Seq.{slice, take-take, take_all, get_or-take}
use borrow.Author.Tests.{eqb-true, eqb-false, eq-eqb}
use Rattle.base.proofs.Bools.{bool_cases}
use Rattle.text.specs.Items.{edge, item_end}
use Rattle.text.proofs.Items.{item_end-from, item_end-edge}
use Rattle.text.proofs.Words.{word-ends, item-plain, item-ends}
use Rattle.grammar.specs.Reading.{Read, got, refused, and_then}
use Rattle.grammar.specs.Grounds.{Agree, stop}
use Rattle.grammar.proofs.Exact.{never_refused, thens, got_next, edge_of, edge-inside}

-- ---- texts that agree
pub agree_less : (d e : ℕ) (t s : List ℕ) → d ≤ e → Agree e t s → Agree d t s
agree_less d e t s h g = sym (take-take d e t h) ∙ ap (λ (l : List ℕ). take d l) g ∙ take-take d e s h

pub agree-byte : (e i : ℕ) (t s : List ℕ) → i < e → Agree e t s → get_or t i 0 ≡ get_or s i 0
agree-byte e i t s h g = sym (get_or-take e t i 0 h) ∙ ap (λ (l : List ℕ). get_or l i 0) g ∙ get_or-take e s i 0 h

pub agree-inside : (e i : ℕ) (t s : List ℕ) → i < e → i < length s → Agree e t s → i < length t
agree-inside e i t s h l g = let n = ap (λ (l : List ℕ). length l) g in omega (arith, length-take e t, length-take e s)

agree-all : (e : ℕ) (t s : List ℕ) → length s < e → Agree e t s → t ≡ s
agree-all e t s h g =
    let n = ap (λ (l : List ℕ). length l) g in
    sym (take_all e t (omega (arith, length-take e t, length-take e s))) ∙ g ∙ take_all e s (omega arith)

-- they have the same item at a position, if they agree up to the byte after it
pub agree-end : (p : ℕ) (t s : List ℕ) → Agree (item_end s p + 1) t s → item_end t p ≡ item_end s p
agree-end p t s g = ⊎_elim
    (λ h. ap (λ (l : List ℕ). item_end l p) (agree-all (item_end s p + 1) t s (omega arith) g))
    (λ h.
    let l = agree-inside (item_end s p + 1) (item_end s p) t s (omega arith) h.0 g in
    word-ends (slice p (item_end s p) s)
    (record { from = item_end-from s p; within = omega arith; text = ap (λ (l : List ℕ). drop p l) (agree_less (item_end s p) (item_end s p + 1) t s (omega arith) g) })
    (item-plain s p) (inr (l, ap edge (agree-byte (item_end s p + 1) (item_end s p) t s (omega arith) g) ∙ h.1)))
    (item-ends s p)

pub agree-item : (p : ℕ) (t s : List ℕ) → Agree (item_end s p + 1) t s → slice p (item_end t p) t ≡ slice p (item_end s p) s
agree-item p t s g = ap (λ (e : ℕ). slice p e t) (agree-end p t s g) ∙ ap (λ (l : List ℕ). drop p l) (agree_less (item_end s p) (item_end s p + 1) t s (omega arith) g)

pub stop_open : (s : List ℕ) (p : ℕ) → get_or s p 0 ≡ 40 → item_end s (p + 1) < stop s p
unfolding stop
stop_open s p e = rw (eq-eqb (get_or s p 0) 40 e) (omega arith)

pub stop-item : (s : List ℕ) (p : ℕ) → item_end s p < stop s p
unfolding stop edge
stop-item s p = bool_cases (λ b. eqb (get_or s p 0) 40 ≡ b → item_end s p < item_end s (cond b (p + 1) p) + 1) (eqb (get_or s p 0) 40)
    (λ _ e.
    let h = edge_of s p 40 (eqb-true (get_or s p 0) 40 e) refl in
    let i = item_end-edge s p (edge-inside s p h) h in
    omega (arith, item_end-from s (p + 1)))
    (λ _ e. omega arith) refl

pub stop-past : (s : List ℕ) (p : ℕ) → p < stop s p
stop-past s p = omega (arith, stop-item s p, item_end-from s p)

-- ---- a refusal of one reader after the other comes from the first, or from the second
then_refused : {A B : Type 0} (r : Read A) (k : A → ℕ → Read B) (q : ℕ) → and_then r k ≡ refused q → (r ≡ refused q) ⊎ ((x : A) × (nx : ℕ) × (r ≡ got x nx) × (k x nx ≡ refused q))
then_refused (got x nx) k q e = inr (x, nx, refl, e)
then_refused (refused r) k q e = inl (ap refused (let z : r ≡ q = cc in z))

-- s: the text; G r p: the ground of refusal r at position p; m t: what is read in the text t. What m says of s, it says of
-- every text that agrees with s up to the byte after what was read, or after the refused item; and no earlier than `low`
pub record Settled (s : List ℕ) (G : ℕ → ℕ → Type 0) {A : Type 0} (low : ℕ) (m : List ℕ → Read A) : Type 0 where
  pub held : (x : A) (nx : ℕ) → m s ≡ got x nx → (low ≤ nx) × ((t : List ℕ) → Agree (nx + 1) t s → m t ≡ got x nx)
  pub ground : (r : ℕ) → m s ≡ refused r → (p : ℕ) × G r p × (low < stop s p) × ((t : List ℕ) → Agree (stop s p) t s → m t ≡ refused r)

module _ {s : List ℕ} {G : ℕ → ℕ → Type 0} where
  module _ {A : Type 0} where
    pub settled_got : (x : A) (nx : ℕ) → Settled s G nx (λ t. got x nx)
    settled_got x nx = record { held = λ y ny e. let z : nx ≡ ny = got_next e in (omega arith, λ t g. e); ground = λ r e. absurd (never_refused (sym e)) }

    pub settled_refused : {low r : ℕ} (p : ℕ) → G r p → low < stop s p → Settled s G {A = A} low (λ t. refused r)
    settled_refused {low} {r} p g l = record { held = λ y ny e. absurd (never_refused e); ground = λ q e. let z : r ≡ q = cc in (p, subst (λ (k : ℕ). G k p) z g, l, λ t a. e) }

    pub settled-lower : {low less : ℕ} {m : List ℕ → Read A} → less ≤ low → Settled s G low m → Settled s G less m
    settled-lower {low} {less} h M =
        record {
          held = λ x nx e. let (l, f) = M.held x nx e in (omega arith, f);
          ground = λ r e. let (p, g, l, f) = M.ground r e in (p, g, omega arith, f);
        }

    -- what is read the same way, as far as the texts agree
    pub settled_same : {low : ℕ} {m : List ℕ → Read A} (k : List ℕ → Read A) → ((t : List ℕ) → Agree (low + 1) t s → k t ≡ m t) → Settled s G low m → Settled s G low k
    settled_same {low} {m} k h M =
        record {
          held = λ x nx e. let (l, f) = M.held x nx (sym (h s refl) ∙ e) in (l, λ t g. h t (agree_less (low + 1) (nx + 1) t s (omega arith) g) ∙ f t g);
          ground = λ r e. let (p, g, l, f) = M.ground r (sym (h s refl) ∙ e) in (p, g, l, λ t a. h t (agree_less (low + 1) (stop s p) t s (omega arith) a) ∙ f t a);
        }

    -- by a test
    pub settled-cond : {low : ℕ} {m k : List ℕ → Read A} (b : Bool) → (b ≡ true → Settled s G low m) → (b ≡ false → Settled s G low k) → Settled s G low (λ t. cond b (m t) (k t))
    settled-cond true M K = M refl
    settled-cond false M K = K refl

    -- by a byte
    pub settled-byte : {low : ℕ} {m k : List ℕ → Read A} (i c : ℕ) → i ≤ low → (get_or s i 0 ≡ c → Settled s G low m) → ((get_or s i 0 ≡ c → ⊥) → Settled s G low k) → Settled s G low (λ t. cond (eqb (get_or t i 0) c) (m t) (k t))
    settled-byte {low} {m} {k} i c h M K =
        settled_same (λ t. cond (eqb (get_or t i 0) c) (m t) (k t)) (λ t g. ap (λ (x : ℕ). cond (eqb x c) (m t) (k t)) (agree-byte (low + 1) i t s (omega arith) g))
        (settled-cond (eqb (get_or s i 0) c) (λ e. M (eqb-true (get_or s i 0) c e)) (λ e. K (eqb-false (get_or s i 0) c e)))

    -- by an item and its end
    pub settled-item : (p : ℕ) (f : List ℕ → List ℕ → ℕ → Read A) → Settled s G (item_end s p) (λ t. f t (slice p (item_end s p) s) (item_end s p)) → Settled s G (item_end s p) (λ t. f t (slice p (item_end t p) t) (item_end t p))
    settled-item p f M = settled_same (λ t. f t (slice p (item_end t p) t) (item_end t p)) (λ t g. ap₂ (λ (w : List ℕ) (e : ℕ). f t w e) (agree-item p t s g) (agree-end p t s g)) M

  -- one reader after the other
  pub settled_then : {A B : Type 0} {low : ℕ} {m : List ℕ → Read A} {k : List ℕ → A → ℕ → Read B} → Settled s G low m → ((x : A) (nx : ℕ) → m s ≡ got x nx → Settled s G nx (λ t. k t x nx)) → Settled s G low (λ t. and_then (m t) (k t))
  settled_then {A} {B} {low} {m} {k} M K =
      record {
        held = λ y ny e.
            let (x, nx, a, b) = thens (m s) (k s) e in
            let (l, f) = M.held x nx a in
            let (l', f') = (K x nx a).held y ny b in
            (omega arith, λ t g. ap (λ (r : Read A). and_then r (k t)) (f t (agree_less (nx + 1) (ny + 1) t s (omega arith) g)) ∙ f' t g);
        ground = λ r e. ⊎_elim
            (λ a. let (p, g, l, f) = M.ground r a in (p, g, l, λ t h. ap (λ (r : Read A). and_then r (k t)) (f t h)))
            (λ a.
            let (x, nx, b, c) = a in
            let (l, f) = M.held x nx b in
            let (p, g, l', f') = (K x nx b).ground r c in
            (p, g, (let z : low < stop s p = omega arith in z), λ t h. ap (λ (r : Read A). and_then r (k t)) (f t (agree_less (nx + 1) (stop s p) t s (omega arith) h)) ∙ f' t h))
            (then_refused (m s) (k s) r e);
      }
