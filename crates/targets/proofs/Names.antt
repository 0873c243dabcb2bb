-- A stored name held against a word, and the lowest link of a name.
use Prim.Native.Nat.{ℕ, zero, suc, ◌+◌, ◌-◌, ◌<◌, ◌≤◌}
use mathlib.Core.Bool.{Bool, true, false, not, cond, ◌&&◌, ◌||◌}
use mathlib.Core.List.{List, [], ◌∷◌}
use mathlib.Core.Option.{Option}
use mathlib.Core.Path.{◌≡◌, refl, sym, ap, ap₂, ◌∙◌}
use native.Mathlib.Omega.{arith}
use lib.Dec.{eqb}
use lib.ListN.{length, get_or, take, drop, length-drop}
use lib.Pointwise.{pointwise}
use lib.Seq.{get_or-drop}
use borrow.Author.Tests.{eq-eqb, ne_eqb, eqb-true, lt-ltb, not-true}
use Rattle.base.specs.Bytes.{eql}
use Rattle.base.specs.Least.{least_of}
use Rattle.base.specs.Lists.{allb}
use Rattle.base.proofs.Bools.{bool_cases, and_left, and_right, same_test, eqb_comm}
use Rattle.base.proofs.Least.{least-is, least_of_lem, least_of_none}
use Rattle.model.specs.Limits.{max_name, name_bytes}
use Rattle.tables.specs.Names.{before_zero, name_from}

suc_test : (a b : ℕ) → eqb (suc a) (suc b) ≡ eqb a b
suc_test a b = same_test (eqb (suc a) (suc b)) (eqb a b) (λ h. let e : suc a ≡ suc b = eqb-true (suc a) (suc b) h in eq-eqb a b (omega arith)) (λ h. let e : a ≡ b = eqb-true a b h in eq-eqb (suc a) (suc b) (omega arith))

-- the first bytes are the word, and there the name is over: by its length, or by a zero
held : (w d : List ℕ) (m : ℕ) → length w ≤ m → m < length d → allb (λ x. not (eqb x 0)) w ≡ true → (pointwise eqb (take (length w) d) w && (eqb (length w) m || eqb (get_or d (length w) 0) 0)) ≡ eql w (before_zero (take m d))
unfolding eql before_zero allb
held [] d zero short room full = refl
held [] [] (suc m) short room full = absurd (omega (arith, room))
held [] (y ∷ d) (suc m) short room full = ap (λ (b : Bool). b || eqb y 0) (ne_eqb 0 (suc m) (λ e. let z : ⊥ = omega arith in z)) ∙ bool_cases (λ b. b ≡ eql [] (cond b [] (y ∷ before_zero (take m d)))) (eqb y 0) (λ _. refl) (λ _. refl)
held (x ∷ w) d zero short room full = absurd (omega (arith, short))
held (x ∷ w) [] (suc m) short room full = absurd (omega (arith, room))
held (x ∷ w) (y ∷ d) (suc m) short room full =
    let rest = held w d m (omega (arith, short)) (omega (arith, room)) (and_right (not (eqb x 0)) (allb (λ x. not (eqb x 0)) w) full) in
    let p : Bool = pointwise eqb (take (length w) d) w in
    let z : Bool = eqb (get_or d (length w) 0) 0 in
    let t : List ℕ = before_zero (take m d) in
    ap₂ (λ (a b : Bool). (a && p) && (b || z)) (eqb_comm y x) (suc_test (length w) m)
    ∙ assoc (eqb x y) p (eqb (length w) m || z)
    ∙ ap (λ (b : Bool). eqb x y && b) rest
    ∙ bool_cases (λ b. eqb y 0 ≡ b → (eqb x y && eql w t) ≡ eql (x ∷ w) (cond b [] (y ∷ t))) (eqb y 0)
    (λ _ h. ap (λ (b : Bool). b && eql w t) (ap (eqb x) (eqb-true y 0 h) ∙ not-true (eqb x 0) (and_left (not (eqb x 0)) (allb (λ x. not (eqb x 0)) w) full)))
    (λ _ h. refl) refl
  where
    assoc : (a b c : Bool) → ((a && b) && c) ≡ (a && (b && c))
    assoc true b c = refl
    assoc false b c = refl

pub named : (ns : List ℕ) (at : ℕ) (w : List ℕ) {same : Bool} → at + name_bytes ≤ length ns → length w ≤ max_name → allb (λ x. not (eqb x 0)) w ≡ true
    → same ≡ pointwise eqb (take (at + length w - at) (drop at ns)) w → (same && (eqb (length w) max_name || eqb (get_or ns (at + length w) 0) 0)) ≡ eql w (name_from ns at)
unfolding name_from
named ns at w room short full e =
    ap₂ (λ (a : Bool) (k : ℕ). a && (eqb (length w) max_name || eqb k 0)) (e ∙ ap (λ (k : ℕ). pointwise eqb (take k (drop at ns)) w) (let z : at + length w - at ≡ length w = omega arith in z)) (sym (get_or-drop at ns (length w) 0))
    ∙ held w (drop at ns) max_name short (omega (arith, room, length-drop at ns)) full

-- ---- the lowest number that has a property: the first that a loop finds, or there is none
module _ (p : ℕ → Bool) (n : ℕ) where
  pub found_here : (k : ℕ) → k < n → ((j : ℕ) → j < k → p j ≡ false) → p k ≡ true → Option.some k ≡ least_of p n
  found_here k l none hit = sym (least_of_lem p n (sym (least-is p n k l none hit)) ∙ ap (λ (b : Bool). cond b (Option.some k) Option.none) (lt-ltb k n l))

  pub found_none : ((j : ℕ) → j < n → p j ≡ false) → Option.none ≡ least_of p n
  found_none none = sym ((least_of_none p n).1 none)
