-- Sets of numbers below n that grow round by round, and stay as they are once a round gains nothing: while they grow they gain a
-- number in each round, so n rounds are enough.
use Prim.Native.Nat.{ℕ, zero, suc, ◌+◌, ◌-◌, ◌<◌, ◌≤◌}
use mathlib.Core.Bool.{Bool, true}
use mathlib.Core.Logic.{◌⊎◌, inl, inr, ⊎_elim}
use mathlib.Core.Path.{◌≡◌, sym, ap, ◌∙◌}
use native.Mathlib.Omega.{arith}
use native.Mathlib.Nat.{zero-add, suc-add, le_refl}
use Rattle.base.specs.Bounded.{size}
use Rattle.base.proofs.Bounded.{size_le, grown}

-- round k + 1 gains nothing
abbrev pub Still : ℕ → (ℕ → ℕ → Bool) → ℕ → Type 0
Still n p k = (v : ℕ) → v < n → p (suc k) v ≡ p k v

-- a round below k that gains nothing
record Stop (n : ℕ) (p : ℕ → ℕ → Bool) (k : ℕ) : Type 0 where
  at : ℕ
  early : at < k
  still : Still n p at

module _ (n : ℕ) (p : ℕ → ℕ → Bool) (more : (k v : ℕ) → p k v ≡ true → p (suc k) v ≡ true) where
  -- a round below k gains nothing, or each has gained a number
  search_stop : (k : ℕ) → Stop n p k ⊎ (size (p 0) n + k ≤ size (p k) n)
  search_stop zero = inr (omega arith)
  search_stop (suc k) = ⊎_elim (λ t. inl (record { at = t.at; early = omega (arith, t.early); still = t.still })) (λ h. ⊎_elim (λ q. inl (record { at = k; early = le_refl (suc k); still = q })) (λ g. inr (omega arith)) (grown (p k) (p (suc k)) (more k) n)) (search_stop k)

  -- while each round gains something
  pub growing : (k : ℕ) → ((j : ℕ) → j < k → Still n p j → ⊥) → size (p 0) n + k ≤ size (p k) n
  growing k h = ⊎_elim (λ t. absurd (h t.at t.early t.still)) (λ g. g) (search_stop k)

  module _ (next : (k : ℕ) → Still n p k → Still n p (suc k)) where
    later : (k : ℕ) → Still n p k → (d : ℕ) → Still n p (d + k)
    later k h zero v l = ap (λ (m : ℕ). p (suc m) v) (zero-add k) ∙ h v l ∙ ap (λ (m : ℕ). p m v) (sym (zero-add k))
    later k h (suc d) v l = ap (λ (m : ℕ). p (suc m) v) (suc-add d k) ∙ next (d + k) (later k h d) v l ∙ ap (λ (m : ℕ). p m v) (sym (suc-add d k))

    -- no later round gains anything
    pub stays : (k : ℕ) → Still n p k → (d v : ℕ) → v < n → p (d + k) v ≡ p k v
    stays k h zero v l = ap (λ (m : ℕ). p m v) (zero-add k)
    stays k h (suc d) v l = ap (λ (m : ℕ). p m v) (suc-add d k) ∙ later k h d v l ∙ stays k h d v l

    stop : Stop n p (suc n)
    stop = ⊎_elim (λ t. t) (λ h. absurd (omega (arith, size_le (p (suc n)) n))) (search_stop (suc n))

    -- any number of rounds reaches no more than n do
    pub enough : (k v : ℕ) → n ≤ k → v < n → p k v ≡ p n v
    enough k v h l =
        let t = stop in
        let x : k - t.at + t.at ≡ k = omega (arith, t.early) in
        let y : n - t.at + t.at ≡ n = omega (arith, t.early) in
        ap (λ (m : ℕ). p m v) (sym x) ∙ stays t.at t.still (k - t.at) v l ∙ sym (stays t.at t.still (n - t.at) v l) ∙ ap (λ (m : ℕ). p m v) y
