-- The first number in exactly one of two sets: the lower of the first in the one alone and the first in the other alone.
use Prim.Native.Nat.{ℕ, ◌≤◌, ◌<◌, zero-le}
use mathlib.Core.Bool.{Bool, true, false, not, ◌&&◌, ◌||◌, or-true}
use mathlib.Core.Option.{Option, map}
use mathlib.Core.Path.{◌≡◌, refl, sym, ap, ap₂, ◌∙◌, subst}
use native.Mathlib.Omega.{arith}
use lib.Dec.{ltb}
use borrow.Author.Tests.{ltb-true, ltb-false, not-true}
use Rattle.base.proofs.Bools.{bool_cases, never_both, and_left, and_right}
use Rattle.base.specs.Least.{next_from}
use Rattle.base.proofs.Least.{Next, next-found}
use Rattle.plan.specs.Conditions.{in_one}
use Rattle.conditions.specs.Searches.{first_in_one}
use Rattle.conditions.proofs.Searches.{first-none, first-at}

module _ (a b : ℕ → Bool) (n x y : ℕ) (ex : x ≡ next_from (λ m. a m && not (b m)) 0 n) (ey : y ≡ next_from (λ m. b m && not (a m)) 0 n) where
  fx : Next (λ m. a m && not (b m)) 0 n x
  fx = subst (λ (r : ℕ). Next (λ m. a m && not (b m)) 0 n r) (sym ex) (next-found (λ m. a m && not (b m)) n 0 zero-le)

  fy : Next (λ m. b m && not (a m)) 0 n y
  fy = subst (λ (r : ℕ). Next (λ m. b m && not (a m)) 0 n r) (sym ey) (next-found (λ m. b m && not (a m)) n 0 zero-le)

  pub first-within : x ≤ n
  first-within = fx.within

  pub second-within : y ≤ n
  second-within = fy.within

  none_before : (j : ℕ) → j < x → j < y → in_one a b j ≡ false
  none_before j l k = ap₂ (λ (s t : Bool). s || t) (fx.none j zero-le l) (fy.none j zero-le k)

  pub side_second : x < y → first_in_one n a b ≡ Option.some (x, true)
  unfolding first_in_one
  side_second l =
      let low : x < n = omega (arith, fy.within) in
      let hit : (a x && not (b x)) ≡ true = fx.hit low in
      ap (map (λ x. (x, a x))) (first-at (in_one a b) n x low (ap (λ (t : Bool). t || (b x && not (a x))) hit) (λ j k. none_before j k (omega arith)))
      ∙ ap (λ (t : Bool). Option.some (x, t)) (and_left (a x) (not (b x)) hit)

  pub side_first : y < x → first_in_one n a b ≡ Option.some (y, false)
  unfolding first_in_one
  side_first l =
      let low : y < n = omega (arith, fx.within) in
      let hit : (b y && not (a y)) ≡ true = fy.hit low in
      ap (map (λ x. (x, a x))) (first-at (in_one a b) n y low (ap (λ (t : Bool). (a y && not (b y)) || t) hit ∙ or-true (a y && not (b y))) (λ j k. none_before j (omega arith) k))
      ∙ ap (λ (t : Bool). Option.some (y, t)) (not-true (a y) (and_right (b y) (not (a y)) hit))

  pub side_none : y ≤ x → x ≤ y → first_in_one n a b ≡ Option.none
  unfolding first_in_one
  side_none l k = ap (map (λ x. (x, a x))) (first-none (in_one a b) n (λ j m. none_before j (omega (arith, past)) (omega (arith, past))))
    where
      past : n ≤ x
      past = bool_cases (λ t. ltb x n ≡ t → n ≤ x) (ltb x n)
          (λ _ h. let low : x < n = ltb-true x n h in let e : y ≡ x = omega arith in
          absurd (never_both (and_left (a x) (not (b x)) (fx.hit low)) (not-true (a x) (and_right (b x) (not (a x)) (subst (λ (m : ℕ). (b m && not (a m)) ≡ true) e (fy.hit (omega arith)))))))
          (λ _ h. ltb-false x n h) refl
