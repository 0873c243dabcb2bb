-- Conditions on two sets, of the sets that words are the words of.
use Prim.Native.Nat.{ℕ, ◌+◌, ◌-◌, ◌≤◌, ◌<◌}
use mathlib.Core.List.{List}
use mathlib.Core.Bool.{Bool, true, false, not, ◌&&◌, and-false}
use mathlib.Core.Path.{◌≡◌, refl, ap, ap₂, ◌∙◌}
use native.Mathlib.Omega.{arith}
use lib.Dec.{ltb}
use borrow.Author.Tests.{ltb-true, ltb-false}
use Rattle.base.specs.Bounded.{◌⇒◌, every, size}
use Rattle.base.proofs.Bounded.{every_ext, size_ext, size_beyond}
use Rattle.base.proofs.Bools.{bool_cases}
use Rattle.nodeset.specs.Words.{has, both, words_of}
use Rattle.nodeset.proofs.Sets.{has_of, has_out, length_of}
use Rattle.model.specs.Limits.{max_nodes}
use Rattle.model.specs.Shapes.{subset, none_shared, all_pairs}

module _ {a b : List ℕ} (p q : ℕ → Bool) (n : ℕ) (room : n ≤ max_nodes) (ea : a ≡ words_of p 16) (eb : b ≡ words_of q 16) where
  pub subset_of : subset n (has a) (has b) ≡ subset n p q
  unfolding subset
  subset_of = every_ext (λ x. has a x ⇒ has b x) (λ x. p x ⇒ q x) n (λ x l. ap₂ (λ (s t : Bool). s ⇒ t) (has_of p 16 ea x (omega arith)) (has_of q 16 eb x (omega arith)))

  pub shared_of : none_shared n (has a) (has b) ≡ none_shared n p q
  unfolding none_shared
  shared_of = every_ext (λ x. not (has a x && has b x)) (λ x. not (p x && q x)) n (λ x l. ap₂ (λ (s t : Bool). not (s && t)) (has_of p 16 ea x (omega arith)) (has_of q 16 eb x (omega arith)))

  pub pairs_of : (r : ℕ → ℕ → Bool) → all_pairs n (has a) (has b) r ≡ all_pairs n p q r
  unfolding all_pairs
  pairs_of r = every_ext (λ x. has a x ⇒ every (λ y. has b y ⇒ r x y) n) (λ x. p x ⇒ every (λ y. q y ⇒ r x y) n) n (λ x l.
      ap₂ (λ (s t : Bool). s ⇒ t) (has_of p 16 ea x (omega arith)) (every_ext (λ y. has b y ⇒ r x y) (λ y. q y ⇒ r x y) n (λ y k. ap (λ (t : Bool). t ⇒ r x y) (has_of q 16 eb y (omega arith)))))

-- with a set that any words have
module _ {a : List ℕ} (b : List ℕ) (p : ℕ → Bool) (n : ℕ) (room : n ≤ max_nodes) (ea : a ≡ words_of p 16) where
  pub every_of : subset n (has a) (has b) ≡ every (λ x. p x ⇒ has b x) n
  unfolding subset
  every_of = every_ext (λ x. has a x ⇒ has b x) (λ x. p x ⇒ has b x) n (λ x l. ap (λ (t : Bool). t ⇒ has b x) (has_of p 16 ea x (omega arith)))

  -- the members that both sets have below 1,024 lie below n
  pub size_of : ((x : ℕ) → x < max_nodes → has b x ≡ true → x < n) → size (both a b) max_nodes ≡ size (λ x. p x && has b x) n
  size_of low =
      ap (size (both a b)) (let e : max_nodes ≡ n + (max_nodes - n) = omega arith in e) ∙ size_beyond (both a b) n (max_nodes - n) none
      ∙ size_ext (both a b) (λ x. p x && has b x) n (λ x l. ap (λ (t : Bool). t && has b x) (has_of p 16 ea x (omega arith)))
    where
      none : (x : ℕ) → n ≤ x → both a b x ≡ false
      none x h = bool_cases (λ t. ltb x max_nodes ≡ t → both a b x ≡ false) (ltb x max_nodes)
          (λ _ q. bool_cases (λ t. has b x ≡ t → (has a x && t) ≡ false) (has b x) (λ _ k. absurd (let l : x < n = low x (ltb-true x max_nodes q) k in omega arith)) (λ _ k. and-false (has a x)) refl)
          (λ _ q. ap (λ (t : Bool). t && has b x) (has_out a x (let g : max_nodes ≤ x = ltb-false x max_nodes q in omega (arith, length_of p 16 ea)))) refl
