-- The rows of Table 1 whose definition hides a quantifier, in words of logic. The quantifiers themselves: base, proofs/Bounded.
use Prim.Native.Nat.{ℕ, ◌<◌}
use mathlib.Core.List.{List}
use mathlib.Core.Bool.{Bool, true, false, not, ◌&&◌}
use mathlib.Core.Logic.{◌↔◌}
use mathlib.Core.Path.{◌≡◌, refl, sym, ◌∙◌}
use lib.Dec.{eqb}
use lib.ListN.{length, get_or}
use borrow.Author.Tests.{eqb-true, eq-eqb, not-true}
use Rattle.base.specs.Bounded.{◌⇒◌, every, size, members}
use Rattle.base.specs.Lists.{allb, member}
use Rattle.base.specs.Sizes.{HasSize}
use Rattle.base.proofs.Bools.{and_left, and_right, and_both, implies_true, true_implies, same_test, never_both}
use Rattle.base.proofs.Lists.{allb-at, allb-all}
use Rattle.base.proofs.Bounded.{every-at, every-all, size-members, member-members, members-ascending}
use Rattle.model.specs.Graph.{Triple}
use Rattle.model.specs.Shapes.{subset, none_shared, all_pairs}

module _ (n : ℕ) (a b : ℕ → Bool) where
  -- one set in the other
  pub subset_iff : (subset n a b ≡ true) ↔ ((x : ℕ) → x < n → a x ≡ true → b x ≡ true)
  unfolding subset
  subset_iff = (
    λ e x l h. implies_true (a x) (b x) (every-at (λ x. a x ⇒ b x) n e x l) h,
    λ f. every-all (λ x. a x ⇒ b x) n (λ x l. true_implies (a x) (b x) (f x l)),
  )

  -- the sets are equal: the same numbers below n are in both
  pub equal_iff : ((subset n a b && subset n b a) ≡ true) ↔ ((x : ℕ) → x < n → a x ≡ b x)
  unfolding subset
  equal_iff = (
    λ e x l. same_test (a x) (b x) (implies_true (a x) (b x) (every-at (λ x. a x ⇒ b x) n (and_left (subset n a b) (subset n b a) e) x l)) (implies_true (b x) (a x) (every-at (λ x. b x ⇒ a x) n (and_right (subset n a b) (subset n b a) e) x l)),
    λ f. and_both (subset n a b) (subset n b a) (every-all (λ x. a x ⇒ b x) n (λ x l. true_implies (a x) (b x) (λ h. sym (f x l) ∙ h))) (every-all (λ x. b x ⇒ a x) n (λ x l. true_implies (b x) (a x) (λ h. f x l ∙ h))),
  )

  -- the sets are disjoint: no number below n is in both
  pub disjoint_iff : (none_shared n a b ≡ true) ↔ ((x : ℕ) → x < n → a x ≡ true → b x ≡ true → ⊥)
  unfolding none_shared
  disjoint_iff = (
    λ e x l h k. never_both (and_both (a x) (b x) h k) (not-true (a x && b x) (every-at (λ x. not (a x && b x)) n e x l)),
    λ f. every-all (λ x. not (a x && b x)) n (λ x l. none (a x) (b x) (f x l)),
  )
    where
      none : (p q : Bool) → (p ≡ true → q ≡ true → ⊥) → not (p && q) ≡ true
      none true true f = absurd (f refl refl)
      none true false f = refl
      none false q f = refl

  -- every pair of a member of a and a member of b is in r
  pub pairs_iff : (r : ℕ → ℕ → Bool) → (all_pairs n a b r ≡ true) ↔ ((x y : ℕ) → x < n → y < n → a x ≡ true → b y ≡ true → r x y ≡ true)
  unfolding all_pairs
  pairs_iff r = (
    λ e x y l m h k. implies_true (b y) (r x y) (every-at (λ y. b y ⇒ r x y) n (implies_true (a x) (every (λ y. b y ⇒ r x y) n) (every-at (λ x. a x ⇒ every (λ y. b y ⇒ r x y) n) n e x l) h) y m) k,
    λ f. every-all (λ x. a x ⇒ every (λ y. b y ⇒ r x y) n) n (λ x l. true_implies (a x) (every (λ y. b y ⇒ r x y) n) (λ h. every-all (λ y. b y ⇒ r x y) n (λ y m. true_implies (b y) (r x y) (λ k. f x y l m h k)))),
  )

-- a count is a number of different nodes
pub size_counts : (p : ℕ → Bool) (n : ℕ) → HasSize p n (size p n)
size_counts p n = record { numbers = members p n; once = members-ascending p n; those = member-members p n; many = sym (size-members p n) }

-- `closed`: every triple of the list that has v for its subject has a listed predicate
pub closed_iff : (ts : List Triple) (v : ℕ) (ps : List ℕ) (d : Triple)
    → (allb (λ t. eqb t.subject v ⇒ member t.predicate ps) ts ≡ true) ↔ ((i : ℕ) → i < length ts → (get_or ts i d).subject ≡ v → member (get_or ts i d).predicate ps ≡ true)
closed_iff ts v ps d = (
  λ e i l h. implies_true (eqb (get_or ts i d).subject v) (member (get_or ts i d).predicate ps) (allb-at (λ t. eqb t.subject v ⇒ member t.predicate ps) ts d e i l) (eq-eqb (get_or ts i d).subject v h),
  λ f. allb-all (λ t. eqb t.subject v ⇒ member t.predicate ps) ts d (λ i l. true_implies (eqb (get_or ts i d).subject v) (member (get_or ts i d).predicate ps) (λ h. f i l (eqb-true (get_or ts i d).subject v h))),
)
