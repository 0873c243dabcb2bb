-- A node breaks a condition where it does not keep it: each breaking condition is the contrary of the keeping one.
use Prim.Native.Nat.{ℕ, zero, suc, ◌+◌, ◌-◌, ◌≤◌}
use mathlib.Core.List.{List, [], ◌∷◌}
use mathlib.Core.Option.{Option}
use mathlib.Core.Bool.{Bool, true, false, not, cond, ◌&&◌, ◌||◌, not-not}
use mathlib.Core.Path.{◌≡◌, refl, sym, ap, ap₂, ◌∙◌}
use native.Mathlib.Omega.{arith}
use lib.Dec.{eqb, leb, ltb}
use lib.IntN.{ℤ, pos, negsuc}
use lib.Signed.{lt_z, le_z}
use borrow.Author.Tests.{eq-eqb, ne_eqb, le-leb, leb-true, leb-false, le-ltb, lt-ltb}
use Rattle.base.specs.Bounded.{◌⇒◌, some, every, one, size}
use Rattle.base.specs.Lists.{member, anyb, allb}
use Rattle.base.proofs.Bools.{bool_cases, not_and, not_implies}
use Rattle.base.proofs.Bounded.{not-every, some_or}
use Rattle.model.specs.Graph.{Term, iri, blank_node, numeric, plain, tagged, Triple, value_of, datatype_of, language_of, holds}
use Rattle.model.specs.Shapes.{Kind, an_iri, a_blank, a_literal, is_kind, Test, node_kind, datatype, language_in, min_inclusive, min_exclusive, max_inclusive, max_exclusive, satisfies, Upper, at_most, unbounded, within, subset, none_shared, all_pairs, less, less_eq, same_lang, only_listed}
use Rattle.model.specs.Limits.{max_count}
use Rattle.tables.specs.Layout.{no_number}
use Rattle.tables.specs.Decode.{upper_of}
use Rattle.plan.specs.Conditions.{lacks, other_kind, fails_test, not_less, not_less_eq, some_in_one, some_shared, some_pair, clash, some_unlisted}

-- ---- numbers
pub not-leb : (a b : ℕ) → not (leb a b) ≡ ltb b a
not-leb a b = bool_cases (λ t. leb a b ≡ t → not t ≡ ltb b a) (leb a b) (λ _ e. sym (le-ltb b a (leb-true a b e))) (λ _ e. sym (lt-ltb b a (leb-false a b e))) refl

not_le_z : (a b : ℤ) → not (le_z a b) ≡ lt_z b a
not_le_z (pos a) (pos b) = not-leb a b
not_le_z (pos a) (negsuc b) = refl
not_le_z (negsuc a) (pos b) = refl
not_le_z (negsuc a) (negsuc b) = not-leb b a

not_lt_z : (a b : ℤ) → not (lt_z a b) ≡ le_z b a
not_lt_z a b = ap not (sym (not_le_z b a)) ∙ not-not (le_z b a)

-- ---- single terms
not-holds : {A : Type 0} (p q : A → Bool) → ((x : A) → not (p x) ≡ q x) → (o : Option A) → not (holds p o) ≡ lacks q o
unfolding holds lacks
not-holds p q h Option.none = refl
not-holds p q h (Option.some x) = h x

not-kind : (k : Kind) (a : Term) → not (is_kind k a) ≡ other_kind k a
unfolding is_kind other_kind
not-kind an_iri iri = refl
not-kind an_iri blank_node = refl
not-kind an_iri (numeric t x) = refl
not-kind an_iri (plain t) = refl
not-kind an_iri (tagged l) = refl
not-kind a_blank iri = refl
not-kind a_blank blank_node = refl
not-kind a_blank (numeric t x) = refl
not-kind a_blank (plain t) = refl
not-kind a_blank (tagged l) = refl
not-kind a_literal iri = refl
not-kind a_literal blank_node = refl
not-kind a_literal (numeric t x) = refl
not-kind a_literal (plain t) = refl
not-kind a_literal (tagged l) = refl

pub not-satisfies : (t : Test) (a : Term) → not (satisfies t a) ≡ fails_test t a
unfolding satisfies fails_test
not-satisfies (node_kind k) a = not-kind k a
not-satisfies (datatype t) a = not-holds (eqb t) (λ d. not (eqb t d)) (λ d. refl) (datatype_of a)
not-satisfies (language_in ls) a = not-holds (λ l. member l ls) (λ l. not (member l ls)) (λ l. refl) (language_of a)
not-satisfies (min_inclusive x) a = not-holds (λ y. le_z x y) (λ y. lt_z y x) (λ y. not_le_z x y) (value_of a)
not-satisfies (min_exclusive x) a = not-holds (λ y. lt_z x y) (λ y. le_z y x) (λ y. not_lt_z x y) (value_of a)
not-satisfies (max_inclusive x) a = not-holds (λ y. le_z y x) (λ y. lt_z x y) (λ y. not_le_z y x) (value_of a)
not-satisfies (max_exclusive x) a = not-holds (λ y. lt_z y x) (λ y. le_z x y) (λ y. not_lt_z y x) (value_of a)

pub not-less : (a b : Term) → not (less a b) ≡ not_less a b
unfolding less not_less
not-less a b = not-holds (λ x. holds (lt_z x) (value_of b)) (λ x. lacks (λ y. le_z y x) (value_of b)) (λ x. not-holds (lt_z x) (λ y. le_z y x) (λ y. not_lt_z x y) (value_of b)) (value_of a)

pub not-less_eq : (a b : Term) → not (less_eq a b) ≡ not_less_eq a b
unfolding less_eq not_less_eq
not-less_eq a b = not-holds (λ x. holds (le_z x) (value_of b)) (λ x. lacks (λ y. lt_z y x) (value_of b)) (λ x. not-holds (le_z x) (λ y. lt_z y x) (λ y. not_le_z x y) (value_of b)) (value_of a)

pub not-clash : (term : ℕ → Term) (x y : ℕ) → not (not (eqb x y) ⇒ not (same_lang (term x) (term y))) ≡ clash term x y
unfolding clash
not-clash term x y = ways (eqb x y) (same_lang (term x) (term y))
  where
    ways : (a b : Bool) → not (not a ⇒ not b) ≡ (not a && b)
    ways true b = refl
    ways false b = not-not b

-- ---- sets of numbers
module _ (n : ℕ) (a b : ℕ → Bool) where
  pub not_equal : not (subset n a b && subset n b a) ≡ some_in_one n a b
  unfolding subset some_in_one
  not_equal =
      not_and (subset n a b) (subset n b a)
      ∙ ap₂ (λ (x y : Bool). x || y) (not-every (λ x. a x ⇒ b x) (λ x. a x && not (b x)) n (λ x l. not_implies (a x) (b x))) (not-every (λ x. b x ⇒ a x) (λ x. b x && not (a x)) n (λ x l. not_implies (b x) (a x)))
      ∙ sym (some_or (λ x. a x && not (b x)) (λ x. b x && not (a x)) n)

  pub not-apart : not (none_shared n a b) ≡ some_shared n a b
  unfolding none_shared some_shared
  not-apart = not-every (λ x. not (a x && b x)) (λ x. a x && b x) n (λ x l. not-not (a x && b x))

  pub not_pairs : (r q : ℕ → ℕ → Bool) → ((x y : ℕ) → not (r x y) ≡ q x y) → not (all_pairs n a b r) ≡ some_pair n a b q
  unfolding all_pairs some_pair
  not_pairs r q h =
      not-every (λ x. a x ⇒ every (λ y. b y ⇒ r x y) n) (λ x. a x && some (λ y. b y && q x y) n) n (λ x l.
      not_implies (a x) (every (λ y. b y ⇒ r x y) n)
      ∙ ap (λ (t : Bool). a x && t) (not-every (λ y. b y ⇒ r x y) (λ y. b y && q x y) n (λ y m. not_implies (b y) (r x y) ∙ ap (λ (t : Bool). b y && t) (h x y))))

-- ---- triples
pub not-closed : (ts : List Triple) (listed : ℕ → Bool) (v : ℕ) → not (only_listed ts listed v) ≡ some_unlisted ts listed v
unfolding allb anyb some_unlisted
not-closed [] listed v = refl
not-closed (t ∷ ts) listed v = not_and (eqb t.subject v ⇒ listed t.predicate) (only_listed ts listed v) ∙ ap₂ (λ (x y : Bool). x || y) (not_implies (eqb t.subject v) (listed t.predicate)) (not-closed ts listed v)

-- ---- counts: not every end is in m is at least one end outside
some_size : (p : ℕ → Bool) (n : ℕ) → leb 1 (size p n) ≡ some p n
unfolding size some one
some_size p zero = refl
some_size p (suc n) = step (p n) (some_size p n)
  where
    step : (t : Bool) → leb 1 (size p n) ≡ some p n → leb 1 (one t + size p n) ≡ (t || some p n)
    step true e = le-leb 1 (1 + size p n) (omega arith)
    step false e = ap (leb 1) (let z : 0 + size p n ≡ size p n = omega arith in z) ∙ e

pub not-all : (n : ℕ) (a m : ℕ → Bool) → not (every (λ w. a w ⇒ m w) n) ≡ within 1 (upper_of no_number) (size (λ w. a w && not (m w)) n)
unfolding within upper_of
not-all n a m = not-every (λ w. a w ⇒ m w) (λ w. a w && not (m w)) n (λ w l. not_implies (a w) (m w)) ∙ sym (some_size (λ w. a w && not (m w)) n)

-- the four cases of a broken count
leb_zero : (k : ℕ) → leb 0 k ≡ true
leb_zero k = le-leb 0 k (omega arith)

star : (hi : ℕ) → hi ≡ no_number → upper_of hi ≡ unbounded
unfolding upper_of
star hi e = ap (λ (t : Bool). cond t unbounded (at_most hi)) (eq-eqb hi no_number e)

number : (hi : ℕ) → (hi ≡ no_number → ⊥) → upper_of hi ≡ at_most hi
unfolding upper_of
number hi e = ap (λ (t : Bool). cond t unbounded (at_most hi)) (ne_eqb hi no_number e)

-- at least hi + 1; at most lo - 1
above-high : (hi k : ℕ) → not (leb k hi) ≡ within (hi + 1) (upper_of no_number) k
unfolding within upper_of
above-high hi k = not-leb k hi ∙ ap (λ (m : ℕ). leb m k) (let z : suc hi ≡ hi + 1 = omega arith in z)

below-low : (lo k : ℕ) → (lo ≡ 0 → ⊥) → lo ≤ max_count → not (leb lo k) ≡ within 0 (upper_of (lo - 1)) k
unfolding within
below-low lo k z s = not-leb lo k ∙ ap (λ (m : ℕ). leb (suc k) m) (let e : lo ≡ suc (lo - 1) = omega arith in e) ∙ lib.Dec.leb-suc-suc k (lo - 1) ∙ sym (ap (λ (u : Upper). within 0 u k) (number (lo - 1) (λ e. let y : ⊥ = omega arith in y)) ∙ ap (λ (t : Bool). t && leb k (lo - 1)) (leb_zero k))

module _ (lo hi k : ℕ) where
  pub broken_none : lo ≡ 0 → hi ≡ no_number → not (within lo (upper_of hi) k) ≡ false
  unfolding within
  broken_none z s = ap₂ (λ (m : ℕ) (u : Upper). not (within m u k)) z (star hi s) ∙ ap not (leb_zero k)

  pub broken_high : lo ≡ 0 → (hi ≡ no_number → ⊥) → not (within lo (upper_of hi) k) ≡ within (hi + 1) (upper_of no_number) k
  unfolding within
  broken_high z s = ap₂ (λ (m : ℕ) (u : Upper). not (within m u k)) z (number hi s) ∙ ap (λ (t : Bool). not (t && leb k hi)) (leb_zero k) ∙ above-high hi k

  pub broken_low : (lo ≡ 0 → ⊥) → lo ≤ max_count → hi ≡ no_number → not (within lo (upper_of hi) k) ≡ within 0 (upper_of (lo - 1)) k
  unfolding within
  broken_low z s h = ap (λ (u : Upper). not (within lo u k)) (star hi h) ∙ below-low lo k z s

  pub broken_both : (lo ≡ 0 → ⊥) → lo ≤ max_count → (hi ≡ no_number → ⊥) → not (within lo (upper_of hi) k) ≡ (within 0 (upper_of (lo - 1)) k || within (hi + 1) (upper_of no_number) k)
  unfolding within
  broken_both z s h = ap (λ (u : Upper). not (within lo u k)) (number hi h) ∙ not_and (leb lo k) (leb k hi) ∙ ap₂ (λ (x y : Bool). x || y) (below-low lo k z s) (above-high hi k)
