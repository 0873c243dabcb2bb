-- The laws of searches. What is found has the property, and nothing before it has; nothing is found where nothing has it.
-- Nothing is found exactly where the condition is kept, and something exactly where it is broken.
use Prim.Native.Nat.{ℕ, zero, suc, ◌≤◌, ◌<◌, zero-le}
use mathlib.Core.Bool.{Bool, true, false, not, cond, ◌&&◌, not-not}
use mathlib.Core.Logic.{◌⊎◌, inl, inr, ⊎_elim}
use mathlib.Core.Option.{Option, map, some-injective, none-ne-some, or_else}
use mathlib.Core.Path.{◌≡◌, refl, sym, ap, ap₂, ◌∙◌, subst}
use native.Mathlib.Nat.{eq-or-lt_of_le, le_of_suc-le-suc}
use native.Mathlib.Omega.{arith}
use lib.Dec.{ltb}
use borrow.Author.Tests.{ltb-true, ltb-false}
use Rattle.std.specs.Prelude as std
use Rattle.base.specs.Bounded.{◌⇒◌, some}
use Rattle.base.proofs.Bools.{bool_cases, never_both, not_implies}
use Rattle.base.proofs.Bounded.{some_at, some_witness, some_ext, some-none, some_and, not-every}
use Rattle.base.specs.Least.{next_from}
use Rattle.base.proofs.Least.{Next, next-found}
use Rattle.model.specs.Shapes.{subset, none_shared, all_pairs}
use Rattle.plan.specs.Conditions.{in_one, some_in_one, some_shared, some_pair}
use Rattle.plan.proofs.Complements.{not_equal, not-apart, not_pairs}
use Rattle.model.specs.declared.NodeNo.{NodeNo}
use Rattle.conditions.specs.declared.Side.{Side}
use Rattle.conditions.specs.declared.Side.TheVariants.{SecondLacks, FirstLacks}
use Rattle.conditions.specs.Searches.{first, first_row, first_pair, among, first_in_one, found, nothing, node_found, pair_found, side_found, fact_found}

pub nothing-not : {A : Type 0} (o : Option A) → nothing o ≡ not (found o)
nothing-not Option.none = refl
nothing-not (Option.some x) = refl

-- nothing is found where the contrary of what is found fails
pub kept : {A : Type 0} (o : Option A) (b : Bool) → found o ≡ not b → nothing o ≡ b
kept o b e = nothing-not o ∙ ap not e ∙ not-not b

-- ---- what a caller reads off: something was found, nothing was
pub some_node : (o : std.Option NodeNo) → std.is_some o ≡ found (node_found o)
some_node (std.Some v) = refl
some_node std.None = refl

pub some-pair : (o : std.Option (NodeNo × NodeNo)) → std.is_some o ≡ found (pair_found o)
some-pair (std.Some p) = refl
some-pair std.None = refl

pub some_side : (o : std.Option Side) → std.is_some o ≡ found (side_found o)
some_side (std.Some (SecondLacks v)) = refl
some_side (std.Some (FirstLacks v)) = refl
some_side std.None = refl

pub some_fact : (o : std.Option ℕ) → std.is_some o ≡ found (fact_found o)
some_fact (std.Some i) = refl
some_fact std.None = refl

-- o is what was found, s says that something was, b that nothing was
pub none-of : {A : Type 0} (o : Option A) {s b : Bool} → s ≡ found o → s ≡ not b → b ≡ nothing o
none-of o {b = b} e h = sym (nothing-not o ∙ ap not (sym e ∙ h) ∙ not-not b)

-- ---- one number
module _ (p : ℕ → Bool) where
  -- nothing below n has p; i has it, and nothing before i
  pub first-none : (n : ℕ) → ((j : ℕ) → j < n → p j ≡ false) → first p n ≡ Option.none
  unfolding first or_else
  first-none zero h = refl
  first-none (suc n) h = ap₂ (λ (o : Option ℕ) (b : Bool). or_else o (cond b (Option.some n) Option.none)) (first-none n (λ j l. h j (omega arith))) (h n (omega arith))

  pub first-at : (n i : ℕ) → i < n → p i ≡ true → ((j : ℕ) → j < i → p j ≡ false) → first p n ≡ Option.some i
  unfolding first or_else
  first-at zero i l h g = absurd (omega arith)
  first-at (suc n) i l h g = ⊎_elim
      (λ q. ap₂ (λ (o : Option ℕ) (b : Bool). or_else o (cond b (Option.some n) Option.none)) (first-none n (λ j m. g j (omega arith))) (ap p (sym q) ∙ h) ∙ ap (λ (k : ℕ). Option.some k) (sym q))
      (λ m. ap (λ (o : Option ℕ). or_else o (cond (p n) (Option.some n) Option.none)) (first-at n i m h g))
      (eq-or-lt_of_le (le_of_suc-le-suc l))

  -- i is the first below n
  pub record First (n i : ℕ) : Type 0 where
    pub low : i < n
    pub hit : p i ≡ true
    pub none : (j : ℕ) → j < i → p j ≡ false

  -- a search ends one way or the other
  pub search : (n : ℕ) → ((j : ℕ) → j < n → p j ≡ false) ⊎ ((i : ℕ) × First n i)
  search zero = inl (λ j l. absurd (omega arith))
  search (suc n) = ⊎_elim
      (λ h. bool_cases (λ b. p n ≡ b → ((j : ℕ) → j < suc n → p j ≡ false) ⊎ ((i : ℕ) × First (suc n) i)) (p n)
      (λ _ e. inr (n, record { low = omega arith; hit = e; none = h }))
      (λ _ e. inl (λ j l. ⊎_elim (λ q. ap p q ∙ e) (λ m. h j m) (eq-or-lt_of_le (le_of_suc-le-suc l)))) refl)
      (λ t. let f : First n t.0 = t.1 in inr (t.0, record { low = omega (arith, f.low); hit = f.hit; none = f.none }))
      (search n)

  pub first-is : (n i : ℕ) → first p n ≡ Option.some i → First n i
  first-is n i e = ⊎_elim
      (λ h. absurd (none-ne-some i (sym (first-none n h) ∙ e)))
      (λ t. subst (First n) (some-injective t.0 i (sym (first-at n t.0 t.1.low t.1.hit t.1.none) ∙ e)) t.1)
      (search n)

  pub first_found : (n : ℕ) → found (first p n) ≡ some p n
  first_found n = ⊎_elim
      (λ h. ap found (first-none n h) ∙ sym (some_ext p (λ i. false) n h ∙ some-none n))
      (λ t. ap found (first-at n t.0 t.1.low t.1.hit t.1.none) ∙ sym (some_at p n t.0 t.1.low t.1.hit))
      (search n)

  -- as nodeset finds it
  pub first_next : (n r : ℕ) → r ≡ next_from p 0 n → cond (ltb r n) (Option.some r) Option.none ≡ first p n
  first_next n r e = subst (λ (r : ℕ). cond (ltb r n) (Option.some r) Option.none ≡ first p n) (sym e)
      (let x : Next p 0 n (next_from p 0 n) = next-found p n 0 zero-le in
      bool_cases (λ b. ltb (next_from p 0 n) n ≡ b → cond b (Option.some (next_from p 0 n)) Option.none ≡ first p n) (ltb (next_from p 0 n) n)
      (λ _ l. let low : next_from p 0 n < n = ltb-true (next_from p 0 n) n l in sym (first-at n (next_from p 0 n) low (x.hit low) (λ j m. x.none j zero-le m)))
      (λ _ l. let past : n ≤ next_from p 0 n = ltb-false (next_from p 0 n) n l in sym (first-none n (λ j m. x.none j zero-le (omega arith)))) refl)

pub first_ext : (p q : ℕ → Bool) (n : ℕ) → ((j : ℕ) → j < n → p j ≡ q j) → first p n ≡ first q n
unfolding first
first_ext p q zero h = refl
first_ext p q (suc n) h = ap₂ (λ (o : Option ℕ) (b : Bool). or_else o (cond b (Option.some n) Option.none)) (first_ext p q n (λ j l. h j (omega arith))) (h n (omega arith))

-- ---- a pair
module _ (r : ℕ → ℕ → Bool) (n : ℕ) where
  row-none : (m : ℕ) → ((x y : ℕ) → x < m → y < n → r x y ≡ false) → first_row r n m ≡ Option.none
  unfolding first_row or_else
  row-none zero h = refl
  row-none (suc m) h = ap₂ (λ (o : Option (ℕ × ℕ)) (y : Option ℕ). or_else o (map (λ y. (m, y)) y)) (row-none m (λ x y l k. h x y (omega arith) k)) (first-none (r m) n (λ y k. h m y (omega arith) k))

  row_at : (m x y : ℕ) → x < m → y < n → r x y ≡ true → ((u v : ℕ) → u < x → v < n → r u v ≡ false) → ((v : ℕ) → v < y → r x v ≡ false) → first_row r n m ≡ Option.some (x, y)
  unfolding first_row or_else
  row_at zero x y l k h g f = absurd (omega arith)
  row_at (suc m) x y l k h g f = ⊎_elim
      (λ q. ap₂ (λ (o : Option (ℕ × ℕ)) (y : Option ℕ). or_else o (map (λ y. (m, y)) y)) (row-none m (λ u v lu lv. g u v (omega arith) lv)) (first-at (r m) n y k (ap (λ (u : ℕ). r u y) (sym q) ∙ h) (λ v lv. ap (λ (u : ℕ). r u v) (sym q) ∙ f v lv)) ∙ ap (λ (u : ℕ). Option.some (u, y)) (sym q))
      (λ l'. ap (λ (o : Option (ℕ × ℕ)). or_else o (map (λ y. (m, y)) (first (r m) n))) (row_at m x y l' k h g f))
      (eq-or-lt_of_le (le_of_suc-le-suc l))

  -- (x, y) is the first pair below n
  pub record FirstPair (x y : ℕ) : Type 0 where
    pub first-low : x < n
    pub second-low : y < n
    pub hit : r x y ≡ true
    pub rows : (u v : ℕ) → u < x → v < n → r u v ≡ false
    pub row : (v : ℕ) → v < y → r x v ≡ false

  pub pair-none : ((x y : ℕ) → x < n → y < n → r x y ≡ false) → first_pair r n ≡ Option.none
  unfolding first_pair
  pair-none h = row-none n h

  pub pair-at : (x y : ℕ) → FirstPair x y → first_pair r n ≡ Option.some (x, y)
  unfolding first_pair
  pair-at x y f = row_at n x y f.first-low f.second-low f.hit f.rows f.row

  some_false : (p : ℕ → Bool) → some p n ≡ false → (j : ℕ) → j < n → p j ≡ false
  some_false p e j l = bool_cases (λ b. p j ≡ b → p j ≡ false) (p j) (λ _ h. absurd (never_both (some_at p n j l h) e)) (λ _ h. h) refl

  pub search_pair : ((x y : ℕ) → x < n → y < n → r x y ≡ false) ⊎ ((x : ℕ) × (y : ℕ) × FirstPair x y)
  search_pair = ⊎_elim
      (λ h. inl (λ x y l k. some_false (r x) (h x l) y k))
      (λ t. let f : First (λ x. some (r x) n) n t.0 = t.1 in ⊎_elim
      (λ g. let w = some_witness (r t.0) n f.hit in absurd (never_both w.2 (g w.0 w.1)))
      (λ s. let g : First (r t.0) n s.0 = s.1 in inr (t.0, s.0, record { first-low = f.low; second-low = g.low; hit = g.hit; rows = λ u v l k. some_false (r u) (f.none u l) v k; row = g.none }))
      (search (r t.0) n))
      (search (λ x. some (r x) n) n)

  pub pair_is : (x y : ℕ) → first_pair r n ≡ Option.some (x, y) → FirstPair x y
  pair_is x y e = ⊎_elim
      (λ h. absurd (none-ne-some (x, y) (sym (pair-none h) ∙ e)))
      (λ t. subst (λ (p : ℕ × ℕ). FirstPair p.0 p.1) (some-injective (t.0, t.1) (x, y) (sym (pair-at t.0 t.1 t.2) ∙ e)) t.2)
      search_pair

  pub pair_found_lem : found (first_pair r n) ≡ some (λ x. some (r x) n) n
  pair_found_lem = ⊎_elim
      (λ h. ap found (pair-none h) ∙ sym (some_ext (λ x. some (r x) n) (λ x. false) n (λ x l. some_ext (r x) (λ y. false) n (λ y k. h x y l k) ∙ some-none n) ∙ some-none n))
      (λ t. let f : FirstPair t.0 t.1 = t.2 in ap found (pair-at t.0 t.1 f) ∙ sym (some_at (λ x. some (r x) n) n t.0 f.first-low (some_at (r t.0) n t.1 f.second-low f.hit)))
      search_pair

pub pair_ext : (r s : ℕ → ℕ → Bool) (n : ℕ) → ((x y : ℕ) → x < n → y < n → r x y ≡ s x y) → first_pair r n ≡ first_pair s n
pair_ext r s n h = ⊎_elim
    (λ g. pair-none r n g ∙ sym (pair-none s n (λ x y l k. sym (h x y l k) ∙ g x y l k)))
    (λ t. let f : FirstPair r n t.0 t.1 = t.2 in pair-at r n t.0 t.1 f ∙ sym (pair-at s n t.0 t.1 (record {
      first-low = f.first-low;
      second-low = f.second-low;
      hit = sym (h t.0 t.1 f.first-low f.second-low) ∙ f.hit;
      rows = λ u v l k. sym (h u v (omega (arith, f.first-low)) k) ∙ f.rows u v l k;
      row = λ v l. sym (h t.0 v f.first-low (omega (arith, f.second-low))) ∙ f.row v l;
    })))
    (search_pair r n)

-- ---- kept and broken conditions on two sets: nothing was found, something was
module _ (n : ℕ) (a b : ℕ → Bool) where
  -- one set in the other: nothing of it is outside
  pub outside_keeps : nothing (first (λ x. a x && not (b x)) n) ≡ subset n a b
  unfolding subset
  outside_keeps = kept (first (λ x. a x && not (b x)) n) (subset n a b) (first_found (λ x. a x && not (b x)) n ∙ sym (not-every (λ x. a x ⇒ b x) (λ x. a x && not (b x)) n (λ x l. not_implies (a x) (b x))))

  -- no common member
  pub shared-breaks : found (first (λ x. a x && b x) n) ≡ some_shared n a b
  unfolding some_shared
  shared-breaks = first_found (λ x. a x && b x) n

  pub shared_keeps : nothing (first (λ x. a x && b x) n) ≡ none_shared n a b
  shared_keeps = kept (first (λ x. a x && b x) n) (none_shared n a b) (shared-breaks ∙ sym (not-apart n a b))

  -- the same members
  found_map : {A B : Type 0} (f : A → B) (o : Option A) → found (map f o) ≡ found o
  found_map f Option.none = refl
  found_map f (Option.some x) = refl

  pub one-breaks : found (first_in_one n a b) ≡ some_in_one n a b
  unfolding first_in_one some_in_one
  one-breaks = found_map (λ x. (x, a x)) (first (in_one a b) n) ∙ first_found (in_one a b) n

  pub one-keeps : nothing (first_in_one n a b) ≡ (subset n a b && subset n b a)
  one-keeps = kept (first_in_one n a b) (subset n a b && subset n b a) (one-breaks ∙ sym (not_equal n a b))

  -- pairs of members
  module _ (f : ℕ → ℕ → Bool) where
    pub pair-breaks : found (first_pair (among a b f) n) ≡ some_pair n a b f
    unfolding some_pair
    pair-breaks = pair_found_lem (among a b f) n ∙ some_ext (λ x. some (λ y. a x && (b y && f x y)) n) (λ x. a x && some (λ y. b y && f x y) n) n (λ x l. some_and (a x) (λ y. b y && f x y) n)

    pub pair_keeps : (g : ℕ → ℕ → Bool) → ((x y : ℕ) → not (g x y) ≡ f x y) → nothing (first_pair (among a b f) n) ≡ all_pairs n a b g
    pair_keeps g h = kept (first_pair (among a b f) n) (all_pairs n a b g) (pair-breaks ∙ sym (not_pairs n a b g f h))

-- ---- the same of what the code found, read off
module _ (n : ℕ) (a b : ℕ → Bool) where
  pub subset-kept : (o : std.Option NodeNo) {t : Bool} → node_found o ≡ first (λ x. a x && not (b x)) n → std.is_some o ≡ not t → t ≡ subset n a b
  subset-kept o e h = none-of (node_found o) (some_node o) h ∙ ap nothing e ∙ outside_keeps n a b

  pub apart_kept : (o : std.Option NodeNo) {t : Bool} → node_found o ≡ first (λ x. a x && b x) n → std.is_some o ≡ not t → t ≡ none_shared n a b
  apart_kept o e h = none-of (node_found o) (some_node o) h ∙ ap nothing e ∙ shared_keeps n a b

  pub apart-broken : (o : std.Option NodeNo) → node_found o ≡ first (λ x. a x && b x) n → std.is_some o ≡ some_shared n a b
  apart-broken o e = some_node o ∙ ap found e ∙ shared-breaks n a b

  pub equal-kept : (o : std.Option Side) {t : Bool} → side_found o ≡ first_in_one n a b → std.is_some o ≡ not t → t ≡ (subset n a b && subset n b a)
  equal-kept o e h = none-of (side_found o) (some_side o) h ∙ ap nothing e ∙ one-keeps n a b

  pub equal-broken : (o : std.Option Side) → side_found o ≡ first_in_one n a b → std.is_some o ≡ some_in_one n a b
  equal-broken o e = some_side o ∙ ap found e ∙ one-breaks n a b
