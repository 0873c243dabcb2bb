-- What the code stores for one entry is what the table says.
use Prim.Native.Nat.{ℕ, ◌+◌, ◌-◌}
use mathlib.Core.List.{List, [], ◌∷◌}
use mathlib.Core.Path.{◌≡◌, sym, ap, ◌∙◌, subst}
use native.Mathlib.Omega.{arith}
use borrow.Author.Tests.{eq-eqb, ne_eqb}
use Rattle.tables.specs.Layout.{no_number}
use Rattle.plan.specs.Steps.{Step, numbers_of}
use Rattle.plan.specs.Layout.{with_numbers, with_steps}
use Rattle.translation.specs.Compile.{Part, two, count_way, count_part}
use Rattle.compiler.specs.Stores.{TwoAdded, Added}

module _ (ps p1 p2 : List ℕ) (n : ℕ) where
  pub two_law : (xs ys : List ℕ) (next k m : ℕ) → p1 ≡ with_numbers ps n xs → p2 ≡ with_numbers p1 (n + 1) ys → next ≡ n + 2 → k ≡ n → m ≡ n + 1 → TwoAdded ps p2 n xs ys next k m
  two_law xs ys next k m e f en g h = record { stored = f ∙ ap (λ (p : List ℕ). with_numbers p (n + 1) ys) e; after = en; keeps = g; breaks = h }

-- the same numbers in other words; the same for two steps
pub put_as : (ps : List ℕ) (n : ℕ) {qs xs ys : List ℕ} → qs ≡ with_numbers ps n xs → xs ≡ ys → qs ≡ with_numbers ps n ys
put_as ps n h e = h ∙ ap (with_numbers ps n) e

pub two_as : {ps qs : List ℕ} {n : ℕ} {xs ys us vs : List ℕ} {next k m : ℕ} → xs ≡ us → ys ≡ vs → TwoAdded ps qs n xs ys next k m → TwoAdded ps qs n us vs next k m
two_as {ps} {qs} {n} e f r = record { stored = r.stored ∙ (λ i. with_numbers (with_numbers ps n (e i)) (n + 1) (f i)); after = r.after; keeps = r.keeps; breaks = r.breaks }

-- two steps by their numbers, and by name
pub two_added : (ps qs : List ℕ) (n : ℕ) (s t : Step) (next k m : ℕ) → TwoAdded ps qs n (numbers_of s) (numbers_of t) next k m → Added ps qs n (two n s t) next k m
unfolding with_steps
two_added ps qs n s t next k m r = record { stored = r.stored; after = r.after; keeps = r.keeps; breaks = r.breaks }

-- a count: its own step, then one of the four ways to break it
module _ {ps qs : List ℕ} {n next k m : ℕ} (p j lo hi : ℕ) where
  way : (x : Part) → count_part n p j lo hi ≡ x → Added ps qs n x next k m → Added ps qs n (count_part n p j lo hi) next k m
  way x e r = subst (λ (y : Part). Added ps qs n y next k m) (sym e) r

  -- the first three have one step more
  one_more_lem : (t : Step) → count_part n p j lo hi ≡ two n (Step.count p j lo hi) t → TwoAdded ps qs n (numbers_of (Step.count p j lo hi)) (numbers_of t) next k m → Added ps qs n (count_part n p j lo hi) next k m
  one_more_lem t e r = way (two n (Step.count p j lo hi) t) e (two_added ps qs n (Step.count p j lo hi) t next k m r)

  pub count_none : lo ≡ 0 → hi ≡ no_number → TwoAdded ps qs n (numbers_of (Step.count p j lo hi)) (numbers_of Step.none) next k m → Added ps qs n (count_part n p j lo hi) next k m
  unfolding count_part count_way
  count_none z t r = one_more_lem Step.none (rw (eq-eqb lo 0 z, eq-eqb hi no_number t)) r

  pub count-high : lo ≡ 0 → (hi ≡ no_number → ⊥) → TwoAdded ps qs n (numbers_of (Step.count p j lo hi)) (numbers_of (Step.count p j (hi + 1) no_number)) next k m → Added ps qs n (count_part n p j lo hi) next k m
  unfolding count_part count_way
  count-high z t r = one_more_lem (Step.count p j (hi + 1) no_number) (rw (eq-eqb lo 0 z, ne_eqb hi no_number t)) r

  pub count_low : (lo ≡ 0 → ⊥) → hi ≡ no_number → TwoAdded ps qs n (numbers_of (Step.count p j lo hi)) (numbers_of (Step.count p j 0 (lo - 1))) next k m → Added ps qs n (count_part n p j lo hi) next k m
  unfolding count_part count_way
  count_low z t r = one_more_lem (Step.count p j 0 (lo - 1)) (rw (ne_eqb lo 0 z, eq-eqb hi no_number t)) r

  -- two steps, then one more and the one that joins two of them
  pub count-both : {p2 p3 : List ℕ} {x y n2 n3 : ℕ} → (lo ≡ 0 → ⊥) → (hi ≡ no_number → ⊥) → TwoAdded ps p2 n (numbers_of (Step.count p j lo hi)) (numbers_of (Step.count p j 0 (lo - 1))) n2 k x → p3 ≡ with_numbers p2 n2 (numbers_of (Step.count p j (hi + 1) no_number)) → qs ≡ with_numbers p3 n3 (numbers_of (Step.either x y)) → n3 ≡ n2 + 1 → next ≡ n3 + 1 → y ≡ n2 → m ≡ n3 → Added ps qs n (count_part n p j lo hi) next k m
  unfolding count_part count_way with_steps
  count-both {p2} {p3} {x} {y} {n2} {n3} z t r h i e3 e4 ey em =
      let at2 : n2 ≡ n + 1 + 1 = omega (arith, r.after) in
      let at3 : n3 ≡ n + 1 + 1 + 1 = omega (arith, r.after) in
      let y2 : y ≡ n + 2 = ey ∙ r.after in
      let end : next ≡ n + 4 = omega (arith, r.after) in
      let own : m ≡ n + 3 = omega (arith, r.after) in
      way (record { steps = Step.count p j lo hi ∷ Step.count p j 0 (lo - 1) ∷ Step.count p j (hi + 1) no_number ∷ Step.either (n + 1) (n + 2) ∷ []; keep = n; breaking = n + 3 }) (rw (ne_eqb lo 0 z, ne_eqb hi no_number t))
      (record {
        stored = i ∙ (λ q. with_numbers ((h ∙ (λ q. with_numbers (r.stored q) (at2 q) (numbers_of (Step.count p j (hi + 1) no_number)))) q) (at3 q) (numbers_of (Step.either (r.breaks q) (y2 q))));
        after = end;
        keeps = r.keeps;
        breaks = own;
      })
