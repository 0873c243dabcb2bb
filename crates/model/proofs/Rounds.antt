-- The rounds of a search along a repeated relation (document 02, Job 7): no smaller number does; they are fewer than the nodes reached;
-- within so many repetitions all is reached that any number of them reaches, and with one fewer not; a path that is a `star` or a `plus`
-- itself takes one at most.
use Prim.Native.Nat.{ℕ, zero, suc, ◌+◌, ◌-◌, ◌<◌, ◌≤◌, zero-le}
use mathlib.Core.Bool.{Bool, true, false, not, ◌&&◌}
use mathlib.Core.Logic.{◌⊎◌, inl, inr, ⊎_elim, ◌↔◌}
use mathlib.Core.Path.{◌≡◌, refl, sym, ap, ◌∙◌, subst}
use native.Mathlib.Omega.{arith}
use native.Mathlib.Numerals.{add-one}
use lib.Dec.{leb}
use borrow.Author.Tests.{not-true, leb-true, leb-false}
use Rattle.base.specs.Bounded.{some, every, size}
use Rattle.base.proofs.Bools.{bool_cases, and_left, and_right, never_both, never_true, same_test}
use Rattle.base.proofs.Bounded.{some_witness, every-at, every-all, some-every, size_le, size_ext, grown}
use Rattle.base.proofs.Least.{Next, next-found, next_ext, least-is}
use Rattle.model.specs.Repeats.{up_to, star, plus}
use Rattle.model.specs.Shapes.{same_members}
use Rattle.model.specs.Rounds.{settled, rounds, Settles}
use Rattle.model.proofs.Growth.{Still, growing, stays}
use Rattle.model.proofs.Logic.{equal_iff}
use Rattle.model.proofs.Repeats.{up_to-step, up_to_self, up_to-cases, up_to-none, up_to_suc, up_to-trans, up_to-star, up_to-agree, star-trans, plus-trans}

-- ---- one repetition more, at the end
module _ (r : ℕ → ℕ → Bool) (n : ℕ) where
  -- what k + 1 repetitions reach, k do, or a step from there
  pub last-cases : (k v w : ℕ) → v < n → up_to r n (suc k) v w ≡ true → (up_to r n k v w ≡ true) ⊎ ((u : ℕ) × (u < n) × (up_to r n k v u ≡ true) × (r u w ≡ true))
  last-cases zero v w l e = ⊎_elim
      (λ q. inl (subst (λ (x : ℕ). up_to r n 0 v x ≡ true) q (up_to_self r n 0 v)))
      (λ h. inr (v, l, up_to_self r n 0 v, subst (λ (x : ℕ). r v x ≡ true) (up_to-none r n h.0 w h.3) h.2))
      (up_to-cases r n 0 v w e)
  last-cases (suc k) v w l e = ⊎_elim
      (λ q. inl (subst (λ (x : ℕ). up_to r n (suc k) v x ≡ true) q (up_to_self r n (suc k) v)))
      (λ h. ⊎_elim (λ f. inl (up_to-step r n k v h.0 w h.1 h.2 f)) (λ f. inr (f.0, f.1, up_to-step r n k v h.0 f.0 h.1 h.2 f.2, f.3)) (last-cases k h.0 w h.1 h.3))
      (up_to-cases r n (suc k) v w e)

  pub last_step : (k v u w : ℕ) → w < n → up_to r n k v u ≡ true → r u w ≡ true → up_to r n (suc k) v w ≡ true
  last_step k v u w l e f = subst (λ (m : ℕ). up_to r n m v w ≡ true) (add-one k) (up_to-trans r n k 1 v u w e (up_to-step r n 0 u w w l f (up_to_self r n 0 w)))

module _ (r : ℕ → ℕ → Bool) (n v : ℕ) where
  abbrev within : ℕ → ℕ → Bool
  within k w = up_to r n k v w

  pub settled_iff : (k : ℕ) → (settled r n v k ≡ true) ↔ Still n within k
  unfolding settled
  settled_iff k = let both = equal_iff n (up_to r n k v) (up_to r n (suc k) v) in (λ e w l. sym (both.0 e w l), λ h. both.1 (λ w l. sym (h w l)))

  -- round k + 1 reaches w, and none before it did
  abbrev new : ℕ → ℕ → Bool
  new k w = within (suc k) w && not (within k w)

  -- a number has settled exactly when the next round reaches nothing new
  pub settled-none : (k : ℕ) → settled r n v k ≡ every (λ w. not (new k w)) n
  settled-none k = same_test (settled r n v k) (every (λ w. not (new k w)) n)
      (λ e. every-all (λ w. not (new k w)) n (λ w l. old (within (suc k) w) (within k w) ((settled_iff k).0 e w l)))
      (λ e. (settled_iff k).1 (λ w l. back (within (suc k) w) (within k w) (up_to_suc r n k v w) (every-at (λ w. not (new k w)) n e w l)))
    where
      old : (a b : Bool) → a ≡ b → not (a && not b) ≡ true
      old true true h = refl
      old true false h = sym h
      old false b h = refl

      back : (a b : Bool) → (b ≡ true → a ≡ true) → not (a && not b) ≡ true → a ≡ b
      back true true h e = refl
      back true false h e = sym e
      back false true h e = h refl
      back false false h e = refl

  -- a round that is not past the last reaches a node that none before it did
  new_node : (k : ℕ) → settled r n v k ≡ false → (w : ℕ) × (w < n) × (up_to r n (suc k) v w ≡ true) × (up_to r n k v w ≡ false)
  new_node k e =
      let some-new : some (new k) n ≡ true = some-every (new k) n ∙ ap not (sym (settled-none k) ∙ e) in
      let (w, l, h) = some_witness (new k) n some-new in
      (w, l, and_left (within (suc k) w) (not (within k w)) h, not-true (within k w) (and_right (within (suc k) w) (not (within k w)) h))

  module _ (l : v < n) where
    next : (k : ℕ) → Still n within k → Still n within (suc k)
    next k h w lw = same_test (within (suc (suc k)) w) (within (suc k) w)
        (λ e. ⊎_elim (λ f. f) (λ f. last_step r n k v f.0 w lw (sym (h f.0 f.1) ∙ f.2) f.3) (last-cases r n (suc k) v w l e))
        (λ e. up_to_suc r n (suc k) v w e)

    -- by no repetition at all the start itself is reached
    start-counts : 1 ≤ size (within 0) n
    start-counts = ⊎_elim (λ h. absurd (never_both (up_to_self r n 0 v) (h v l))) (λ h. omega arith) (grown (λ w. false) (within 0) (λ w e. absurd (never_both e refl)) n)

    -- as long as no number has settled, each round has reached a node that none before it did
    reached-more : (k : ℕ) → ((j : ℕ) → j < k → settled r n v j ≡ false) → k < size (within k) n
    reached-more k h = omega (arith, start-counts, growing n within (λ j w e. up_to_suc r n j v w e) k (λ j lj s. never_both ((settled_iff j).1 s) (h j lj)))

    pub unsettled_low : (k : ℕ) → ((j : ℕ) → j < k → settled r n v j ≡ false) → k < n
    unsettled_low k h = omega (arith, reached-more k h, size_le (within k) n)

    -- ---- what the definition finds
    found : Next (settled r n v) 0 n (rounds r n v)
    unfolding rounds
    found = next-found (settled r n v) n 0 zero-le

    unsettled : (j : ℕ) → j < rounds r n v → settled r n v j ≡ false
    unsettled j h = found.none j zero-le h

    pub rounds-low : rounds r n v < n
    rounds-low = unsettled_low (rounds r n v) unsettled

    -- no smaller number does
    pub rounds_settle : Settles r n v (rounds r n v)
    rounds_settle = record { still = (settled_iff (rounds r n v)).0 (found.hit rounds-low); grows = λ j h. new_node j (unsettled j h) }

    -- and no other number is so
    pub rounds-found : (k : ℕ) → ((j : ℕ) → j < k → settled r n v j ≡ false) → settled r n v k ≡ true → rounds r n v ≡ k
    unfolding rounds
    rounds-found k h e = least-is (settled r n v) n k (unsettled_low k h) h e

    pub rounds_iff : (k : ℕ) → (rounds r n v ≡ k) ↔ Settles r n v k
    rounds_iff k = (
      λ e. subst (λ (x : ℕ). Settles r n v x) e rounds_settle,
      λ s. rounds-found k (λ j h. never_true (settled r n v j) (λ e. let (w, lw, a, b) = s.grows j h in never_both (sym ((settled_iff j).0 e w lw) ∙ a) b)) ((settled_iff k).1 s.still),
    )

    -- a number that has settled is no smaller
    pub rounds_most : (k : ℕ) → settled r n v k ≡ true → rounds r n v ≤ k
    rounds_most k e = bool_cases (λ b. leb (rounds r n v) k ≡ b → rounds r n v ≤ k) (leb (rounds r n v) k) (λ _ q. leb-true (rounds r n v) k q) (λ _ q. absurd (never_both e (unsettled k (leb-false (rounds r n v) k q)))) refl

    -- all that any number of repetitions reaches
    pub rounds_reach : (w : ℕ) → w < n → up_to r n (rounds r n v) v w ≡ star r n v w
    unfolding star
    rounds_reach w lw =
        let k = rounds r n v in
        let e : n - k + k ≡ n = omega (arith, rounds-low) in
        sym (stays n within (λ j w e. up_to_suc r n j v w e) next k rounds_settle.still (n - k) w lw) ∙ ap (λ (m : ℕ). up_to r n m v w) e

    -- one repetition fewer does not reach all of it
    pub rounds-needed : (k : ℕ) → rounds r n v ≡ suc k → (w : ℕ) × (w < n) × (star r n v w ≡ true) × (up_to r n k v w ≡ false)
    rounds-needed k e = let (w, lw, a, b) = rounds_settle.grows k (omega (arith, e)) in (w, lw, up_to-star r n (suc k) v w l a, b)

    -- they are fewer than the nodes reached
    pub rounds-few : rounds r n v < size (star r n v) n
    rounds-few = subst (λ (m : ℕ). rounds r n v < m) (size_ext (within (rounds r n v)) (star r n v) n rounds_reach) (reached-more (rounds r n v) unsettled)

-- relations that agree between the numbers below n
pub rounds_ext : (r q : ℕ → ℕ → Bool) (n v : ℕ) → ((v w : ℕ) → v < n → w < n → r v w ≡ q v w) → v < n → rounds r n v ≡ rounds q n v
unfolding rounds settled
rounds_ext r q n v same l = next_ext (settled r n v) (settled q n v) 0 n (λ k _ i. same_members n (λ w. up_to-agree r q n same k v w l i) (λ w. up_to-agree r q n same (suc k) v w l i))

-- a relation that leads on through nodes has at most one round
pub rounds_transitive : (r : ℕ → ℕ → Bool) (n v : ℕ) → ((v u w : ℕ) → v < n → u < n → w < n → r v u ≡ true → r u w ≡ true → r v w ≡ true) → v < n → rounds r n v ≤ 1
rounds_transitive r n v trans l = rounds_most r n v l 1 ((settled_iff r n v 1).1 (λ w lw. same_test (up_to r n 2 v w) (up_to r n 1 v w) (λ e. ⊎_elim (λ f. f) (two w lw) (last-cases r n 1 v w l e)) (up_to_suc r n 1 v w)))
  where
    step : (u w : ℕ) → w < n → r u w ≡ true → up_to r n 1 u w ≡ true
    step u w lw e = up_to-step r n 0 u w w lw e (up_to_self r n 0 w)

    two : (w : ℕ) → w < n → (u : ℕ) × (u < n) × (up_to r n 1 v u ≡ true) × (r u w ≡ true) → up_to r n 1 v w ≡ true
    two w lw (u, lu, e, f) = ⊎_elim
        (λ q. step v w lw (subst (λ (x : ℕ). r x w ≡ true) (sym q) f))
        (λ h. step v w lw (trans v u w l lu lw (subst (λ (x : ℕ). r v x ≡ true) (up_to-none r n h.0 u h.3) h.2) f))
        (up_to-cases r n 0 v u e)

-- so have a `star` and a `plus`
pub rounds-star : (r : ℕ → ℕ → Bool) (n v : ℕ) → v < n → rounds (star r n) n v ≤ 1
rounds-star r n v = rounds_transitive (star r n) n v (λ v u w lv _ _. star-trans r n v u w lv)

pub rounds-plus : (r : ℕ → ℕ → Bool) (n v : ℕ) → v < n → rounds (plus r n) n v ≤ 1
rounds-plus r n v = rounds_transitive (plus r n) n v (λ v u w _ lu _. plus-trans r n v u w lu)
