-- The nearest node that has a property, along a repeated relation (document 02, Job 11): what the definition finds is what its words of logic
-- say, and no other answer is; the start itself is the nearest where it has the property; no spare is farther than the rounds of the search.
use Prim.Native.Nat.{ℕ, ◌<◌, ◌≤◌, zero-le}
use mathlib.Core.Bool.{Bool, true, false, cond, ◌&&◌}
use mathlib.Core.Logic.{◌↔◌}
use mathlib.Core.Path.{◌≡◌, refl, sym, ap, ap₂, ◌∙◌, subst}
use native.Mathlib.Omega.{arith}
use lib.Dec.{eqb, leb}
use borrow.Author.Tests.{eqb-true, eqb-false, leb-true, leb-false, ltb-true}
use Rattle.base.specs.Bounded.{some}
use Rattle.base.specs.Least.{least}
use Rattle.base.proofs.Bools.{bool_cases, and_left, and_right, and_both, never_both, never_true}
use Rattle.base.proofs.Bounded.{some_at, some_witness, some_ext}
use Rattle.base.proofs.Least.{Next, next-found, next_ext, least-is, found_some}
use Rattle.model.specs.Repeats.{times, up_to, star}
use Rattle.model.specs.Rounds.{rounds}
use Rattle.model.specs.Nearest.{Nearest, at, no_spare, found, spare_within, any_spare, hops, lowest, nearest, IsNearest, Says}
use Rattle.model.proofs.Repeats.{up_to_self, up_to-none, up_to-star, up_to-agree, up_to-times, times-up_to, star_iff}
use Rattle.model.proofs.Rounds.{rounds-low, rounds_reach}

module _ (r : ℕ → ℕ → Bool) (p : ℕ → Bool) (n v : ℕ) where
  abbrev near : ℕ → ℕ → Bool
  near = found r p n v

  found-both : (k w : ℕ) → near k w ≡ true → (up_to r n k v w ≡ true) × (p w ≡ true)
  found-both k w e = (and_left (up_to r n k v w) (p w) e, and_right (up_to r n k v w) (p w) e)

  -- ---- within k repetitions
  pub within-some : (k : ℕ) → spare_within r p n v k ≡ some (near k) n
  unfolding spare_within
  within-some k = refl

  pub within-at : (k w : ℕ) → w < n → up_to r n k v w ≡ true → p w ≡ true → spare_within r p n v k ≡ true
  within-at k w l e h = within-some k ∙ some_at (near k) n w l (and_both (up_to r n k v w) (p w) e h)

  -- ---- the definition, piece by piece
  hops-next : Next (spare_within r p n v) 0 n (hops r p n v)
  unfolding hops
  hops-next = next-found (spare_within r p n v) n 0 zero-le

  hops-is : (k : ℕ) → k < n → ((j : ℕ) → j < k → spare_within r p n v j ≡ false) → spare_within r p n v k ≡ true → hops r p n v ≡ k
  unfolding hops
  hops-is k = least-is (spare_within r p n v) n k

  lowest-least : lowest r p n v ≡ least (near (hops r p n v)) n
  unfolding lowest
  lowest-least = refl

  nearest-some : any_spare r p n v ≡ true → nearest r p n v ≡ at (hops r p n v) (lowest r p n v)
  unfolding nearest
  nearest-some s = ap (λ (b : Bool). cond b (at (hops r p n v) (lowest r p n v)) no_spare) s

  pub nearest-none : any_spare r p n v ≡ false → nearest r p n v ≡ no_spare
  unfolding nearest
  nearest-none s = ap (λ (b : Bool). cond b (at (hops r p n v) (lowest r p n v)) no_spare) s

  module _ (l : v < n) where
    -- the rounds of the search are enough
    within-rounds : spare_within r p n v (rounds r n v) ≡ any_spare r p n v
    within-rounds = within-some (rounds r n v) ∙ some_ext (near (rounds r n v)) (λ w. star r n v w && p w) n (λ w lw. ap (λ (b : Bool). b && p w) (rounds_reach r n v l w lw))

    any_at : (k w : ℕ) → w < n → up_to r n k v w ≡ true → p w ≡ true → any_spare r p n v ≡ true
    any_at k w lw e h = some_at (λ w. star r n v w && p w) n w lw (and_both (star r n v w) (p w) (up_to-star r n k v w l e) h)

    -- where there is a spare, it is no farther than these
    pub within-few : any_spare r p n v ≡ true → (k : ℕ) → ((j : ℕ) → j < k → spare_within r p n v j ≡ false) → k ≤ rounds r n v
    within-few s k none = bool_cases (λ b. leb k (rounds r n v) ≡ b → k ≤ rounds r n v) (leb k (rounds r n v))
        (λ _ q. leb-true k (rounds r n v) q)
        (λ _ q. absurd (never_both (within-rounds ∙ s) (none (rounds r n v) (leb-false k (rounds r n v) q)))) refl

    pub hops-low : any_spare r p n v ≡ true → hops r p n v < n
    hops-low s = omega (arith, within-few s (hops r p n v) (λ j h. hops-next.none j zero-le h), rounds-low r n v l)

    -- ---- no other answer is the nearest
    pub nearest-found : (k w : ℕ) → ((j : ℕ) → j < k → spare_within r p n v j ≡ false) → w < n → near k w ≡ true → ((u : ℕ) → u < w → near k u ≡ false) → nearest r p n v ≡ at k w
    nearest-found k w none lw h low =
        let (e, q) = found-both k w h in
        let s : any_spare r p n v ≡ true = any_at k w lw e q in
        let fewest : hops r p n v ≡ k = hops-is k (omega (arith, within-few s k none, rounds-low r n v l)) none (within-at k w lw e q) in
        nearest-some s ∙ ap₂ at fewest (lowest-least ∙ ap (λ (m : ℕ). least (near m) n) fewest ∙ least-is (near k) n w lw low h)

    -- ---- and the definition's is
    -- by exactly so many repetitions
    exactly : (k w : ℕ) → ((j : ℕ) → j < k → spare_within r p n v j ≡ false) → w < n → near k w ≡ true → times r n k v w ≡ true
    exactly k w none lw h =
        let (e, q) = found-both k w h in
        let (m, lm, t) = up_to-times r n k v w e in
        bool_cases (λ b. eqb m k ≡ b → times r n k v w ≡ true) (eqb m k)
        (λ _ same. subst (λ (m : ℕ). times r n m v w ≡ true) (eqb-true m k same) t)
        (λ _ other. let ne : m ≡ k → ⊥ = eqb-false m k other in absurd (never_both (within-at m w lw (times-up_to r n m v w t) q) (none m (omega (arith, lm))))) refl

    is-nearest : any_spare r p n v ≡ true → IsNearest r p n v (hops r p n v) (lowest r p n v)
    is-nearest s =
        let k = hops r p n v in
        let w = lowest r p n v in
        let none : (j : ℕ) → j < k → spare_within r p n v j ≡ false = λ j h. hops-next.none j zero-le h in
        let next : Next (near k) 0 n w = subst (Next (near k) 0 n) (sym lowest-least) (next-found (near k) n 0 zero-le) in
        let lw : w < n = ltb-true w n (found_some (near k) n lowest-least ∙ sym (within-some k) ∙ hops-next.hit (hops-low s)) in
        record {
          inside = lw;
          spare = (found-both k w (next.hit lw)).1;
          away = exactly k w none lw (next.hit lw);
          nearer = λ j u lj lu t. never_true (p u) (λ h. never_both (within-at j u lu (times-up_to r n j v u t) h) (none j lj));
          lower = λ u lu t. never_true (p u) (λ h. never_both (and_both (up_to r n k v u) (p u) (times-up_to r n k v u t) h) (next.none u zero-le lu));
        }

    pub nearest-says : Says r p n v (nearest r p n v)
    nearest-says = bool_cases (λ b. any_spare r p n v ≡ b → Says r p n v (nearest r p n v)) (any_spare r p n v)
        (λ _ s. subst (λ (x : Nearest). Says r p n v x) (sym (nearest-some s)) (is-nearest s))
        (λ _ s. subst (λ (x : Nearest). Says r p n v x) (sym (nearest-none s)) (λ w lw e. never_true (p w) (λ h. never_both (some_at (λ w. star r n v w && p w) n w lw (and_both (star r n v w) (p w) e h)) s))) refl

    none-nearer : (k w : ℕ) → IsNearest r p n v k w → (j : ℕ) → j < k → spare_within r p n v j ≡ false
    none-nearer k w s j lj = never_true (spare_within r p n v j) (λ e.
        let (u, lu, h) = some_witness (near j) n (sym (within-some j) ∙ e) in
        let (m, lm, t) = up_to-times r n j v u (found-both j u h).0 in
        never_both (found-both j u h).1 (s.nearer m u (omega (arith, lm, lj)) lu t))

    said_nearest : (x : Nearest) → Says r p n v x → nearest r p n v ≡ x
    said_nearest (at k w) s = nearest-found k w
        (none-nearer k w s)
        s.inside (and_both (up_to r n k v w) (p w) (times-up_to r n k v w s.away) s.spare)
        (λ u lu. never_true (near k u) (λ h.
        let (m, lm, t) = up_to-times r n k v u (found-both k u h).0 in
        never_both (found-both k u h).1 (bool_cases (λ b. eqb m k ≡ b → p u ≡ false) (eqb m k)
        (λ _ same. s.lower u lu (subst (λ (m : ℕ). times r n m v u ≡ true) (eqb-true m k same) t))
        (λ _ other. let ne : m ≡ k → ⊥ = eqb-false m k other in s.nearer m u (omega (arith, lm)) (omega (arith, lu, s.inside)) t) refl)))
    said_nearest no_spare s = nearest-none (never_true (any_spare r p n v) (λ e.
        let (w, lw, h) = some_witness (λ w. star r n v w && p w) n e in
        never_both (and_right (star r n v w) (p w) h) (s w lw (and_left (star r n v w) (p w) h))))

    -- **the nearest, or that there is none, is what the words of logic say, and nothing else is**
    pub nearest_iff : (x : Nearest) → (nearest r p n v ≡ x) ↔ Says r p n v x
    nearest_iff x = (λ e. subst (λ (x : Nearest). Says r p n v x) e nearest-says, said_nearest x)

    -- there is none exactly when no number of repetitions leads to one
    pub nearest_never : (nearest r p n v ≡ no_spare) ↔ ((k w : ℕ) → w < n → times r n k v w ≡ true → p w ≡ false)
    nearest_never = (λ e k w lw t. (nearest_iff no_spare).0 e w lw (up_to-star r n k v w l (times-up_to r n k v w t)), λ h. (nearest_iff no_spare).1 (λ w lw e. let (k, t) = (star_iff r n v w l).0 e in h k w lw t))

    -- the start itself, by no repetition
    pub nearest-start : p v ≡ true → nearest r p n v ≡ at 0 v
    nearest-start h = nearest-found 0 v (λ j lj. absurd (omega arith)) l (and_both (up_to r n 0 v v) (p v) (up_to_self r n 0 v) h) (λ u lu. never_true (near 0 u) (λ e. let q : v ≡ u = up_to-none r n v u (found-both 0 u e).0 in absurd (omega (arith, q, lu))))

    -- a spare is no farther than the rounds of the search
    pub nearest-few : (k w : ℕ) → IsNearest r p n v k w → k ≤ rounds r n v
    nearest-few k w s = within-few (any_at k w s.inside (times-up_to r n k v w s.away) s.spare) k (none-nearer k w s)

-- relations that agree between the numbers below n, and properties that agree where they lead
module _ (r q : ℕ → ℕ → Bool) (p s : ℕ → Bool) (n v : ℕ) (same : (v w : ℕ) → v < n → w < n → r v w ≡ q v w) (alike : (w : ℕ) → w < n → star r n v w ≡ true → p w ≡ s w) (l : v < n) where
  found_ext : (k w : ℕ) → w < n → (up_to r n k v w && p w) ≡ (up_to q n k v w && s w)
  found_ext k w lw = bool_cases (λ b. up_to r n k v w ≡ b → (b && p w) ≡ (b && s w)) (up_to r n k v w) (λ _ e. alike w lw (up_to-star r n k v w l e)) (λ _ _. refl) refl ∙ ap (λ (b : Bool). b && s w) (up_to-agree r q n same k v w l)

  hops_ext : hops r p n v ≡ hops q s n v
  unfolding hops
  hops_ext = next_ext (spare_within r p n v) (spare_within q s n v) 0 n (λ k _. within-some r p n v k ∙ some_ext (found r p n v k) (found q s n v k) n (found_ext k) ∙ sym (within-some q s n v k))

  any_ext : any_spare r p n v ≡ any_spare q s n v
  unfolding star
  any_ext = some_ext (found r p n v n) (found q s n v n) n (found_ext n)

  pub nearest_ext : nearest r p n v ≡ nearest q s n v
  unfolding nearest lowest
  nearest_ext =
      let low : least (found r p n v (hops r p n v)) n ≡ least (found q s n v (hops q s n v)) n = ap (λ (k : ℕ). least (found r p n v k) n) hops_ext ∙ next_ext (found r p n v (hops q s n v)) (found q s n v (hops q s n v)) 0 n (found_ext (hops q s n v)) in
      λ i. cond (any_ext i) (at (hops_ext i) (low i)) no_spare
