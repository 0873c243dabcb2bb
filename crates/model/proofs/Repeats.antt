-- A relation repeated, in words of logic: `star` holds exactly when some number of repetitions leads there, `plus` when some number from
-- one on does; as many as there are nodes are enough; each is the least relation of its kind.
use Prim.Native.Nat.{ℕ, zero, suc, ◌+◌, ◌-◌, ◌<◌, ◌≤◌}
use mathlib.Core.Bool.{Bool, true, false, ◌&&◌, ◌||◌}
use mathlib.Core.Logic.{◌⊎◌, inl, inr, ⊎_elim, ◌↔◌}
use mathlib.Core.Path.{◌≡◌, refl, sym, ap, ap₂, ◌∙◌, subst}
use native.Mathlib.Omega.{arith}
use native.Mathlib.Nat.{zero-add, suc-add}
use lib.Dec.{eqb, leb}
use borrow.Author.Tests.{eq-eqb, eqb-true, leb-true, leb-false}
use Rattle.base.specs.Bounded.{some}
use Rattle.base.proofs.Bools.{and_left, and_right, and_both, or_cases, or_left, or_right, same_test}
use Rattle.base.proofs.Bounded.{some_at, some_witness, some_ext}
use Rattle.model.specs.Repeats.{times, up_to, star, plus}
use Rattle.model.proofs.Growth as growth
use Rattle.model.proofs.Growth.{Still}

-- r read backwards
abbrev pub converse : (ℕ → ℕ → Bool) → ℕ → ℕ → Bool
converse r v w = r w v

module _ (r : ℕ → ℕ → Bool) (n : ℕ) where
  -- ---- repetitions
  -- a step and then k repetitions
  pub up_to-step : (k v u w : ℕ) → u < n → r v u ≡ true → up_to r n k u w ≡ true → up_to r n (suc k) v w ≡ true
  unfolding up_to
  up_to-step k v u w l e f = or_right (eqb v w) (some (λ u. r v u && up_to r n k u w) n) (some_at (λ u. r v u && up_to r n k u w) n u l (and_both (r v u) (up_to r n k u w) e f))

  pub up_to_self : (k v : ℕ) → up_to r n k v v ≡ true
  unfolding up_to
  up_to_self zero v = eq-eqb v v refl
  up_to_self (suc k) v = or_left (eqb v v) (some (λ u. r v u && up_to r n k u v) n) (eq-eqb v v refl)

  -- the node itself, or a step and the rest
  pub up_to-cases : (k v w : ℕ) → up_to r n (suc k) v w ≡ true → (v ≡ w) ⊎ ((u : ℕ) × (u < n) × (r v u ≡ true) × (up_to r n k u w ≡ true))
  unfolding up_to
  up_to-cases k v w e = ⊎_elim (λ h. inl (eqb-true v w h)) (λ h. let (u, l, q) = some_witness (λ u. r v u && up_to r n k u w) n h in inr (u, l, and_left (r v u) (up_to r n k u w) q, and_right (r v u) (up_to r n k u w) q)) (or_cases (eqb v w) (some (λ u. r v u && up_to r n k u w) n) e)

  pub up_to-none : (v w : ℕ) → up_to r n 0 v w ≡ true → v ≡ w
  unfolding up_to
  up_to-none v w e = eqb-true v w e

  -- one repetition more
  pub up_to_suc : (k v w : ℕ) → up_to r n k v w ≡ true → up_to r n (suc k) v w ≡ true
  up_to_suc zero v w e = subst (λ (x : ℕ). up_to r n 1 v x ≡ true) (up_to-none v w e) (up_to_self 1 v)
  up_to_suc (suc k) v w e = ⊎_elim (λ q. subst (λ (x : ℕ). up_to r n (suc (suc k)) v x ≡ true) q (up_to_self (suc (suc k)) v)) (λ h. up_to-step (suc k) v h.0 w h.1 h.2 (up_to_suc k h.0 w h.3)) (up_to-cases k v w e)

  up_to_add : (d k v w : ℕ) → up_to r n k v w ≡ true → up_to r n (d + k) v w ≡ true
  up_to_add zero k v w e = subst (λ (m : ℕ). up_to r n m v w ≡ true) (sym (zero-add k)) e
  up_to_add (suc d) k v w e = subst (λ (m : ℕ). up_to r n m v w ≡ true) (sym (suc-add d k)) (up_to_suc (d + k) v w (up_to_add d k v w e))

  up_to_le : (k m v w : ℕ) → k ≤ m → up_to r n k v w ≡ true → up_to r n m v w ≡ true
  up_to_le k m v w l e = subst (λ (x : ℕ). up_to r n x v w ≡ true) (let z : m - k + k ≡ m = omega arith in z) (up_to_add (m - k) k v w e)

  -- a repetitions and then b
  pub up_to-trans : (a b v u w : ℕ) → up_to r n a v u ≡ true → up_to r n b u w ≡ true → up_to r n (a + b) v w ≡ true
  up_to-trans zero b v u w e f = subst (λ (m : ℕ). up_to r n m v w ≡ true) (sym (zero-add b)) (subst (λ (x : ℕ). up_to r n b x w ≡ true) (sym (up_to-none v u e)) f)
  up_to-trans (suc a) b v u w e f = ⊎_elim
      (λ q. up_to_add (suc a) b v w (subst (λ (x : ℕ). up_to r n b x w ≡ true) (sym q) f))
      (λ h. subst (λ (m : ℕ). up_to r n m v w ≡ true) (sym (suc-add a b)) (up_to-step (a + b) v h.0 w h.1 h.2 (up_to-trans a b h.0 u w h.3 f)))
      (up_to-cases a v u e)

  -- ---- as many repetitions as there are nodes are enough: while the set of those that lead to w grows it gains a node
  module _ (w : ℕ) where
    abbrev p : ℕ → ℕ → Bool
    p k v = up_to r n k v w

    next : (k : ℕ) → Still n p k → Still n p (suc k)
    next k h v l = same_test (p (suc (suc k)) v) (p (suc k) v)
        (λ e. ⊎_elim (λ q. subst (λ (x : ℕ). up_to r n (suc k) v x ≡ true) q (up_to_self (suc k) v)) (λ s. up_to-step k v s.0 w s.1 s.2 (sym (h s.0 s.1) ∙ s.3)) (up_to-cases (suc k) v w e))
        (λ e. up_to_suc (suc k) v w e)

    -- any number of repetitions reaches no more than n do
    pub enough : (k v : ℕ) → n ≤ k → v < n → p k v ≡ p n v
    enough = growth.enough n p (λ k v e. up_to_suc k v w e) next

  pub up_to-star : (k v w : ℕ) → v < n → up_to r n k v w ≡ true → star r n v w ≡ true
  unfolding star
  up_to-star k v w l e = go (leb n k) refl
    where
      go : (b : Bool) → leb n k ≡ b → up_to r n n v w ≡ true
      go true q = sym (enough w k v (leb-true n k q) l) ∙ e
      go false q = up_to_le k n v w (let z : k < n = leb-false n k q in omega arith) e

  star-up_to : (v w : ℕ) → star r n v w ≡ true → up_to r n n v w ≡ true
  unfolding star
  star-up_to v w e = e

  -- ---- `star`: the least relation that is reflexive, transitive, and contains r
  pub star_self : (v : ℕ) → star r n v v ≡ true
  unfolding star
  star_self v = up_to_self n v

  pub star-step : (v u w : ℕ) → v < n → u < n → r v u ≡ true → star r n u w ≡ true → star r n v w ≡ true
  star-step v u w lv lu e f = up_to-star (suc n) v w lv (up_to-step n v u w lu e (star-up_to u w f))

  pub star-contains : (v w : ℕ) → v < n → w < n → r v w ≡ true → star r n v w ≡ true
  star-contains v w lv lw e = star-step v w w lv lw e (star_self w)

  pub star-trans : (v u w : ℕ) → v < n → star r n v u ≡ true → star r n u w ≡ true → star r n v w ≡ true
  star-trans v u w l e f = up_to-star (n + n) v w l (up_to-trans n n v u w (star-up_to v u e) (star-up_to u w f))

  module _ (s : ℕ → ℕ → Bool) (self : (v : ℕ) → v < n → s v v ≡ true) (contains : (v w : ℕ) → v < n → w < n → r v w ≡ true → s v w ≡ true) (trans : (v u w : ℕ) → v < n → u < n → w < n → s v u ≡ true → s u w ≡ true → s v w ≡ true) where
    up_to-least : (k v w : ℕ) → v < n → w < n → up_to r n k v w ≡ true → s v w ≡ true
    up_to-least zero v w lv lw e = subst (λ (x : ℕ). s v x ≡ true) (up_to-none v w e) (self v lv)
    up_to-least (suc k) v w lv lw e = ⊎_elim (λ q. subst (λ (x : ℕ). s v x ≡ true) q (self v lv)) (λ h. trans v h.0 w lv h.1 lw (contains v h.0 lv h.1 h.2) (up_to-least k h.0 w h.1 lw h.3)) (up_to-cases k v w e)

    pub star-least : (v w : ℕ) → v < n → w < n → star r n v w ≡ true → s v w ≡ true
    star-least v w lv lw e = up_to-least n v w lv lw (star-up_to v w e)

  -- ---- `star` holds exactly when some number of repetitions leads there
  times-step : (k v u w : ℕ) → u < n → r v u ≡ true → times r n k u w ≡ true → times r n (suc k) v w ≡ true
  unfolding times
  times-step k v u w l e f = some_at (λ u. r v u && times r n k u w) n u l (and_both (r v u) (times r n k u w) e f)

  times-next : (k v w : ℕ) → times r n (suc k) v w ≡ true → (u : ℕ) × (u < n) × (r v u ≡ true) × (times r n k u w ≡ true)
  unfolding times
  times-next k v w e = let (u, l, q) = some_witness (λ u. r v u && times r n k u w) n e in (u, l, and_left (r v u) (times r n k u w) q, and_right (r v u) (times r n k u w) q)

  times_none : (v w : ℕ) → (times r n 0 v w ≡ true) ↔ (v ≡ w)
  unfolding times
  times_none v w = (eqb-true v w, eq-eqb v w)

  pub times-up_to : (k v w : ℕ) → times r n k v w ≡ true → up_to r n k v w ≡ true
  times-up_to zero v w e = subst (λ (x : ℕ). up_to r n 0 v x ≡ true) ((times_none v w).0 e) (up_to_self 0 v)
  times-up_to (suc k) v w e = let h = times-next k v w e in up_to-step k v h.0 w h.1 h.2 (times-up_to k h.0 w h.3)

  pub up_to-times : (k v w : ℕ) → up_to r n k v w ≡ true → (m : ℕ) × (m ≤ k) × (times r n m v w ≡ true)
  up_to-times zero v w e = (0, omega arith, (times_none v w).1 (up_to-none v w e))
  up_to-times (suc k) v w e = ⊎_elim (λ q. (0, omega arith, (times_none v w).1 q)) (λ h. let (m, l, q) = up_to-times k h.0 w h.3 in (suc m, omega arith, times-step m v h.0 w h.1 h.2 q)) (up_to-cases k v w e)

  pub star_iff : (v w : ℕ) → v < n → (star r n v w ≡ true) ↔ ((k : ℕ) × (times r n k v w ≡ true))
  star_iff v w l = (λ e. let (m, _, q) = up_to-times n v w (star-up_to v w e) in (m, q), λ h. up_to-star h.0 v w l (times-up_to h.0 v w h.1))

  -- ---- `plus`: a step and then `star`; the least relation that is transitive and contains r
  pub plus_step : (v u w : ℕ) → u < n → r v u ≡ true → star r n u w ≡ true → plus r n v w ≡ true
  unfolding plus
  plus_step v u w l e f = some_at (λ u. r v u && star r n u w) n u l (and_both (r v u) (star r n u w) e f)

  pub plus-cases : (v w : ℕ) → plus r n v w ≡ true → (u : ℕ) × (u < n) × (r v u ≡ true) × (star r n u w ≡ true)
  unfolding plus
  plus-cases v w e = let (u, l, q) = some_witness (λ u. r v u && star r n u w) n e in (u, l, and_left (r v u) (star r n u w) q, and_right (r v u) (star r n u w) q)

  pub plus-contains : (v w : ℕ) → w < n → r v w ≡ true → plus r n v w ≡ true
  plus-contains v w l e = plus_step v w w l e (star_self w)

  pub plus-star : (v w : ℕ) → v < n → plus r n v w ≡ true → star r n v w ≡ true
  plus-star v w l e = let h = plus-cases v w e in star-step v h.0 w l h.1 h.2 h.3

  pub plus-trans : (v u w : ℕ) → u < n → plus r n v u ≡ true → plus r n u w ≡ true → plus r n v w ≡ true
  plus-trans v u w l e f = let h = plus-cases v u e in plus_step v h.0 w h.1 h.2 (star-trans h.0 u w h.1 h.3 (plus-star u w l f))

  module _ (s : ℕ → ℕ → Bool) (contains : (v w : ℕ) → v < n → w < n → r v w ≡ true → s v w ≡ true) (trans : (v u w : ℕ) → v < n → u < n → w < n → s v u ≡ true → s u w ≡ true → s v w ≡ true) where
    steps-least : (k v u w : ℕ) → v < n → u < n → w < n → r v u ≡ true → up_to r n k u w ≡ true → s v w ≡ true
    steps-least zero v u w lv lu lw e f = subst (λ (x : ℕ). s v x ≡ true) (up_to-none u w f) (contains v u lv lu e)
    steps-least (suc k) v u w lv lu lw e f = ⊎_elim (λ q. subst (λ (x : ℕ). s v x ≡ true) q (contains v u lv lu e)) (λ h. trans v u w lv lu lw (contains v u lv lu e) (steps-least k u h.0 w lu h.1 lw h.2 h.3)) (up_to-cases k u w f)

    pub plus-least : (v w : ℕ) → v < n → w < n → plus r n v w ≡ true → s v w ≡ true
    plus-least v w lv lw e = let h = plus-cases v w e in steps-least n v h.0 w lv h.1 lw h.2 (star-up_to h.0 w h.3)

  -- `plus` holds exactly when some number of repetitions from 1 on leads there
  pub plus_iff : (v w : ℕ) → (plus r n v w ≡ true) ↔ ((k : ℕ) × (times r n (suc k) v w ≡ true))
  plus_iff v w = (
    λ e. let h = plus-cases v w e in let t = (star_iff h.0 w h.1).0 h.3 in (t.0, times-step t.0 v h.0 w h.1 h.2 t.1),
    λ t. let h = times-next t.0 v w t.1 in plus_step v h.0 w h.1 h.2 ((star_iff h.0 w h.1).1 (t.0, h.3)),
  )

  -- `star` is the node itself or `plus`
  pub star-plus : (v w : ℕ) → v < n → star r n v w ≡ (plus r n v w || eqb v w)
  star-plus v w l = same_test (star r n v w) (plus r n v w || eqb v w)
      (λ e. ⊎_elim (λ q. or_right (plus r n v w) (eqb v w) (eq-eqb v w q)) (λ h. or_left (plus r n v w) (eqb v w) (plus_step v h.0 w h.1 h.2 (up_to-star n h.0 w h.1 h.3))) (up_to-cases n v w (up_to_suc n v w (star-up_to v w e))))
      (λ e. ⊎_elim (λ q. plus-star v w l q) (λ q. subst (λ (x : ℕ). star r n v x ≡ true) (eqb-true v w q) (star_self v)) (or_cases (plus r n v w) (eqb v w) e))

-- ---- relations that agree between the numbers below n
module _ (r q : ℕ → ℕ → Bool) (n : ℕ) (same : (v w : ℕ) → v < n → w < n → r v w ≡ q v w) where
  pub up_to-agree : (k v w : ℕ) → v < n → up_to r n k v w ≡ up_to q n k v w
  unfolding up_to
  up_to-agree zero v w l = refl
  up_to-agree (suc k) v w l = ap (λ (b : Bool). eqb v w || b) (some_ext (λ u. r v u && up_to r n k u w) (λ u. q v u && up_to q n k u w) n (λ u lu. ap₂ (λ (a b : Bool). a && b) (same v u l lu) (up_to-agree k u w lu)))

  pub star_ext : (v w : ℕ) → v < n → star r n v w ≡ star q n v w
  unfolding star
  star_ext v w l = up_to-agree n v w l

  pub plus_ext : (v w : ℕ) → v < n → plus r n v w ≡ plus q n v w
  unfolding plus
  plus_ext v w l = some_ext (λ u. r v u && star r n u w) (λ u. q v u && star q n u w) n (λ u lu. ap₂ (λ (a b : Bool). a && b) (same v u l lu) (star_ext u w lu))

-- ---- backwards: both of a converse are the converse of theirs
module _ (n : ℕ) where
  star-turned : (r : ℕ → ℕ → Bool) (v w : ℕ) → v < n → w < n → star (converse r) n v w ≡ true → star r n w v ≡ true
  star-turned r v w lv lw e = star-least (converse r) n (converse (star r n)) (λ v _. star_self r n v) (λ v w lv lw h. star-contains r n w v lw lv h) (λ v u w lv lu lw f g. star-trans r n w u v lw g f) v w lv lw e

  pub star_converse : (r : ℕ → ℕ → Bool) (v w : ℕ) → v < n → w < n → star (converse r) n v w ≡ star r n w v
  star_converse r v w lv lw = same_test (star (converse r) n v w) (star r n w v) (λ e. star-turned r v w lv lw e) (λ e. star-turned (converse r) w v lw lv e)

  plus-turned : (r : ℕ → ℕ → Bool) (v w : ℕ) → v < n → w < n → plus (converse r) n v w ≡ true → plus r n w v ≡ true
  plus-turned r v w lv lw e = plus-least (converse r) n (converse (plus r n)) (λ v w lv lw h. plus-contains r n w v lv h) (λ v u w lv lu lw f g. plus-trans r n w u v lu g f) v w lv lw e

  pub plus_converse : (r : ℕ → ℕ → Bool) (v w : ℕ) → v < n → w < n → plus (converse r) n v w ≡ plus r n w v
  plus_converse r v w lv lw = same_test (plus (converse r) n v w) (plus r n w v) (λ e. plus-turned r v w lv lw e) (λ e. plus-turned (converse r) w v lw lv e)

-- ---- nodes lead to nodes, and only nodes to nodes: what a repeated path keeps (a node past n leads to itself by no repetition)
abbrev pub Nodes : ℕ → (ℕ → ℕ → Bool) → Type 0
Nodes n r = (v w : ℕ) → r v w ≡ true → (v < n → w < n) × (w < n → v < n)

module _ (r : ℕ → ℕ → Bool) (n : ℕ) (nodes : Nodes n r) where
  up_to-nodes : (k : ℕ) → Nodes n (up_to r n k)
  up_to-nodes zero v w e = let q = up_to-none r n v w e in (λ l. subst (λ (x : ℕ). x < n) q l, λ l. subst (λ (x : ℕ). x < n) (sym q) l)
  up_to-nodes (suc k) v w e = ⊎_elim (λ q. (λ l. subst (λ (x : ℕ). x < n) q l, λ l. subst (λ (x : ℕ). x < n) (sym q) l)) (λ h. (λ _. (up_to-nodes k h.0 w h.3).0 h.1, λ _. (nodes v h.0 h.2).1 h.1)) (up_to-cases r n k v w e)

  pub star-nodes : Nodes n (star r n)
  unfolding star
  star-nodes = up_to-nodes n

  pub plus-nodes : (v w : ℕ) → plus r n v w ≡ true → (v < n) × (w < n)
  plus-nodes v w e = let h = plus-cases r n v w e in ((nodes v h.0 h.2).1 h.1, (star-nodes h.0 w h.3).0 h.1)
