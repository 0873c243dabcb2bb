-- Warshall's way with blocks of nodes, as relations between the nodes below n: what each step keeps, and that in the end the relation is
-- `plus` of the first.
use Prim.Native.Nat.{ℕ, ◌+◌, ◌≤◌, ◌<◌}
use mathlib.Core.Bool.{Bool, true, ◌&&◌, ◌||◌}
use mathlib.Core.Logic.{◌⊎◌, inl, inr, ⊎_elim}
use mathlib.Core.Path.{◌≡◌, refl, sym, ◌∙◌, subst}
use native.Mathlib.Omega.{arith}
use lib.Dec.{eqb, leb, ltb}
use borrow.Author.Tests.{eqb-true, eqb-false, leb-true, leb-false, ltb-true, le-leb, lt-ltb}
use Rattle.base.proofs.Bounded.{some_at, some_witness}
use Rattle.base.proofs.Bools.{bool_cases, and_left, and_right, and_both, or_cases, same_test, or_left, or_right}
use Rattle.model.specs.Repeats.{plus}
use Rattle.model.proofs.Repeats.{plus-least}
use Rattle.closure.specs.Closing.{by_node, by_block, across, LeadsOn, Inner}

-- by a node of the block in between
module _ (p : ℕ → Bool) (q : ℕ → ℕ → Bool) (a e w : ℕ) where
  pub block_at : (u : ℕ) → a ≤ u → u < e → p u ≡ true → q u w ≡ true → by_block p q a e w ≡ true
  unfolding by_block
  block_at u la le f g = some_at (λ u. (leb a u && p u) && q u w) e u le (and_both (leb a u && p u) (q u w) (and_both (leb a u) (p u) (le-leb a u la) f) g)

  pub block_some : by_block p q a e w ≡ true → (u : ℕ) × (a ≤ u) × (u < e) × (p u ≡ true) × (q u w ≡ true)
  unfolding by_block
  block_some h =
      let (u, le, f) = some_witness (λ u. (leb a u && p u) && q u w) e h in
      let g = and_left (leb a u && p u) (q u w) f in
      (u, leb-true a u (and_left (leb a u) (p u) g), le, and_right (leb a u) (p u) g, and_right (leb a u && p u) (q u w) f)

-- the relation leads through every node below a
abbrev pub Low : ℕ → ℕ → (ℕ → ℕ → Bool) → Type 0
Low n a q = (v u : ℕ) → v < n → u < n → u < a → LeadsOn n q v u

-- ---- a node k of the block: each row of the block that has k takes in row k
module _ (n a e k : ℕ) (q q' : ℕ → ℕ → Bool) (after : (v w : ℕ) → v < n → w < n → q' v w ≡ (q v w || by_node q k a e v w)) (ak : a ≤ k) (ke : k < e) (en : e ≤ n) where
  -- what a row has, it had or has by k
  node_was : (v w : ℕ) → v < n → w < n → q' v w ≡ true → (q v w ≡ true) ⊎ ((a ≤ v) × (v < e) × (q v k ≡ true) × (q k w ≡ true))
  node_was v w lv lw h = ⊎_elim inl (λ f. inr (
    leb-true a v (and_left (leb a v) (ltb v e) (block f)),
    ltb-true v e (and_right (leb a v) (ltb v e) (block f)),
    and_right (leb a v && ltb v e) (q v k) (and_left ((leb a v && ltb v e) && q v k) (q k w) f),
    and_right ((leb a v && ltb v e) && q v k) (q k w) f,
  )) (or_cases (q v w) (by_node q k a e v w) (sym (after v w lv lw) ∙ h))
    where
      block : by_node q k a e v w ≡ true → (leb a v && ltb v e) ≡ true
      block f = and_left (leb a v && ltb v e) (q v k) (and_left ((leb a v && ltb v e) && q v k) (q k w) f)

  node-keeps : (v w : ℕ) → v < n → w < n → q v w ≡ true → q' v w ≡ true
  node-keeps v w lv lw h = after v w lv lw ∙ or_left (q v w) (by_node q k a e v w) h

  node_gains : (v w : ℕ) → w < n → a ≤ v → v < e → q v k ≡ true → q k w ≡ true → q' v w ≡ true
  node_gains v w lw av ve f g =
      after v w (omega arith) lw
      ∙ or_right (q v w) (by_node q k a e v w) (and_both ((leb a v && ltb v e) && q v k) (q k w) (and_both (leb a v && ltb v e) (q v k) (and_both (leb a v) (ltb v e) (le-leb a v av) (lt-ltb v e ve)) f) g)

  -- a row before the block is as it was, and so is row k
  node-same : (u w : ℕ) → u < n → w < n → u < a → q' u w ≡ true → q u w ≡ true
  node-same u w lu lw ua h = ⊎_elim (λ f. f) (λ f. absurd (omega (arith, f.0))) (node_was u w lu lw h)

  node_own : (w : ℕ) → w < n → q' k w ≡ true → q k w ≡ true
  node_own w lw h = ⊎_elim (λ f. f) (λ f. f.3) (node_was k w (omega arith) lw h)

  pub node-low : Low n a q → Low n a q'
  node-low low v u lv lu ua w lw f g = ⊎_elim
      (λ h. node-keeps v w lv lw (low v u lv lu ua w lw h (node-same u w lu lw ua g)))
      (λ h. node_gains v w lw h.0 h.1 h.2 (low k u (omega arith) lu ua w lw h.3 (node-same u w lu lw ua g)))
      (node_was v u lv lu f)

  pub node-inner : Inner n a e k q → Inner n a e (k + 1) q'
  node-inner inner v u av ve au uk w lw f g = bool_cases (λ b. eqb u k ≡ b → q' v w ≡ true) (eqb u k) (λ _ h. at_k (eqb-true u k h)) (λ _ h. below (let ne : u ≡ k → ⊥ = eqb-false u k h in omega arith)) refl
    where
      at_k : u ≡ k → q' v w ≡ true
      at_k h =
          let f' : q' v k ≡ true = subst (λ (x : ℕ). q' v x ≡ true) h f in
          let g' : q' k w ≡ true = subst (λ (x : ℕ). q' x w ≡ true) h g in
          node_gains v w lw av ve (⊎_elim (λ t. t) (λ t. t.2) (node_was v k (omega arith) (omega arith) f')) (node_own w lw g')

      below : u < k → q' v w ≡ true
      below uk' = ⊎_elim
          (λ s. ⊎_elim (λ t. node-keeps v w (omega arith) lw (inner v u av ve au uk' w lw s t)) (λ t. node_gains v w lw av ve (inner v u av ve au uk' k (omega arith) s t.2) t.3) (node_was u w (omega arith) lw g))
          (λ s. ⊎_elim (λ t. node_gains v w lw av ve s.2 (inner k u ak ke au uk' w lw s.3 t)) (λ t. node_gains v w lw av ve s.2 t.3) (node_was u w (omega arith) lw g))
          (node_was v u (omega arith) (omega arith) f)

-- ---- the whole block: each row takes in the rows of the block that it has
module _ (n a e : ℕ) (q q' : ℕ → ℕ → Bool) (after : (v w : ℕ) → v < n → w < n → q' v w ≡ (q v w || across q a e v w)) (en : e ≤ n) (low : Low n a q) (inner : Inner n a e e q) where
  block_keeps : (v w : ℕ) → v < n → w < n → q v w ≡ true → q' v w ≡ true
  block_keeps v w lv lw h = after v w lv lw ∙ or_left (q v w) (across q a e v w) h

  block_gains : (v w u : ℕ) → v < n → w < n → a ≤ u → u < e → q v u ≡ true → q u w ≡ true → q' v w ≡ true
  block_gains v w u lv lw au ue f g = after v w lv lw ∙ or_right (q v w) (across q a e v w) (block_at (q v) q a e w u au ue f g)

  -- a node of the block leads through each before its end
  inside : (v u : ℕ) → a ≤ v → v < e → u < e → LeadsOn n q v u
  inside v u av ve ue w lw f g = bool_cases (λ b. leb a u ≡ b → q v w ≡ true) (leb a u) (λ _ h. inner v u av ve (leb-true a u h) ue w lw f g) (λ _ h. low v u (omega arith) (omega arith) (leb-false a u h) w lw f g) refl

  -- what a node below the block's end leads to now, what leads to that node did or does now
  from_old : (v u w : ℕ) → v < n → u < e → w < n → q v u ≡ true → q u w ≡ true → q' v w ≡ true
  from_old v u w lv ue lw f g = bool_cases (λ b. leb a u ≡ b → q' v w ≡ true) (leb a u) (λ _ h. block_gains v w u lv lw (leb-true a u h) ue f g) (λ _ h. block_keeps v w lv lw (low v u lv (omega arith) (leb-false a u h) w lw f g)) refl

  from_block : (v u w x : ℕ) → v < n → u < e → w < n → a ≤ x → x < e → q v u ≡ true → q u x ≡ true → q x w ≡ true → q' v w ≡ true
  from_block v u w x lv ue lw ax xe f g h = bool_cases (λ b. leb a u ≡ b → q' v w ≡ true) (leb a u)
      (λ _ t. block_gains v w u lv lw (leb-true a u t) ue f (inner u x (leb-true a u t) ue ax xe w lw g h))
      (λ _ t. block_gains v w x lv lw ax xe (low v u lv (omega arith) (leb-false a u t) x (omega arith) f g) h) refl

  pub block_low : (v u : ℕ) → v < n → u < e → LeadsOn n q' v u
  block_low v u lv ue w lw f g = ⊎_elim
      (λ s. ⊎_elim (λ t. from_old v u w lv ue lw s t) (λ t. let (x, ax, xe, h, i) = block_some (q u) q a e w t in from_block v u w x lv ue lw ax xe s h i) (or_cases (q u w) (across q a e u w) (sym (after u w (omega arith) lw) ∙ g)))
      (λ s.
      let (x, ax, xe, h, i) = block_some (q v) q a e u s in
      ⊎_elim (λ t. block_gains v w x lv lw ax xe h (inside x u ax xe ue w lw i t))
      (λ t. let (y, ay, ye, j, k) = block_some (q u) q a e w t in block_gains v w x lv lw ax xe h (inside x y ax xe ye w lw (inside x u ax xe ue y (omega arith) i j) k))
      (or_cases (q u w) (across q a e u w) (sym (after u w (omega arith) lw) ∙ g)))
      (or_cases (q v u) (across q a e v u) (sym (after v u lv (omega arith)) ∙ f))

-- ---- the end: through every node
pub through-all : (n : ℕ) (r q : ℕ → ℕ → Bool) → ((v w : ℕ) → v < n → w < n → r v w ≡ true → q v w ≡ true) → ((v w : ℕ) → v < n → w < n → q v w ≡ true → plus r n v w ≡ true) → Low n n q → (v w : ℕ) → v < n → w < n → q v w ≡ plus r n v w
through-all n r q more right low v w lv lw = same_test (q v w) (plus r n v w) (right v w lv lw) (plus-least r n q more (λ v u w lv lu lw f g. low v u lv lu lu w lw f g) v w lv lw)
