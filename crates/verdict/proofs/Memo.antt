-- What is known, and one verdict more.
use Prim.Native.Nat.{ℕ, ◌+◌, ◌*◌, ◌-◌, ◌≤◌, ◌<◌}
use mathlib.Core.List.{List}
use mathlib.Core.Bool.{Bool, true, false, not, cond, ◌&&◌, ◌||◌, or-true}
use mathlib.Core.Logic.{◌⊎◌, inl, inr, ⊎_elim}
use mathlib.Core.Path.{◌≡◌, refl, sym, ap, ap₂, ◌∙◌, subst}
use native.Mathlib.Omega.{arith}
use lib.Dec.{eqb, ltb}
use lib.IntN.{ℤ}
use lib.ListN.{length, replicate, take, drop, length-drop}
use lib.Seq.{take_all}
use borrow.Author.Tests.{eq-eqb, eqb-true, ltb-true, ltb-false}
use Rattle.base.proofs.Bools.{bool_cases, never_both, or_cases}
use Rattle.nodeset.specs.Words.{has, words_of, with, difference}
use Rattle.nodeset.proofs.Sets.{has_out, has-words_of, length-words_of, has_zeros, has-drop, has_of, words_of_ext, difference_of}
use Rattle.model.specs.Shapes.{conforms}
use Rattle.model.specs.Limits.{max_nodes, max_forms}
use Rattle.tables.specs.Layout.{node_count}
use Rattle.tables.specs.Decode.{graph_at, shape_at}
use Rattle.verdict.specs.Memo.{yes_place, no_place, settled, MemoRight, memo_count}

-- ---- words with one number more
has-low : (ws : List ℕ) (m : ℕ) → has ws m ≡ true → m < 64 * length ws
has-low ws m h = bool_cases (λ b. ltb m (64 * length ws) ≡ b → m < 64 * length ws) (ltb m (64 * length ws)) (λ _ q. ltb-true m (64 * length ws) q) (λ _ q. absurd (never_both h (has_out ws m (let g : 64 * length ws ≤ m = ltb-false m (64 * length ws) q in omega arith)))) refl

has-with : (ws : List ℕ) (k m : ℕ) → has (with ws k) m ≡ true → (has ws m ≡ true) ⊎ (m ≡ k)
unfolding with
has-with ws k m h =
    let l : m < 64 * length ws = subst (λ (n : ℕ). m < 64 * n) (length-words_of (λ m. has ws m || eqb m k) (length ws)) (has-low (words_of (λ m. has ws m || eqb m k) (length ws)) m h) in
    ⊎_elim (λ a. inl a) (λ b. inr (eqb-true m k b)) (or_cases (has ws m) (eqb m k) (sym (has-words_of (λ m. has ws m || eqb m k) (length ws) m l) ∙ h))

with-has : (ws : List ℕ) (k m : ℕ) → has ws m ≡ true → has (with ws k) m ≡ true
unfolding with
with-has ws k m h = has-words_of (λ m. has ws m || eqb m k) (length ws) m (has-low ws m h) ∙ ap (λ (b : Bool). b || eqb m k) h

pub with_new : (ws : List ℕ) (k : ℕ) → k < 64 * length ws → has (with ws k) k ≡ true
unfolding with
with_new ws k l = has-words_of (λ m. has ws m || eqb m k) (length ws) k l ∙ ap (λ (b : Bool). has ws k || b) (eq-eqb k k refl) ∙ or-true (has ws k)

-- ---- what is known stays known
pub settled-grows : (before after : List ℕ) (e v : ℕ) → ((m : ℕ) → has before m ≡ true → has after m ≡ true) → settled before e v ≡ true → settled after e v ≡ true
unfolding settled
settled-grows before after e v g h = ⊎_elim
    (λ a. ap (λ (b : Bool). b || has after (no_place e v)) (g (yes_place e v) a))
    (λ a. ap (λ (b : Bool). has after (yes_place e v) || b) (g (no_place e v) a) ∙ or-true (has after (yes_place e v)))
    (or_cases (has before (yes_place e v)) (has before (no_place e v)) h)

module _ (cs : List ℕ) (vs : List ℤ) where
  -- what is known is the verdict
  pub known-right : (memo : List ℕ) (e v : ℕ) → MemoRight cs vs memo → v < max_nodes → settled memo e v ≡ true → has memo (yes_place e v) ≡ conforms (graph_at cs vs) (shape_at cs vs e) v
  unfolding settled
  known-right memo e v r l h = ⊎_elim (λ a. a ∙ sym (r.yes e v l a)) (λ a. no a (has memo (yes_place e v)) refl ∙ sym (r.no e v l a)) (or_cases (has memo (yes_place e v)) (has memo (no_place e v)) h)
    where
      no : has memo (no_place e v) ≡ true → (b : Bool) → has memo (yes_place e v) ≡ b → b ≡ false
      no a true q = absurd (never_both (r.yes e v l q) (r.no e v l a))
      no a false q = refl

  -- nothing is known
  pub right-none : (k : ℕ) → MemoRight cs vs (replicate k 0)
  right-none k = record {
    low = λ e v l h. absurd (never_both h (has_zeros k (yes_place e v)));
    yes = λ e v l h. absurd (never_both h (has_zeros k (yes_place e v)));
    no = λ e v l h. absurd (never_both h (has_zeros k (no_place e v)));
  }

  -- one verdict more
  module _ (memo new : List ℕ) (e v : ℕ) (b : Bool) (r : MemoRight cs vs memo) (l : v < node_count cs) (room : node_count cs ≤ max_nodes) (eb : b ≡ conforms (graph_at cs vs) (shape_at cs vs e) v) (en : new ≡ with memo (cond b (yes_place e v) (no_place e v))) where
    -- a number of the memo afterwards: an old one, or the new one
    old_or_new : (m : ℕ) → has new m ≡ true → (has memo m ≡ true) ⊎ (m ≡ cond b (yes_place e v) (no_place e v))
    old_or_new m h = has-with memo (cond b (yes_place e v) (no_place e v)) m (ap (λ (ws : List ℕ). has ws m) (sym en) ∙ h)

    -- the new one is a yes of e and v, or a no
    new_yes : (f w : ℕ) → w < max_nodes → (c : Bool) → b ≡ c → yes_place f w ≡ cond c (yes_place e v) (no_place e v) → (f ≡ e) × (w ≡ v) × (b ≡ true)
    new_yes f w k true q m = (omega arith, omega arith, q)
    new_yes f w k false q m = absurd (omega arith)

    new_no : (f w : ℕ) → w < max_nodes → (c : Bool) → b ≡ c → no_place f w ≡ cond c (yes_place e v) (no_place e v) → (f ≡ e) × (w ≡ v) × (b ≡ false)
    new_no f w k true q m = absurd (omega arith)
    new_no f w k false q m = (omega arith, omega arith, q)

    at : {f w : ℕ} {c : Bool} → f ≡ e → w ≡ v → b ≡ c → conforms (graph_at cs vs) (shape_at cs vs f) w ≡ c
    at p q h = ap₂ (λ (f w : ℕ). conforms (graph_at cs vs) (shape_at cs vs f) w) p q ∙ sym eb ∙ h

    pub right-more : MemoRight cs vs new
    right-more = record {
      low = λ f w k h. ⊎_elim (λ a. r.low f w k a) (λ m. let n = new_yes f w k b refl m in subst (λ (x : ℕ). x < node_count cs) (sym n.1) l) (old_or_new (yes_place f w) h);
      yes = λ f w k h. ⊎_elim (λ a. r.yes f w k a) (λ m. let n = new_yes f w k b refl m in at n.0 n.1 n.2) (old_or_new (yes_place f w) h);
      no = λ f w k h. ⊎_elim (λ a. r.no f w k a) (λ m. let n = new_no f w k b refl m in at n.0 n.1 n.2) (old_or_new (no_place f w) h);
    }

    pub grows-more : (m : ℕ) → has memo m ≡ true → has new m ≡ true
    grows-more m h = ap (λ (ws : List ℕ). has ws m) en ∙ with-has memo (cond b (yes_place e v) (no_place e v)) m h

    pub settled-more : length memo ≡ memo_count → e < max_forms → settled new e v ≡ true
    unfolding settled
    settled-more size low = go b refl
      where
        here : {c : Bool} → b ≡ c → has new (cond c (yes_place e v) (no_place e v)) ≡ true
        here {c} q = ap (λ (ws : List ℕ). has ws (cond c (yes_place e v) (no_place e v))) (en ∙ ap (λ (t : Bool). with memo (cond t (yes_place e v) (no_place e v))) q) ∙ with_new memo (cond c (yes_place e v) (no_place e v)) (fits c)
          where
            fits : (c : Bool) → cond c (yes_place e v) (no_place e v) < 64 * length memo
            fits true = omega arith
            fits false = omega arith

        go : (c : Bool) → b ≡ c → (has new (yes_place e v) || has new (no_place e v)) ≡ true
        go true q = ap (λ (t : Bool). t || has new (no_place e v)) (here q)
        go false q = ap (λ (t : Bool). has new (yes_place e v) || t) (here q) ∙ or-true (has new (yes_place e v))

-- ---- the rows of an entry, as the code cuts them
pub row_words : (memo : List ℕ) (at : ℕ) {ws : List ℕ} → ws ≡ words_of (has (take (length memo - at) (drop at memo))) 16 → ws ≡ words_of (λ v. has memo (at * 64 + v)) 16
row_words memo at e =
    e ∙ ap (λ (l : List ℕ). words_of (has l) 16) (take_all (length memo - at) (drop at memo) (omega (arith, length-drop at memo)))
    ∙ words_of_ext (has (drop at memo)) (λ v. has memo (at * 64 + v)) 16 (λ m l. has-drop memo at m)

-- the words ws without those of y and those of n
pub unsettled_words : (ws : List ℕ) (y n : ℕ → Bool) {la lb lc ld : List ℕ} → length ws ≡ 16 → la ≡ words_of y 16 → lb ≡ words_of n 16 → lc ≡ difference ws la → ld ≡ difference lc lb
    → ld ≡ words_of (λ v. (has ws v && not (y v)) && not (n v)) 16
unfolding difference
unsettled_words ws y n {la} {lb} {lc} {ld} l ea eb ec ed =
    let fc : lc ≡ words_of (λ m. has ws m && not (y m)) 16 =
    ec ∙ ap (words_of (λ m. has ws m && not (has la m))) l ∙ words_of_ext (λ m. has ws m && not (has la m)) (λ m. has ws m && not (y m)) 16 (λ m k. ap (λ (t : Bool). has ws m && not t) (has_of y 16 ea m k)) in
    ed ∙ difference_of (λ m. has ws m && not (y m)) n 16 fc eb
