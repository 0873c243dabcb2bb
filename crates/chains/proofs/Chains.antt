-- Chains: what the last item of a key says of all, no item, one item more, what may change without them, and a walk along one.
use Prim.Native.Nat.{ℕ, zero, suc, ◌+◌, ◌<◌, ◌≤◌}
use mathlib.Core.Bool.{Bool, true, false, cond, ◌||◌}
use mathlib.Core.List.{List}
use mathlib.Core.Path.{◌≡◌, refl, sym, ap, ap₂, ◌∙◌, subst}
use native.Mathlib.Nat.{le_refl, le-suc, le_trans}
use native.Mathlib.Numerals.{add-one}
use native.Mathlib.Omega.{arith}
use lib.Dec.{eqb, ltb}
use lib.ListN.{length, get_or, set, length-set}
use lib.Seq.{get_or-set_same, get_or-set_other}
use borrow.Author.Tests.{eq-eqb, ne_eqb, eqb-true, eqb-false, ltb-true, ltb-false}
use Rattle.base.specs.Bounded.{some}
use Rattle.chains.specs.Chains.{last_with, Chained, linked}

-- ---- the last item of a key
module _ (key : ℕ → ℕ) (h : ℕ) where
  pub last_le : (n : ℕ) → last_with key h n ≤ n
  unfolding last_with
  last_le zero = le_refl 0
  last_le (suc n) = go (eqb (key n) h) (last_le n)
    where
      go : (b : Bool) → last_with key h n ≤ n → cond b (suc n) (last_with key h n) ≤ suc n
      go true l = le_refl (suc n)
      go false l = le_trans l (le-suc n)

  -- an item of that key; one of another
  pub last_own : (n : ℕ) → key n ≡ h → last_with key h (suc n) ≡ suc n
  unfolding last_with
  last_own n e = ap (λ (b : Bool). cond b (suc n) (last_with key h n)) (eq-eqb (key n) h e)

  pub last-other : (n : ℕ) → (key n ≡ h → ⊥) → last_with key h (suc n) ≡ last_with key h n
  unfolding last_with
  last-other n ne = ap (λ (b : Bool). cond b (suc n) (last_with key h n)) (ne_eqb (key n) h ne)

  -- no item has the key
  pub last_none : (n : ℕ) → ((i : ℕ) → i < n → key i ≡ h → ⊥) → last_with key h n ≡ 0
  unfolding last_with
  last_none zero w = refl
  last_none (suc n) w = last-other n (w n (le_refl (suc n))) ∙ last_none n (λ i l. w i (le_trans l (le-suc n)))

  -- the last has the key
  pub last-key : (n i : ℕ) → last_with key h n ≡ suc i → key i ≡ h
  unfolding last_with
  last-key zero i e = absurd (omega arith)
  last-key (suc n) i e = go (eqb (key n) h) refl e (last-key n i)
    where
      go : (b : Bool) → eqb (key n) h ≡ b → cond b (suc n) (last_with key h n) ≡ suc i → (last_with key h n ≡ suc i → key i ≡ h) → key i ≡ h
      go true q e below = let z : i ≡ n = omega arith in ap key z ∙ eqb-true (key n) h q
      go false q e below = below e

  -- of items with that key alone, only those up to the last count
  pub some-last : (q : ℕ → Bool) (n : ℕ) → ((i : ℕ) → i < n → q i ≡ true → key i ≡ h) → some q n ≡ some q (last_with key h n)
  unfolding last_with some
  some-last q zero w = refl
  some-last q (suc n) w = go (eqb (key n) h) refl (q n) refl (some-last q n (λ i l. w i (le_trans l (le-suc n))))
    where
      go : (b : Bool) → eqb (key n) h ≡ b → (c : Bool) → q n ≡ c → some q n ≡ some q (last_with key h n) → some q (suc n) ≡ some q (cond b (suc n) (last_with key h n))
      go true e c f below = refl
      go false e true f below = absurd (eqb-false (key n) h e (w n (le_refl (suc n)) f))
      go false e false f below = ap (λ (x : Bool). x || some q n) f ∙ below

-- keys that agree
pub last_ext : (key key' : ℕ → ℕ) (h n : ℕ) → ((i : ℕ) → i < n → key i ≡ key' i) → last_with key h n ≡ last_with key' h n
unfolding last_with
last_ext key key' h zero w = refl
last_ext key key' h (suc n) w = ap₂ (λ (k m : ℕ). cond (eqb k h) (suc n) m) (w n (le_refl (suc n))) (last_ext key key' h n (λ i l. w i (le_trans l (le-suc n))))

-- ---- chains
-- no item yet
pub chained-none : (key : ℕ → ℕ) (slots heads nexts : ℕ) {index : List ℕ} → ((h : ℕ) → h < slots → get_or index (heads + h) 0 ≡ 0) → Chained key 0 slots heads nexts index
unfolding last_with
chained-none key slots heads nexts z = record { begins = z; follows = λ i l. absurd (omega arith) }

-- other keys, the same on the items; another slice, the same at their places
pub chained_same : {key key' : ℕ → ℕ} {n slots heads nexts : ℕ} {index index' : List ℕ} → ((i : ℕ) → i < n → key i ≡ key' i) → ((h : ℕ) → h < slots → get_or index' (heads + h) 0 ≡ get_or index (heads + h) 0) → ((i : ℕ) → i < n → get_or index' (nexts + i) 0 ≡ get_or index (nexts + i) 0)
    → Chained key n slots heads nexts index → Chained key' n slots heads nexts index'
chained_same {key} {key'} {n} k b f c = record {
  begins = λ h l. b h l ∙ c.begins h l ∙ last_ext key key' h n k;
  follows = λ i l. f i l ∙ c.follows i l ∙ ap (λ (h : ℕ). last_with key h i) (k i l) ∙ last_ext key key' (key' i) i (λ j m. k j (omega arith));
}

-- one item more
module _ (key : ℕ → ℕ) (n slots heads nexts : ℕ) {index : List ℕ} (apart : heads + slots ≤ nexts) (low : key n < slots) (room : nexts + n < length index) (c : Chained key n slots heads nexts index) where
  pub chained_more : Chained key (n + 1) slots heads nexts (linked index heads nexts (key n) n)
  chained_more = record { begins = λ h l. begin h l (eqb (key n) h) refl; follows = λ i l. follow i (eqb i n) refl (omega arith) }
    where
      begin : (h : ℕ) → h < slots → (b : Bool) → eqb (key n) h ≡ b → get_or (set (set index (nexts + n) (get_or index (heads + key n) 0)) (heads + key n) (n + 1)) (heads + h) 0 ≡ last_with key h (n + 1)
      begin h l true e =
          let q : key n ≡ h = eqb-true (key n) h e in
          ap (λ (k : ℕ). get_or (set (set index (nexts + n) (get_or index (heads + key n) 0)) (heads + key n) (n + 1)) (heads + k) 0) (sym q)
          ∙ get_or-set_same (set index (nexts + n) (get_or index (heads + key n) 0)) (heads + key n) (n + 1) 0 (omega (arith, length-set index (nexts + n) (get_or index (heads + key n) 0)))
          ∙ add-one n ∙ sym (last_own key h n q) ∙ ap (last_with key h) (sym (add-one n))
      begin h l false e =
          let ne = eqb-false (key n) h e in
          get_or-set_other (set index (nexts + n) (get_or index (heads + key n) 0)) (heads + key n) (heads + h) (n + 1) 0 (λ z. ne (omega arith))
          ∙ get_or-set_other index (nexts + n) (heads + h) (get_or index (heads + key n) 0) 0 (λ z. omega arith)
          ∙ c.begins h l ∙ sym (last-other key h n ne) ∙ ap (last_with key h) (sym (add-one n))

      follow : (i : ℕ) (b : Bool) → eqb i n ≡ b → i ≤ n → get_or (set (set index (nexts + n) (get_or index (heads + key n) 0)) (heads + key n) (n + 1)) (nexts + i) 0 ≡ last_with key (key i) i
      follow i b e l =
          get_or-set_other (set index (nexts + n) (get_or index (heads + key n) 0)) (heads + key n) (nexts + i) (n + 1) 0 (λ z. omega arith)
          ∙ below b e
        where
          below : (b : Bool) → eqb i n ≡ b → get_or (set index (nexts + n) (get_or index (heads + key n) 0)) (nexts + i) 0 ≡ last_with key (key i) i
          below true q =
              let z : i ≡ n = eqb-true i n q in
              ap (λ (k : ℕ). get_or (set index (nexts + n) (get_or index (heads + key n) 0)) (nexts + k) 0) z
              ∙ get_or-set_same index (nexts + n) (get_or index (heads + key n) 0) 0 room
              ∙ c.begins (key n) low ∙ ap (λ (k : ℕ). last_with key (key k) k) (sym z)
          below false q =
              let ne = eqb-false i n q in
              get_or-set_other index (nexts + n) (nexts + i) (get_or index (heads + key n) 0) 0 (λ z. ne (omega arith))
              ∙ c.follows i (omega (arith, ne))

-- ---- a walk along the chain of h, to its end
module _ (key : ℕ → ℕ) (n slots heads nexts : ℕ) {index : List ℕ} (c : Chained key n slots heads nexts index) where
  -- it begins with the last item that has the key; keys past the slots have no item
  pub walk_begins : ((i : ℕ) → i < n → key i < slots) → (h : ℕ) {at r : ℕ} → at ≡ heads + h → r ≡ cond (ltb h slots) (get_or index at 0) 0 → r ≡ last_with key h n
  walk_begins low h {at} p e = e ∙ go (ltb h slots) refl
    where
      go : (b : Bool) → ltb h slots ≡ b → cond b (get_or index at 0) 0 ≡ last_with key h n
      go true q = ap (λ (k : ℕ). get_or index k 0) p ∙ c.begins h (ltb-true h slots q)
      go false q = sym (last_none key h n (λ i l f. let g : slots ≤ h = ltb-false h slots q in let z : ⊥ = omega (arith, f, low i l) in z))

  -- what follows item i comes before it
  pub walk_falls : {next : ℕ} (i : ℕ) → i < n → next ≡ get_or index (nexts + i) 0 → next ≤ i
  walk_falls i l q = subst (λ (k : ℕ). k ≤ i) (sym (q ∙ c.follows i l)) (last_le key (key i) i)

  -- .. and has its key
  pub walk_next : (h : ℕ) {next : ℕ} (i : ℕ) → i < n → key i ≡ h → next ≡ get_or index (nexts + i) 0 → next ≡ last_with key h i
  walk_next h i l e q = q ∙ c.follows i l ∙ ap (λ (k : ℕ). last_with key k i) e
