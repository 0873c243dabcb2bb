-- Nodes and columns of cells looked at without early exit, and the facts column by column.
use Prim.Native.Nat.{ℕ, zero, suc, ◌≤◌}
use mathlib.Core.List.{List, [], ◌∷◌, ◌++◌}
use mathlib.Core.Bool.{Bool, true, false, ◌&&◌, ◌||◌, and-true, and_comm, and_assoc}
use mathlib.Core.Path.{◌≡◌, refl, sym, ap, ap₂, ◌∙◌}
use mathlib.Core.Logic.{⊎_elim}
use native.Mathlib.Nat.{zero-add}
use native.Mathlib.Numerals.{add-one}
use native.Mathlib.Omega.{arith}
use lib.Arith.{lt_of_le-ne}
use lib.Dec.{eqb, ltb}
use lib.ListN.{length, get_or, take, drop, length-take, length-append, get_or-append, get_or-eq_default}
use lib.Seq.{get_or-append_seam, get_or-take, get_or-drop}
use borrow.Author.Tests.{eqb-true, eqb-false, ltb-true, ltb-false}
use Rattle.std.specs.List.{range_with_len}
use Rattle.std.proofs.lemmas.List.FromFn.{length-range_with_len, get_or-range_with_len}
use Rattle.base.specs.Bounded.{every}
use Rattle.base.proofs.Bools.{bool_cases, same_test, and_left, and_right, and_both, or_cases}
use Rattle.base.proofs.Bounded.{every-at, every-all, every_ext}
use Rattle.tables.specs.Layout.{subjects, predicates, objects, node_count, link_count, fact_count}
use Rattle.tables.specs.WellFormed.{fact_ok}
use Rattle.tablecheck.specs.Parts.{place_below}

-- ---- each place below a bound
module _ (l : List ℕ) (bound : ℕ) where
  abbrev pub cell_below : ℕ → Bool
  cell_below i = ltb (get_or l i 0) bound

  -- nothing is missing of n places, or what is missing is below the bound
  abbrev pub rest_below : ℕ → Bool
  rest_below n = eqb (length l) n || ltb 0 bound

  past : (i : ℕ) → length l ≤ i → cell_below i ≡ ltb 0 bound
  past i h = ap (λ (x : ℕ). ltb x bound) (get_or-eq_default l 0 h)

  column-all : (n : ℕ) → length l ≤ n → (rest_below n && every cell_below (length l)) ≡ every cell_below n
  column-all n h = same_test (rest_below n && every cell_below (length l)) (every cell_below n) whole parts
    where
      at : every cell_below (length l) ≡ true → ltb 0 bound ≡ true → (i : ℕ) → cell_below i ≡ true
      at e z i = bool_cases (λ b. ltb i (length l) ≡ b → cell_below i ≡ true) (ltb i (length l)) (λ _ q. every-at cell_below (length l) e i (ltb-true i (length l) q)) (λ _ q. past i (ltb-false i (length l) q) ∙ z) refl

      whole : (rest_below n && every cell_below (length l)) ≡ true → every cell_below n ≡ true
      whole e =
          let q = and_right (rest_below n) (every cell_below (length l)) e in
          ⊎_elim
          (λ z. ap (every cell_below) (sym (eqb-true (length l) n z)) ∙ q)
          (λ z. every-all cell_below n (λ i _. at q z i))
          (or_cases (eqb (length l) n) (ltb 0 bound) (and_left (rest_below n) (every cell_below (length l)) e))

      rest : every cell_below n ≡ true → rest_below n ≡ true
      rest e = bool_cases (λ b. eqb (length l) n ≡ b → (b || ltb 0 bound) ≡ true) (eqb (length l) n) (λ _ q. refl) (λ _ q. sym (past (length l) (omega arith)) ∙ every-at cell_below n e (length l) (lt_of_le-ne h (eqb-false (length l) n q))) refl

      parts : every cell_below n ≡ true → (rest_below n && every cell_below (length l)) ≡ true
      parts e = and_both (rest_below n) (every cell_below (length l)) (rest e) (every-all cell_below (length l) (λ i k. every-at cell_below n e i (omega arith)))

-- ---- a fold that goes on to the end: a is a first test f, and the test of all that it has passed
module _ (f : Bool) (p : ℕ → Bool) where
  abbrev pub Passed : List ℕ → Bool → Type 0
  Passed l a = a ≡ (f && every (λ i. p (get_or l i 0)) (length l))

  pub passed_none : Passed [] f
  unfolding every
  passed_none = sym (and-true f)

  one-more : (l : List ℕ) (x : ℕ) → every (λ i. p (get_or (l ++ (x ∷ [])) i 0)) (length (l ++ (x ∷ []))) ≡ (p x && every (λ i. p (get_or l i 0)) (length l))
  unfolding every
  one-more l x =
      ap (every (λ i. p (get_or (l ++ (x ∷ [])) i 0))) (length-append l (x ∷ []) ∙ add-one (length l))
      ∙ ap₂ ◌&&◌ (ap p (get_or-append_seam l x [] 0)) (every_ext (λ i. p (get_or (l ++ (x ∷ [])) i 0)) (λ i. p (get_or l i 0)) (length l) (λ i h. ap p (get_or-append l (x ∷ []) 0 i h)))

  pub passed_more : (l : List ℕ) (x : ℕ) {a b : Bool} → Passed l a → b ≡ (a && p x) → Passed (l ++ (x ∷ [])) b
  passed_more l x e h =
      h ∙ ap (λ (c : Bool). c && p x) e
      ∙ and_assoc f (every (λ i. p (get_or l i 0)) (length l)) (p x)
      ∙ ap (λ (c : Bool). f && c) (and_comm (every (λ i. p (get_or l i 0)) (length l)) (p x) ∙ sym (one-more l x))

-- where the fold over 0..n ends
pub range_done : (p : ℕ → Bool) (n : ℕ) {r : Bool} → Passed true p (range_with_len 0 n) r → r ≡ every p n
range_done p n h =
    h
    ∙ ap (every (λ i. p (get_or (range_with_len 0 n) i 0))) (length-range_with_len 0 n)
    ∙ every_ext (λ i. p (get_or (range_with_len 0 n) i 0)) p n (λ i l. ap p (get_or-range_with_len 0 n i 0 l ∙ zero-add i))

-- where the fold over a column ends
pub column_done : (cs l : List ℕ) (base n bound : ℕ) {r : Bool} → l ≡ take n (drop base cs) → Passed (rest_below l bound n) (λ x. ltb x bound) l r → r ≡ every (place_below cs base bound) n
column_done cs l base n bound e h =
    h
    ∙ column-all l bound n (omega (arith, ap (λ (x : List ℕ). length x) e, length-take n (drop base cs)))
    ∙ every_ext (cell_below l bound) (place_below cs base bound) n (λ j k. ap (λ (x : ℕ). ltb x bound) (ap (λ (x : List ℕ). get_or x j 0) e ∙ get_or-take n (drop base cs) j 0 k ∙ get_or-drop base cs j 0))

-- ---- the facts
every_and : (p q : ℕ → Bool) (n : ℕ) → every (λ i. p i && q i) n ≡ (every p n && every q n)
unfolding every
every_and p q zero = refl
every_and p q (suc n) = ap (λ (b : Bool). (p n && q n) && b) (every_and p q n) ∙ swap (p n) (q n) (every p n) (every q n)
  where
    swap : (a b c d : Bool) → ((a && b) && (c && d)) ≡ ((a && c) && (b && d))
    swap false b c d = refl
    swap true true c d = refl
    swap true false true d = refl
    swap true false false d = refl

module _ (cs : List ℕ) (n v l : ℕ) {a b c : Bool} (facts : n ≡ fact_count cs) (nodes : v ≡ node_count cs) (links : l ≡ link_count cs) where
  pub facts_columns : a ≡ every (place_below cs subjects v) n → b ≡ every (place_below cs predicates l) n → c ≡ every (place_below cs objects v) n → (a && (b && c)) ≡ every (fact_ok cs) (fact_count cs)
  unfolding fact_ok
  facts_columns s p o = rw (s, p, o, facts, nodes, links) (sym (every_and _ _ (fact_count cs) ∙ ap (λ (r : Bool). every (place_below cs subjects (node_count cs)) (fact_count cs) && r) (every_and _ _ (fact_count cs))))
