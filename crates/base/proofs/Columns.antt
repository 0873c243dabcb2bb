-- Columns read back, and stores into them.
use Prim.Native.Nat.{ℕ, zero, suc, ◌+◌, ◌≤◌, ◌<◌}
use mathlib.Core.List.{List, [], ◌∷◌, ◌++◌}
use mathlib.Core.Path.{◌≡◌, refl, sym, ap, ap₂, ◌∙◌, subst}
use native.Mathlib.Nat.{add_assoc, zero-add, suc-add}
use native.Mathlib.Omega.{arith}
use lib.Dec.{eqb}
use lib.ListN.{length, get_or, set, length-append, length-set, get_or-append, get_or-eq_default}
use lib.Seq.{get_or-append-add, ext_get_or, get_or-set_same, get_or-set_other, set-append_left, get_or-append_seam}
use borrow.Author.Tests.{eqb-true, eqb-false}
use Rattle.base.specs.Columns.{Column, pad, flat, offset, column, push}
use Rattle.base.proofs.Lists.{length-values_from, at-values}
use Rattle.base.proofs.Bools.{bool_cases}

module _ {A : Type 0} (d : A) where
  pub length-pad : (w : ℕ) (xs : List A) → length (pad d w xs) ≡ w
  unfolding pad
  length-pad w xs = length-values_from (λ i. get_or xs i d) 0 w

  pub at-pad : (w : ℕ) (xs : List A) (i : ℕ) → i < w → get_or (pad d w xs) i d ≡ get_or xs i d
  unfolding pad
  at-pad w xs i l = at-values (λ i. get_or xs i d) w i d l

  -- one more item, at the next place
  pub pad_snoc : (w : ℕ) (xs : List A) (x : A) → length xs < w → set (pad d w xs) (length xs) x ≡ pad d w (xs ++ (x ∷ []))
  pad_snoc w xs x l = ext_get_or d (set (pad d w xs) (length xs) x) (pad d w (xs ++ (x ∷ []))) (length-set (pad d w xs) (length xs) x ∙ length-pad w xs ∙ sym (length-pad w (xs ++ (x ∷ [])))) (λ i h.
      let h' : i < w = omega (arith, h, length-set (pad d w xs) (length xs) x, length-pad w xs) in
      bool_cases (λ b. eqb i (length xs) ≡ b → get_or (set (pad d w xs) (length xs) x) i d ≡ get_or (pad d w (xs ++ (x ∷ []))) i d) (eqb i (length xs)) (λ _ e.
      let q : i ≡ length xs = eqb-true i (length xs) e in
      ap (λ (k : ℕ). get_or (set (pad d w xs) (length xs) x) k d) q ∙ get_or-set_same (pad d w xs) (length xs) x d (subst (λ (k : ℕ). length xs < k) (sym (length-pad w xs)) l)
      ∙ sym (ap (λ (k : ℕ). get_or (pad d w (xs ++ (x ∷ []))) k d) q ∙ at-pad w (xs ++ (x ∷ [])) (length xs) l ∙ get_or-append_seam xs x [] d))
      (λ _ e.
      let ne : i ≡ length xs → ⊥ = eqb-false i (length xs) e in
      get_or-set_other (pad d w xs) (length xs) i x d ne ∙ at-pad w xs i h' ∙ other i ne ∙ sym (at-pad w (xs ++ (x ∷ [])) i h')) refl)
    where
      past : (i : ℕ) → length xs < i → get_or xs i d ≡ get_or (xs ++ (x ∷ [])) i d
      past i h = get_or-eq_default xs d (omega arith) ∙ sym (get_or-eq_default (xs ++ (x ∷ [])) d (omega (arith, length-append xs (x ∷ []))))

      other : (i : ℕ) → (i ≡ length xs → ⊥) → get_or xs i d ≡ get_or (xs ++ (x ∷ [])) i d
      other i ne = bool_cases (λ b. lib.Dec.ltb i (length xs) ≡ b → get_or xs i d ≡ get_or (xs ++ (x ∷ [])) i d) (lib.Dec.ltb i (length xs)) (λ _ e. sym (get_or-append xs (x ∷ []) d i (borrow.Author.Tests.ltb-true i (length xs) e))) (λ _ e. past i (let l : length xs ≤ i = borrow.Author.Tests.ltb-false i (length xs) e in omega arith)) refl

  -- what stands at place i of column k
  pub at-flat : (cs : List (Column A)) (k i : ℕ) → i < (column cs k).width → get_or (flat d cs) (offset cs k + i) d ≡ get_or (column cs k).items i d
  unfolding flat
  at-flat [] k i l = absurd (omega arith)
  at-flat (c ∷ cs) zero i l =
      ap (λ (j : ℕ). get_or (pad d c.width c.items ++ flat d cs) j d) (zero-add i)
      ∙ get_or-append (pad d c.width c.items) (flat d cs) d i (subst (λ (j : ℕ). i < j) (sym (length-pad c.width c.items)) l)
      ∙ at-pad c.width c.items i l
  at-flat (c ∷ cs) (suc k) i l =
      ap (λ (j : ℕ). get_or (pad d c.width c.items ++ flat d cs) j d) (add_assoc c.width (offset cs k) i ∙ ap (λ (j : ℕ). j + (offset cs k + i)) (sym (length-pad c.width c.items)))
      ∙ get_or-append-add (pad d c.width c.items) (flat d cs) (offset cs k + i) d
      ∙ at-flat cs k i l

  set_append_add : (xs ys : List A) (n : ℕ) (a : A) → set (xs ++ ys) (length xs + n) a ≡ xs ++ set ys n a
  set_append_add [] ys n a = ap (λ (j : ℕ). set ys j a) (zero-add n)
  set_append_add (x ∷ xs) ys n a = ap (λ (j : ℕ). set (x ∷ (xs ++ ys)) j a) (suc-add (length xs) n) ∙ ap (λ (l : List A). x ∷ l) (set_append_add xs ys n a)

  -- a store at the next place of column k
  pub set-flat : (cs : List (Column A)) (k : ℕ) (x : A) → length (column cs k).items < (column cs k).width → set (flat d cs) (offset cs k + length (column cs k).items) x ≡ flat d (push cs k x)
  unfolding flat
  set-flat [] k x l = absurd (omega arith)
  set-flat (c ∷ cs) zero x l =
      ap (λ (j : ℕ). set (pad d c.width c.items ++ flat d cs) j x) (zero-add (length c.items))
      ∙ set-append_left (pad d c.width c.items) (flat d cs) (length c.items) x (subst (λ (j : ℕ). length c.items < j) (sym (length-pad c.width c.items)) l)
      ∙ ap (λ (p : List A). p ++ flat d cs) (pad_snoc c.width c.items x l)
  set-flat (c ∷ cs) (suc k) x l =
      ap (λ (j : ℕ). set (pad d c.width c.items ++ flat d cs) j x) (add_assoc c.width (offset cs k) (length (column cs k).items) ∙ ap (λ (j : ℕ). j + (offset cs k + length (column cs k).items)) (sym (length-pad c.width c.items)))
      ∙ set_append_add (pad d c.width c.items) (flat d cs) (offset cs k + length (column cs k).items) x
      ∙ ap (λ (p : List A). pad d c.width c.items ++ p) (set-flat cs k x l)

  -- the widths together
  pub length-flat : (cs : List (Column A)) → length (flat d cs) ≡ offset cs (length cs)
  unfolding flat
  length-flat [] = refl
  length-flat (c ∷ cs) = length-append (pad d c.width c.items) (flat d cs) ∙ ap₂ (λ (a b : ℕ). a + b) (length-pad c.width c.items) (length-flat cs)
