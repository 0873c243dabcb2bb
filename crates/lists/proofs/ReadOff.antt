-- Read off again: the row of a rule, up to its length, is the list that was put there.
use Prim.Native.Nat.{ℕ, zero, suc, ◌+◌, ◌*◌, ◌<◌, ◌≤◌}
use mathlib.Core.List.{List, ◌++◌}
use mathlib.Core.Logic.{⊎_elim}
use mathlib.Core.Path.{◌≡◌, refl, sym, ap, subst, ◌∙◌}
use native.Mathlib.Nat.{eq-or-lt_of_le, le_of_suc-le-suc}
use native.Mathlib.Omega.{arith}
use lib.ListN.{length, take, drop, set, get_or, length-set, take-append-drop}
use lib.Seq.{take-append-le, drop-append-le, take-append_seam, drop_at, length-take-le, get_or-set_same, get_or-set_other}
use Rattle.lists.specs.Rows.{over, with_row, with_rows, with_lengths, row_in}
use Rattle.model.specs.Limits.{max_nodes}
use Rattle.lists.proofs.Rows.{length-row}

-- a part that lies within the first of two lists
within-front : (xs ys : List ℕ) (i k : ℕ) → i + k ≤ length xs → take k (drop i (xs ++ ys)) ≡ take k (drop i xs)
within-front xs ys i k room =
    ap (take k) (drop-append-le i xs ys (omega (arith, room)))
    ∙ take-append-le k (drop i xs) ys (omega (arith, room, lib.ListN.length-drop i xs))

-- row r with a list in front; a row before it keeps what it has
row_here : (r : ℕ) (xs ls : List ℕ) → max_nodes * r ≤ length ls → take (length xs) (drop (max_nodes * r) (with_row r xs ls)) ≡ xs
unfolding with_row over
row_here r xs ls room =
    ap (take (length xs)) (drop_at (take (max_nodes * r) ls) (xs ++ drop (length xs) (drop (max_nodes * r) ls)) (max_nodes * r) (length-take-le (max_nodes * r) ls room))
    ∙ take-append_seam xs (drop (length xs) (drop (max_nodes * r) ls))

row_before : (m r k : ℕ) (xs ls : List ℕ) → r < m → k ≤ max_nodes → max_nodes * m ≤ length ls → take k (drop (max_nodes * r) (with_row m xs ls)) ≡ take k (drop (max_nodes * r) ls)
unfolding with_row
row_before m r k xs ls low small room =
    let front : List ℕ = take (max_nodes * m) ls in
    let fits : max_nodes * r + k ≤ length front = omega (arith, low, small, length-take-le (max_nodes * m) ls room) in
    within-front front (over xs (drop (max_nodes * m) ls)) (max_nodes * r) k fits
    ∙ (sym (within-front front (drop (max_nodes * m) ls) (max_nodes * r) k fits) ∙ ap (λ l. take k (drop (max_nodes * r) l)) (take-append-drop (max_nodes * m) ls))

module _ (list : ℕ → List ℕ) (short : (r : ℕ) → length (list r) ≤ max_nodes) where
  pub length-rows : (n : ℕ) (ls : List ℕ) → max_nodes * n ≤ length ls → length (with_rows list n ls) ≡ length ls
  unfolding with_rows
  length-rows zero ls room = refl
  length-rows (suc n) ls room =
      let e = length-rows n ls (omega (arith, room)) in
      length-row n (list n) (with_rows list n ls) (omega (arith, e, room, short n)) ∙ e

  pub length-lengths : (n : ℕ) (ls : List ℕ) → length (with_lengths list n ls) ≡ length ls
  unfolding with_lengths
  length-lengths zero ls = refl
  length-lengths (suc n) ls = length-set (with_lengths list n ls) n (length (list n)) ∙ length-lengths n ls

  pub length_read : (n : ℕ) (ks : List ℕ) → n ≤ length ks → (r : ℕ) → r < n → get_or (with_lengths list n ks) r 0 ≡ length (list r)
  unfolding with_lengths
  length_read zero ks room r low = absurd (omega (arith, low))
  length_read (suc n) ks room r low =
      let before : List ℕ = with_lengths list n ks in
      ⊎_elim
      (λ e. subst (λ i. get_or (set before n (length (list n))) i 0 ≡ length (list i)) (sym e) (get_or-set_same before n (length (list n)) 0 (omega (arith, room, length-lengths n ks))))
      (λ l. get_or-set_other before n r (length (list n)) 0 (λ e. omega (arith, e, l)) ∙ length_read n ks (omega (arith, room)) r l)
      (eq-or-lt_of_le (le_of_suc-le-suc low))

  pub nodes_read : (n : ℕ) (ls : List ℕ) → max_nodes * n ≤ length ls → (r : ℕ) → r < n → take (length (list r)) (drop (max_nodes * r) (with_rows list n ls)) ≡ list r
  unfolding with_rows
  nodes_read zero ls room r low = absurd (omega (arith, low))
  nodes_read (suc n) ls room r low =
      let before : List ℕ = with_rows list n ls in
      let fits : max_nodes * n ≤ length before = omega (arith, room, length-rows n ls (omega (arith, room))) in
      ⊎_elim
      (λ e. subst (λ i. take (length (list i)) (drop (max_nodes * i) (with_row n (list n) before)) ≡ list i) (sym e) (row_here n (list n) before fits))
      (λ l. row_before n r (length (list r)) (list n) before l (short r) fits ∙ nodes_read n ls (omega (arith, room)) r l)
      (eq-or-lt_of_le (le_of_suc-le-suc low))

  -- the row, up to its length
  pub row_read : (n : ℕ) (ls ks : List ℕ) → max_nodes * n ≤ length ls → n ≤ length ks → (r : ℕ) → r < n → row_in (with_rows list n ls) (with_lengths list n ks) r ≡ list r
  unfolding row_in
  row_read n ls ks room more r low = ap (λ k. take k (drop (max_nodes * r) (with_rows list n ls))) (length_read n ks more r low) ∙ nodes_read n ls room r low
