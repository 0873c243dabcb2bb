-- The tables of the empty book, at every place: one link `a`, one type `langstring`, and zeros.
use Prim.Native.Nat.{ℕ, zero, suc, ◌<◌}
use mathlib.Core.List.{List, [], ◌∷◌}
use mathlib.Core.Bool.{true}
use mathlib.Core.Path.{◌≡◌, refl, sym, ◌∙◌}
use native.Mathlib.Omega.{arith}
use lib.Dec.{eqb}
use lib.ListN.{get_or, drop, set, replicate, length-set, length-replicate}
use lib.Seq.{ext_get_or, get_or-set_same, get_or-set_other}
use lib.IntN.{pos}
use borrow.Author.Tests.{eqb-true}
use Rattle.base.specs.Lists.{allb}
use Rattle.base.proofs.Bools.{and_left, and_right}
use Rattle.model.specs.Books.{built_in, collect, names, rules}
use Rattle.model.specs.Sizes.{sum_over, forms_in, paths_in, items_in}
use Rattle.tables.specs.Layout.{cell_count, value_count}
use Rattle.encoding.specs.Flatten.{add_shapes, roots_of}
use Rattle.encoding.specs.Encode.{col, cell_columns, value_columns, entries_of, counts_of, content_of, encode_cells, encode_values}
use Rattle.encoding.proofs.Places.{at_first, at_blank}
use Rattle.encoding.proofs.Counts.{cells-length, values_length}
use Rattle.encoding.proofs.Names.{same_everywhere}

zeros_at : (xs : List ℕ) → allb (λ x. eqb x 0) xs ≡ true → (i : ℕ) → get_or xs i 0 ≡ 0
unfolding allb
zeros_at [] h i = refl
zeros_at (x ∷ xs) h zero = eqb-true x 0 (and_left _ _ h)
zeros_at (x ∷ xs) h (suc i) = zeros_at xs (and_right (eqb x 0) _ h) i

counts-empty : (i : ℕ) → get_or (counts_of []) i 0 ≡ get_or (0 ∷ 1 ∷ 1 ∷ []) i 0
unfolding counts_of paths_in forms_in items_in sum_over collect names built_in rules allb
counts-empty zero = refl
counts-empty (suc zero) = refl
counts-empty (suc (suc zero)) = refl
counts-empty (suc (suc (suc i))) = zeros_at (drop 3 (counts_of [])) refl i

-- no node, one link, one type, and no more
pub cells-empty : (i : ℕ) → get_or (encode_cells []) i 0 ≡ get_or (0 ∷ 1 ∷ 1 ∷ []) i 0
unfolding encode_cells content_of counts_of paths_in forms_in items_in sum_over entries_of collect rules add_shapes roots_of allb
cells-empty i =
    let cs = drop 1 (cell_columns (content_of [])) in
    at_first 0 (col 10 (counts_of [])) cs (omega arith) (at_blank 0 cs refl) i ∙ counts-empty i

pub values-empty : (i : ℕ) → get_or (encode_values []) i (pos 0) ≡ pos 0
unfolding encode_values content_of entries_of collect add_shapes allb
values-empty = at_blank (pos 0) (value_columns (content_of [])) refl

-- the same as zeros with two stores
abbrev pub zeros : ℕ → List ℕ
zeros n = replicate n 0

two_stores : (n : ℕ) → 2 < n → (i : ℕ) → get_or (set (set (zeros n) 1 1) 2 1) i 0 ≡ get_or (0 ∷ 1 ∷ 1 ∷ []) i 0
two_stores n h zero = get_or-set_other (set (zeros n) 1 1) 2 0 1 0 (omega arith) ∙ get_or-set_other (zeros n) 1 0 1 0 (omega arith) ∙ same_everywhere 0 n 0
two_stores n h (suc zero) = get_or-set_other (set (zeros n) 1 1) 2 1 1 0 (omega arith) ∙ get_or-set_same (zeros n) 1 1 0 (omega (arith, length-replicate {A = ℕ} n 0))
two_stores n h (suc (suc zero)) = get_or-set_same (set (zeros n) 1 1) 2 1 0 (omega (arith, length-set (zeros n) 1 1, length-replicate {A = ℕ} n 0))
two_stores n h (suc (suc (suc i))) = get_or-set_other (set (zeros n) 1 1) 2 (suc (suc (suc i))) 1 0 (omega arith) ∙ get_or-set_other (zeros n) 1 (suc (suc (suc i))) 1 0 (omega arith) ∙ same_everywhere 0 n (suc (suc (suc i)))

pub cells-start : encode_cells [] ≡ set (set (zeros cell_count) 1 1) 2 1
cells-start =
    ext_get_or 0 (encode_cells []) (set (set (zeros cell_count) 1 1) 2 1)
    (cells-length [] ∙ sym (length-set (set (zeros cell_count) 1 1) 2 1 ∙ length-set (zeros cell_count) 1 1 ∙ length-replicate {A = ℕ} cell_count 0))
    (λ i _. cells-empty i ∙ sym (two_stores cell_count (omega arith) i))

pub values-start : encode_values [] ≡ replicate value_count (pos 0)
values-start = ext_get_or (pos 0) (encode_values []) (replicate value_count (pos 0)) (values_length [] ∙ sym (length-replicate value_count (pos 0))) (λ i _. values-empty i ∙ sym (same_everywhere (pos 0) value_count i))
