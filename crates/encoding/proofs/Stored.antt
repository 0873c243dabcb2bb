-- The names of a book, read back from their table as any table's names are read: up to the first zero. And so the link `under`.
use Prim.Native.Nat.{ℕ, zero, suc, ◌+◌, ◌-◌, ◌*◌, ◌<◌, ◌≤◌}
use mathlib.Core.List.{List, [], ◌∷◌, ◌++◌, append-nil}
use mathlib.Core.Bool.{true, true≢false}
use mathlib.Core.Path.{◌≡◌, refl, sym, ap, ◌∙◌}
use native.Mathlib.Omega.{arith}
use lib.Dec.{leb}
use lib.ListN.{length, get_or, take, drop, replicate, length-append, get_or-append}
use lib.Seq.{take-append-add, get_or-take, length-take-le, ext_get_or}
use borrow.Author.Tests.{le-leb, eq-eqb, ne_eqb}
use Rattle.base.specs.Bytes.{eql}
use Rattle.base.specs.Least.{least_of}
use Rattle.base.specs.Lists.{allb}
use Rattle.base.proofs.Bools.{and_left, and_right, and_both}
use Rattle.base.proofs.Least.{least_of_ext}
use Rattle.text.specs.Items.{name_byte, is_name}
use Rattle.text.specs.Pool.{padded, all_names}
use Rattle.text.proofs.Items.{name_short, name_bytes_lem}
use Rattle.text.proofs.Places.{names_at}
use Rattle.text.proofs.Pool.{padded-length}
use Rattle.model.specs.Limits.{max_name, name_bytes}
use Rattle.model.specs.Books.{Book, Name, Pool, links, names, under, number_in, sub_class_of}
use Rattle.model.specs.Valid.{capacity, admissible}
use Rattle.model.proofs.Lines.{names-within}
use Rattle.tables.specs.Names.{before_zero, name_from, link_name_at, sub_class_at}
use Rattle.tables.proofs.Names.{name_byte_lem, name_full}
use Rattle.encoding.specs.Encode.{encode_names, encode_cells, pool_base}
use Rattle.encoding.proofs.Counts.{names-length, names-counted}
use Rattle.encoding.proofs.Names.{short, name_at, padded-at, pool_inside}

-- ---- a name, and zeros after it
not_zero : (x : ℕ) → name_byte x ≡ true → x ≡ 0 → ⊥
unfolding name_byte
not_zero x e z = true≢false (sym e ∙ ap name_byte z)

before-none : (z : List ℕ) → get_or z 0 0 ≡ 0 → before_zero z ≡ []
unfolding before_zero
before-none [] e = refl
before-none (x ∷ z) e = rw (eq-eqb x 0 e)

before_name : (w z : List ℕ) → allb name_byte w ≡ true → get_or z 0 0 ≡ 0 → before_zero (w ++ z) ≡ w
unfolding before_zero allb
before_name [] z e h = before-none z h
before_name (x ∷ w) z e h = rw (ne_eqb x 0 (not_zero x (and_left (name_byte x) (allb name_byte w) e))) (ap (λ (t : List ℕ). x ∷ t) (before_name w z (and_right (name_byte x) (allb name_byte w) e) h))

zeros_first : (n m : ℕ) → ◌≡◌ {A = ℕ} (get_or (take n (replicate m 0)) 0 0) 0
zeros_first zero m = refl
zeros_first (suc n) zero = refl
zeros_first (suc n) (suc m) = refl

-- of a name in its 32 bytes the name is left
before-padded : (w : Name) → is_name w ≡ true → before_zero (take max_name (padded w)) ≡ w
unfolding padded
before-padded w e =
    let n : ℕ = max_name - length w in
    let z : List ℕ = replicate (name_bytes - length w) 0 in
    let all : max_name ≡ length w + n = omega (arith, name_short w e) in
    ap (λ (k : ℕ). before_zero (take k (w ++ z))) all ∙ (ap before_zero (take-append-add w z n) ∙ before_name w (take n z) (name_bytes_lem w e) (zeros_first n (name_bytes - length w)))

names-short : (ws : List Name) → all_names ws ≡ true → short ws ≡ true
unfolding all_names allb
names-short [] e = refl
names-short (w ∷ ws) e = and_both (leb (length w) max_name) (short ws) (le-leb (length w) max_name (name_short w (and_left (is_name w) (all_names ws) e))) (names-short ws (and_right (is_name w) (all_names ws) e))

-- ---- the names of a pool, whatever lies past the table
module _ (b : Book) (p : Pool) (made : all_names (names p b) ≡ true) (ok : admissible b ≡ true) (t : List ℕ) where
  abbrev table : List ℕ
  table = encode_names b ++ t

  stored : (k : ℕ) → k < length (names p b) → take max_name (drop (pool_base p + name_bytes * k) table) ≡ take max_name (padded (get_or (names p b) k []))
  stored k h =
      let w : Name = get_or (names p b) k [] in
      let f : ℕ = pool_base p + name_bytes * k in
      let s : length w ≤ max_name = name_short w (names_at (names p b) made k h) in
      let few : length (names p b) ≤ capacity p = names-within p b ok in
      let long : f + name_bytes ≤ length (encode_names b) = omega (arith, pool_inside p, names-length b, few) in
      let left : length (take max_name (drop f table)) ≡ max_name = name_full table f (omega (arith, length-append (encode_names b) t, long)) in
      let right : length (take max_name (padded w)) ≡ max_name = length-take-le max_name (padded w) (omega (arith, padded-length w (omega arith))) in
      ext_get_or 0 (take max_name (drop f table)) (take max_name (padded w)) (left ∙ sym right) (λ i l.
      let low : i < max_name = omega (arith, left) in
      let at : f + i ≡ pool_base p + (k * name_bytes + i) = omega arith in
      name_byte_lem table f i low ∙ (
      get_or-append (encode_names b) t 0 (f + i) (omega (arith, long))
      ∙ (ap (λ (k : ℕ). get_or (encode_names b) k 0) at
      ∙ (name_at b p (names-short (names p b) made) k i (omega (arith, few)) (omega arith)
      ∙ (sym (padded-at w i) ∙ sym (get_or-take max_name (padded w) i 0 low))))))

  -- each name, as it is read
  pub name_back : (k : ℕ) → k < length (names p b) → name_from table (pool_base p + name_bytes * k) ≡ get_or (names p b) k []
  unfolding name_from
  name_back k h = ap before_zero (stored k h) ∙ before-padded (get_or (names p b) k []) (names_at (names p b) made k h)

-- ---- document 02, Job 5: the tables' link `under` is the book's
pub sub_class_read : (b : Book) → all_names (names links b) ≡ true → admissible b ≡ true → sub_class_at (encode_names b) (encode_cells b) ≡ sub_class_of b
unfolding sub_class_at sub_class_of number_in pool_base
sub_class_read b made ok =
    ap (least_of (λ l. eql under (link_name_at (encode_names b) l))) (names-counted b links)
    ∙ least_of_ext (λ l. eql under (link_name_at (encode_names b) l)) (λ k. eql under (get_or (names links b) k [])) (length (names links b)) (λ k l. ap (eql under) (ap (λ (ns : List ℕ). link_name_at ns k) (sym (append-nil (encode_names b))) ∙ name_back b links made ok [] k l))
