-- The names of a book in their table: each at its pool number, in 32 bytes, and zeros elsewhere.
use Prim.Native.Nat.{ℕ, zero, suc, ◌+◌, ◌-◌, ◌*◌, ◌≤◌, ◌<◌}
use mathlib.Core.List.{List, [], ◌∷◌, ◌++◌}
use mathlib.Core.Bool.{Bool, true}
use mathlib.Core.Path.{◌≡◌, refl, sym, ap, ◌∙◌, subst}
use native.Mathlib.Nat.{add_assoc}
use native.Mathlib.Omega.{arith}
use lib.Dec.{leb}
use lib.ListN.{length, get_or, replicate, length-append, get_or-append, get_or-eq_default}
use lib.Seq.{get_or-append-add, slice}
use borrow.Author.Tests.{leb-true}
use Rattle.base.specs.Lists.{allb}
use Rattle.base.proofs.Bools.{and_left, and_right}
use Rattle.base.proofs.Columns.{at-flat}
use Rattle.base.proofs.Lists.{allb-at}
use Rattle.text.proofs.Pool.{padded-length}
use Rattle.text.specs.Pool.{padded, pool_of}
use Rattle.model.specs.Limits.{max_name, name_bytes}
use Rattle.model.specs.Books.{Book, Name, Pool, nodes, links, types, langs, shapes, names}
use Rattle.model.specs.Valid.{capacity, admissible}
use Rattle.tables.specs.Layout.{name_count}
use Rattle.encoding.specs.Encode.{name_columns, encode_names, pool_base}
use Rattle.encoding.proofs.Places.{below_or, slice_is}
use Rattle.model.proofs.Lines.{names-within}
use Rattle.encoding.proofs.Counts.{names-length}

-- names that have their 32 bytes
abbrev pub short : List Name → Bool
short ws = allb (λ w. leb (length w) max_name) ws

-- ---- a name in its 32 bytes
pub same_everywhere : {A : Type 0} (a : A) (n j : ℕ) → get_or (replicate n a) j a ≡ a
same_everywhere a zero j = refl
same_everywhere a (suc n) zero = refl
same_everywhere a (suc n) (suc j) = same_everywhere a n j

pub padded-at : (w : Name) (i : ℕ) → get_or (padded w) i 0 ≡ get_or w i 0
unfolding padded
padded-at w i =
    let r : List ℕ = replicate (name_bytes - length w) 0 in
    below_or (get_or (w ++ r) i 0 ≡ get_or w i 0) i (length w) (get_or-append w r 0 i)
    (λ k. let e : i ≡ length w + (i - length w) = omega arith in
    ap (λ (j : ℕ). get_or (w ++ r) j 0) e ∙ get_or-append-add w r (i - length w) 0 ∙ same_everywhere 0 (name_bytes - length w) (i - length w) ∙ sym (get_or-eq_default w 0 k))

-- ---- a pool
pub pool_length : (ws : List Name) → short ws ≡ true → length (pool_of ws) ≡ length ws * name_bytes
unfolding pool_of allb
pool_length [] h = refl
pool_length (w ∷ ws) h = omega (arith, length-append (padded w) (pool_of ws), padded-length w (omega (arith, leb-true (length w) max_name (and_left _ _ h))), pool_length ws (and_right (leb (length w) max_name) _ h))

-- byte i of number k; a number past the last has none
pub pool_at : (ws : List Name) → short ws ≡ true → (k i : ℕ) → i < name_bytes → get_or (pool_of ws) (k * name_bytes + i) 0 ≡ get_or (get_or ws k []) i 0
unfolding pool_of allb
pool_at [] h k i l = refl
pool_at (w ∷ ws) h zero i l =
    let n = padded-length w (omega (arith, leb-true (length w) max_name (and_left _ _ h))) in
    let e : 0 * name_bytes + i ≡ i = omega arith in
    ap (λ (j : ℕ). get_or (padded w ++ pool_of ws) j 0) e ∙ get_or-append (padded w) (pool_of ws) 0 i (omega arith) ∙ padded-at w i
pool_at (w ∷ ws) h (suc k) i l =
    let n = padded-length w (omega (arith, leb-true (length w) max_name (and_left _ _ h))) in
    let e : suc k * name_bytes + i ≡ length (padded w) + (k * name_bytes + i) = omega arith in
    ap (λ (j : ℕ). get_or (padded w ++ pool_of ws) j 0) e ∙ get_or-append-add (padded w) (pool_of ws) (k * name_bytes + i) 0 ∙ pool_at ws (and_right (leb (length w) max_name) _ h) k i l

-- ---- the table
pub pool_place : (b : Book) (p : Pool) (i : ℕ) → i < capacity p * name_bytes → get_or (encode_names b) (pool_base p + i) 0 ≡ get_or (pool_of (names p b)) i 0
unfolding encode_names pool_base capacity
pool_place b nodes i l = at-flat 0 (name_columns b) 0 i l
pool_place b links i l = at-flat 0 (name_columns b) 1 i l
pool_place b types i l = at-flat 0 (name_columns b) 2 i l
pool_place b langs i l = at-flat 0 (name_columns b) 3 i l
pool_place b shapes i l = at-flat 0 (name_columns b) 4 i l

pub pool_inside : (p : Pool) → pool_base p + capacity p * name_bytes ≤ name_count
unfolding pool_base capacity
pool_inside nodes = omega arith
pool_inside links = omega arith
pool_inside types = omega arith
pool_inside langs = omega arith
pool_inside shapes = omega arith

module _ (b : Book) (p : Pool) (s : short (names p b) ≡ true) where
  -- every place of the pool: byte i of number k, zero past the name and past the last name
  pub name_at : (k i : ℕ) → k < capacity p → i < name_bytes → get_or (encode_names b) (pool_base p + (k * name_bytes + i)) 0 ≡ get_or (get_or (names p b) k []) i 0
  name_at k i h l = pool_place b p (k * name_bytes + i) (omega arith) ∙ pool_at (names p b) s k i l

  module _ (ok : admissible b ≡ true) where
    -- each name of the pool
    pub name_stored : (k : ℕ) → k < length (names p b) → slice (pool_base p + k * name_bytes) (pool_base p + k * name_bytes + name_bytes) (encode_names b) ≡ padded (get_or (names p b) k [])
    name_stored k h =
        let w = get_or (names p b) k [] in
        let n : length (padded w) ≡ name_bytes = padded-length w (omega (arith, leb-true (length w) max_name (allb-at (λ w. leb (length w) max_name) (names p b) [] s k h))) in
        let f = pool_base p + k * name_bytes in
        let m = names-within p b ok in
        subst (λ (t : ℕ). slice f (f + t) (encode_names b) ≡ padded w) n
        (slice_is 0 (encode_names b) (padded w) f (omega (arith, pool_inside p, names-length b)) (λ j l.
        ap (λ (i : ℕ). get_or (encode_names b) i 0) (add_assoc (pool_base p) (k * name_bytes) j) ∙ name_at k j (omega arith) (omega arith) ∙ sym (padded-at w j)))
