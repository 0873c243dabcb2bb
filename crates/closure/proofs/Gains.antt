-- What rows gain: one law for each way in which gains follow each other, and the loops of this crate as uses of them.
use Prim.Native.Nat.{ℕ, zero, suc, ◌+◌, ◌*◌, ◌/◌, ◌%◌, ◌^◌, ◌-◌, ◌≤◌, ◌<◌}
use mathlib.Core.Bool.{Bool, true, false, not, ◌&&◌, ◌||◌, and-false, and-true, or-false}
use mathlib.Core.List.{List}
use mathlib.Core.Logic.{⊎_elim}
use mathlib.Core.Path.{◌≡◌, refl, sym, ap, ap₂, ◌∙◌}
use native.Mathlib.Nat.{le_refl, eq-or-lt_of_le, le_of_suc-le-suc, add-zero, add-suc}
use native.Mathlib.Omega.{arith}
use lib.Arith.{le-zero}
use lib.Bits.{bit_and, bit_or, or_lt}
use lib.Dec.{eqb, leb, ltb}
use lib.ListN.{length, get_or, set, take, drop, replicate}
use borrow.Author.Tests.{eq-eqb, eqb-true, eqb-false, lt-ltb, le-ltb, ltb-true, ltb-false, le-leb, leb-true}
use Rattle.base.specs.Bounded.{some}
use Rattle.base.proofs.Bools.{and_left, and_right, and_both, or_cases, same_test, or_left, or_right}
use Rattle.base.proofs.Bounded.{some_at, some_witness, some_ext, some-none}
use Rattle.nodeset.specs.Words.{bit, has, words_of}
use Rattle.nodeset.proofs.Bits.{bit-bit_or, bit-bit_and, bit_zero}
use Rattle.nodeset.proofs.Sets.{has-at, has_of, small_of, length_of, words_of_ext, set_words_lem, same-words, zeros, ltb-more}
use Rattle.model.specs.Limits.{max_nodes}
use Rattle.closure.specs.Rows.{Small, rows_of, in_rows, leads, Within, taken, through, composed}
use Rattle.closure.specs.Closing.{gained, given_if, by_node, union_of, by_word, in_first, Busy, Named}
use Rattle.closure.proofs.Rows.{row_of, place_of, place, rows-node, within-rows, or_join, lent_row}

-- ---- what rows with more have
-- a place of the rows with more
abbrev has_more : List ℕ → (ℕ → ℕ → Bool) → ℕ → Bool
has_more rows more x = has rows x || more (x / max_nodes) (x % max_nodes)

module _ (rows : List ℕ) (more : ℕ → ℕ → Bool) {ws : List ℕ} (e : ws ≡ gained rows more) where
  pub length-gained : length ws ≡ length rows
  unfolding gained
  length-gained = length_of (has_more rows more) (length rows) e

  has-gained : (x : ℕ) → x < 64 * length rows → has ws x ≡ has_more rows more x
  unfolding gained
  has-gained x l = has_of (has_more rows more) (length rows) e x l

  pub leads-gained : (v w : ℕ) → w < max_nodes → 16 * v + 16 ≤ length rows → leads ws v w ≡ (leads rows v w || more v w)
  leads-gained v w lw room = has-gained (max_nodes * v + w) (omega arith) ∙ ap₂ (λ (a b : ℕ). leads rows v w || more a b) (row_of v w lw) (place_of v w lw)

module _ (rows : List ℕ) where
  pub gained_ext : (a b : ℕ → ℕ → Bool) → ((v w : ℕ) → w < max_nodes → a v w ≡ b v w) → gained rows a ≡ gained rows b
  unfolding gained
  gained_ext a b h = words_of_ext (has_more rows a) (has_more rows b) (length rows) (λ x l. ap (λ (t : Bool). has rows x || t) (h (x / max_nodes) (x % max_nodes) (omega arith)))

  pub gained-none : Small rows → (more : ℕ → ℕ → Bool) → ((v w : ℕ) → w < max_nodes → more v w ≡ false) → rows ≡ gained rows more
  unfolding gained
  gained-none small more h = same-words rows (λ x. more (x / max_nodes) (x % max_nodes)) small (λ x. h (x / max_nodes) (x % max_nodes) (omega arith))

  -- one gain and then another
  pub gained-more : {ws : List ℕ} (a b c : ℕ → ℕ → Bool) → ws ≡ gained rows a → ((v w : ℕ) → w < max_nodes → (a v w || b v w) ≡ c v w) → gained ws b ≡ gained rows c
  unfolding gained
  gained-more {ws} a b c e h =
      ap (words_of (has_more ws b)) (length-gained rows a e)
      ∙ words_of_ext (has_more ws b) (has_more rows c) (length rows) (λ x l.
      ap (λ (t : Bool). t || b (x / max_nodes) (x % max_nodes)) (has-gained rows a e x l) ∙ assoc (has rows x) (a (x / max_nodes) (x % max_nodes)) (b (x / max_nodes) (x % max_nodes)) ∙ ap (λ (t : Bool). has rows x || t) (h (x / max_nodes) (x % max_nodes) (omega arith)))
    where
      assoc : (a b c : Bool) → ((a || b) || c) ≡ (a || (b || c))
      assoc true b c = refl
      assoc false b c = refl

  -- between nodes alone: still nothing past them
  pub gained-within : (n : ℕ) {ws : List ℕ} (more : ℕ → ℕ → Bool) → Within n rows → ((v w : ℕ) → w < max_nodes → more v w ≡ true → (v < n) × (w < n)) → ws ≡ gained rows more → Within n ws
  unfolding gained rows_of
  gained-within n {ws} more within nodes e = within-rows n (λ v w. leads rows v w || more v w) (length rows) (e ∙ words_of_ext (has_more rows more) (in_rows n (λ v w. leads rows v w || more v w)) (length rows) (λ x l.
      ap (λ (y : ℕ). has rows y || more (x / max_nodes) (x % max_nodes)) (sym (place x)) ∙ known x (leads rows (x / max_nodes) (x % max_nodes) || more (x / max_nodes) (x % max_nodes)) refl))
    where
      test : (v w : ℕ) → (v < n) × (w < n) → (ltb v n && ltb w n) ≡ true
      test v w l = and_both (ltb v n) (ltb w n) (lt-ltb v n l.0) (lt-ltb w n l.1)

      known : (x : ℕ) (b : Bool) → (leads rows (x / max_nodes) (x % max_nodes) || more (x / max_nodes) (x % max_nodes)) ≡ b → b ≡ ((ltb (x / max_nodes) n && ltb (x % max_nodes) n) && b)
      known x true q = sym (ap (λ (t : Bool). t && true) (test (x / max_nodes) (x % max_nodes) (⊎_elim
          (λ f. rows-node n (leads rows) (length rows) within x (ap (has rows) (sym (place x)) ∙ f))
          (λ f. nodes (x / max_nodes) (x % max_nodes) (omega arith) f)
          (or_cases (leads rows (x / max_nodes) (x % max_nodes)) (more (x / max_nodes) (x % max_nodes)) q))))
      known x false q = sym (and-false (ltb (x / max_nodes) n && ltb (x % max_nodes) n))

-- ---- a row takes in sixteen words: those before word i
abbrev pub taken_to : List ℕ → ℕ → List ℕ → ℕ → ℕ → Bool
taken_to rows v from i x = has rows x || ((eqb (x / max_nodes) v && ltb (x / 64 % 16) i) && has from (x % max_nodes))

module _ (rows : List ℕ) (v : ℕ) (from : List ℕ) where
  pub taken_none : Small rows → rows ≡ words_of (taken_to rows v from 0) (length rows)
  taken_none small = same-words rows (λ x. (eqb (x / max_nodes) v && ltb (x / 64 % 16) 0) && has from (x % max_nodes)) small (λ x. ap (λ (b : Bool). (eqb (x / max_nodes) v && b) && has from (x % max_nodes)) (le-ltb (x / 64 % 16) 0 (omega arith)) ∙ ap (λ (b : Bool). b && has from (x % max_nodes)) (and-false (eqb (x / max_nodes) v)))

  pub taken_more : {ws : List ℕ} (i : ℕ) → i < 16 → get_or from i 0 < 2 ^ 64 → ws ≡ words_of (taken_to rows v from i) (length rows) → set ws (16 * v + i) (bit_or (get_or ws (16 * v + i) 0) (get_or from i 0)) ≡ words_of (taken_to rows v from (i + 1)) (length rows)
  unfolding has
  taken_more {ws} i l small e = set_words_lem (taken_to rows v from i) (taken_to rows v from (i + 1)) (length rows) (16 * v + i) (bit_or (get_or ws (16 * v + i) 0) (get_or from i 0)) e
      (or_lt 64 (get_or ws (16 * v + i) 0) (get_or from i 0) (small_of (taken_to rows v from i) (length rows) e (16 * v + i)) small)
      here (λ x lx ne. ap (λ (b : Bool). has rows x || (b && has from (x % max_nodes))) (other x ne (eqb (x / max_nodes) v) refl))
    where
      old : (x : ℕ) → x / 64 ≡ 16 * v + i → taken_to rows v from i x ≡ has rows x
      old x q = ap (λ (b : Bool). has rows x || ((eqb (x / max_nodes) v && b) && has from (x % max_nodes))) (le-ltb (x / 64 % 16) i (omega arith)) ∙ ap (λ (b : Bool). has rows x || (b && has from (x % max_nodes))) (and-false (eqb (x / max_nodes) v)) ∙ or-false (has rows x)

      new : (x : ℕ) → x / 64 ≡ 16 * v + i → taken_to rows v from (i + 1) x ≡ (has rows x || has from (x % max_nodes))
      new x q = ap (λ (b : Bool). has rows x || (b && has from (x % max_nodes))) (and_both (eqb (x / max_nodes) v) (ltb (x / 64 % 16) (i + 1)) (eq-eqb (x / max_nodes) v (omega arith)) (lt-ltb (x / 64 % 16) (i + 1) (omega arith)))

      word : (x : ℕ) → x / 64 ≡ 16 * v + i → has from (x % max_nodes) ≡ bit (get_or from i 0) (x % 64)
      word x q = ap (has from) (let z : x % max_nodes ≡ i * 64 + x % 64 = omega arith in z) ∙ has-at from i (x % 64) (omega arith)

      here : (x : ℕ) → x < 64 * length rows → x / 64 ≡ 16 * v + i → bit (bit_or (get_or ws (16 * v + i) 0) (get_or from i 0)) (x % 64) ≡ taken_to rows v from (i + 1) x
      here x lx q =
          bit-bit_or (get_or ws (16 * v + i) 0) (get_or from i 0) (x % 64)
          ∙ ap₂ (λ (a b : Bool). a || b) (ap (λ (j : ℕ). bit (get_or ws j 0) (x % 64)) (sym q) ∙ has_of (taken_to rows v from i) (length rows) e x lx ∙ old x q) (sym (word x q))
          ∙ sym (new x q)

      other : (x : ℕ) → (x / 64 ≡ 16 * v + i → ⊥) → (b : Bool) → eqb (x / max_nodes) v ≡ b → (b && ltb (x / 64 % 16) i) ≡ (b && ltb (x / 64 % 16) (i + 1))
      other x ne false q = refl
      other x ne true q =
          let r : x / max_nodes ≡ v = eqb-true (x / max_nodes) v q in
          same_test (ltb (x / 64 % 16) i) (ltb (x / 64 % 16) (i + 1))
          (λ h. let a : x / 64 % 16 < i = ltb-true (x / 64 % 16) i h in lt-ltb (x / 64 % 16) (i + 1) (omega arith))
          (λ h. let a : x / 64 % 16 < i + 1 = ltb-true (x / 64 % 16) (i + 1) h in lt-ltb (x / 64 % 16) i (omega arith))

  pub taken-all : {ws : List ℕ} (i : ℕ) → i ≡ 16 → ws ≡ words_of (taken_to rows v from i) (length rows) → ws ≡ taken rows v from
  unfolding taken
  taken-all i q e = e ∙ words_of_ext (taken_to rows v from i) (λ x. has rows x || (eqb (x / max_nodes) v && has from (x % max_nodes))) (length rows) (λ x lx. ap (λ (b : Bool). has rows x || (b && has from (x % max_nodes))) (ap (λ (b : Bool). eqb (x / max_nodes) v && b) (lt-ltb (x / 64 % 16) i (omega arith)) ∙ and-true (eqb (x / max_nodes) v)))

  -- what a row takes in is a gain
  pub taken-gained : taken rows v from ≡ gained rows (λ u w. eqb u v && has from w)
  unfolding taken gained
  taken-gained = refl

  pub given_yes : {flag : Bool} → flag ≡ true → taken rows v from ≡ gained rows (given_if v flag from)
  given_yes {flag} h = taken-gained ∙ gained_ext rows (λ u w. eqb u v && has from w) (given_if v flag from) (λ u w l. ap (λ (b : Bool). b && has from w) (sym (ap (λ (b : Bool). eqb u v && b) h ∙ and-true (eqb u v))))

  pub given_not : {flag : Bool} → flag ≡ false → Small rows → rows ≡ gained rows (given_if v flag from)
  given_not {flag} h small = gained-none rows small (given_if v flag from) (λ u w l. ap (λ (b : Bool). b && has from w) (ap (λ (b : Bool). eqb u v && b) h ∙ and-false (eqb u v)))

-- ---- each row from a on and below i that has k has taken in row k
pub or_false_left : (a b : Bool) → (a || b) ≡ false → a ≡ false
or_false_left true b e = e
or_false_left false b e = refl

pub or_false_right : (a b : Bool) → (a || b) ≡ false → b ≡ false
or_false_right true b e = absurd (mathlib.Core.Bool.true≢false e)
or_false_right false b e = e

module _ (rows : List ℕ) (k a : ℕ) where
  pub node-none : Small rows → rows ≡ gained rows (by_node (leads rows) k a a)
  node-none small = gained-none rows small (by_node (leads rows) k a a) (λ v w l. ap (λ (b : Bool). (b && leads rows v k) && leads rows k w) (outside v (leb a v) refl))
    where
      outside : (v : ℕ) (b : Bool) → leb a v ≡ b → (b && ltb v a) ≡ false
      outside v true e = le-ltb v a (leb-true a v e)
      outside v false e = refl

  pub node-more : {ws from : List ℕ} (i : ℕ) {flag : Bool} → k < max_nodes → a ≤ i → 16 * i + 16 ≤ length rows → from ≡ words_of (leads rows k) 16 → ws ≡ gained rows (by_node (leads rows) k a i) → flag ≡ leads ws i k → gained ws (given_if i flag from) ≡ gained rows (by_node (leads rows) k a (i + 1))
  node-more {ws} {from} i {flag} lk ai room copied e asked = gained-more rows (by_node (leads rows) k a i) (given_if i flag from) (by_node (leads rows) k a (i + 1)) e
      (λ u w l. ap (λ (b : Bool). by_node (leads rows) k a i u w || ((eqb u i && flag) && b)) (has_of (leads rows k) 16 copied w (omega arith)) ∙ at u w (eqb u i) refl)
    where
      -- row i is as it was
      before : flag ≡ leads rows i k
      before = asked ∙ leads-gained rows (by_node (leads rows) k a i) e i k lk room ∙ ap (λ (b : Bool). leads rows i k || (((leb a i && b) && leads rows i k) && leads rows k k)) (le-ltb i i (omega arith)) ∙ ap (λ (b : Bool). leads rows i k || ((b && leads rows i k) && leads rows k k)) (and-false (leb a i)) ∙ or-false (leads rows i k)

      at : (u w : ℕ) (b : Bool) → eqb u i ≡ b → ((((leb a u && ltb u i) && leads rows u k) && leads rows k w) || ((b && flag) && leads rows k w)) ≡ (((leb a u && ltb u (i + 1)) && leads rows u k) && leads rows k w)
      at u w true q =
          let h : u ≡ i = eqb-true u i q in
          ap (λ (b : Bool). (((leb a u && b) && leads rows u k) && leads rows k w) || (flag && leads rows k w)) (le-ltb u i (omega arith))
          ∙ ap (λ (b : Bool). ((b && leads rows u k) && leads rows k w) || (flag && leads rows k w)) (and-false (leb a u))
          ∙ ap (λ (b : Bool). b && leads rows k w) (before ∙ ap (λ (x : ℕ). leads rows x k) (sym h))
          ∙ sym (ap (λ (b : Bool). (b && leads rows u k) && leads rows k w) (and_both (leb a u) (ltb u (i + 1)) (le-leb a u (omega arith)) (lt-ltb u (i + 1) (omega arith))))
      at u w false q = or-false (((leb a u && ltb u i) && leads rows u k) && leads rows k w) ∙ ap (λ (b : Bool). ((leb a u && b) && leads rows u k) && leads rows k w) (sym (ltb-more u i ∙ ap (λ (b : Bool). ltb u i || b) q ∙ or-false (ltb u i)))

-- ---- the rows of the nodes that lead anywhere
pub busy_more : (rows : List ℕ) (a v x y : ℕ) → Busy a v x rows → (bit y (v % 64) ≡ false → (w : ℕ) → w < max_nodes → leads rows v w ≡ false) → Busy a (v + 1) (bit_or x y) rows
busy_more rows a v x y old new u w au uv none lw = go (eqb u v) refl
  where
    both : (bit x (u % 64) || bit y (u % 64)) ≡ false
    both = sym (bit-bit_or x y (u % 64)) ∙ none

    go : (b : Bool) → eqb u v ≡ b → leads rows u w ≡ false
    go true h = let q : u ≡ v = eqb-true u v h in ap (λ (z : ℕ). leads rows z w) q ∙ new (ap (λ (z : ℕ). bit y (z % 64)) (sym q) ∙ or_false_right (bit x (u % 64)) (bit y (u % 64)) both) w lw
    go false h = let ne : u ≡ v → ⊥ = eqb-false u v h in old u w au (omega arith) (or_false_left (bit x (u % 64)) (bit y (u % 64)) both) lw

-- ---- what the nodes of block j lead to together that x names
-- the nodes that x names and that are left no longer have joined
abbrev pub joined : List ℕ → ℕ → ℕ → ℕ → ℕ → Bool
joined from j x left w = some (λ d. (bit x d && not (bit left d)) && leads from (64 * j + d) w) 64

module _ (from : List ℕ) (j x : ℕ) where
  pub joined_none : replicate 16 0 ≡ words_of (joined from j x x) 16
  joined_none = zeros 16 ∙ words_of_ext (λ m. false) (joined from j x x) 16 (λ w l. sym (some_ext (λ d. (bit x d && not (bit x d)) && leads from (64 * j + d) w) (λ d. false) 64 (λ d ld. ap (λ (b : Bool). b && leads from (64 * j + d) w) (never (bit x d))) ∙ some-none 64))
    where
      never : (b : Bool) → (b && not b) ≡ false
      never true = refl
      never false = refl

  pub joined_more : {words : List ℕ} (left left' d m : ℕ) → d < 64 → bit left d ≡ true → bit x d ≡ true → ((y : ℕ) → bit left' y ≡ (bit left y && not (eqb y d))) → m ≡ length from - 16 * (64 * j + d) → words ≡ words_of (joined from j x left) 16 → taken words 0 (take m (drop (16 * (64 * j + d)) from)) ≡ words_of (joined from j x left') 16
  unfolding taken
  joined_more {words} left left' d m ld h named fewer lent e =
      ap (words_of (λ y. has words y || (eqb (y / max_nodes) 0 && has (take m (drop (16 * (64 * j + d)) from)) (y % max_nodes)))) (length_of (joined from j x left) 16 e)
      ∙ words_of_ext (λ y. has words y || (eqb (y / max_nodes) 0 && has (take m (drop (16 * (64 * j + d)) from)) (y % max_nodes))) (joined from j x left') 16 (λ y l.
      ap₂ (λ (a b : Bool). a || b) (has_of (joined from j x left) 16 e y l) (ap₂ (λ (a : Bool) (b : ℕ). a && has (take m (drop (16 * (64 * j + d)) from)) b) (eq-eqb (y / max_nodes) 0 (omega arith)) (let z : y % max_nodes ≡ y = omega arith in z) ∙ lent_row from (64 * j + d) m lent y) ∙ sum y)
    where
      sum : (w : ℕ) → (joined from j x left w || leads from (64 * j + d) w) ≡ joined from j x left' w
      sum w = same_test (joined from j x left w || leads from (64 * j + d) w) (joined from j x left' w)
          (λ f. ⊎_elim
          (λ g. let (y, ly, k) = some_witness (λ y. (bit x y && not (bit left y)) && leads from (64 * j + y) w) 64 g in some_at (λ y. (bit x y && not (bit left' y)) && leads from (64 * j + y) w) 64 y ly (and_both (bit x y && not (bit left' y)) (leads from (64 * j + y) w) (still y (bit left y) refl (and_left (bit x y && not (bit left y)) (leads from (64 * j + y) w) k)) (and_right (bit x y && not (bit left y)) (leads from (64 * j + y) w) k)))
          (λ g. some_at (λ y. (bit x y && not (bit left' y)) && leads from (64 * j + y) w) 64 d ld (and_both (bit x d && not (bit left' d)) (leads from (64 * j + d) w) (and_both (bit x d) (not (bit left' d)) named (ap not (fewer d ∙ ap (λ (b : Bool). bit left d && not b) (eq-eqb d d refl) ∙ and-false (bit left d)))) g))
          (or_cases (joined from j x left w) (leads from (64 * j + d) w) f))
          (λ f.
          let (y, ly, k) = some_witness (λ y. (bit x y && not (bit left' y)) && leads from (64 * j + y) w) 64 f in
          let g = and_left (bit x y && not (bit left' y)) (leads from (64 * j + y) w) k in
          let i = and_right (bit x y && not (bit left' y)) (leads from (64 * j + y) w) k in
          back y ly g i (eqb y d) refl)
        where
          still : (y : ℕ) (b : Bool) → bit left y ≡ b → (bit x y && not b) ≡ true → (bit x y && not (bit left' y)) ≡ true
          still y true q f = absurd (mathlib.Core.Bool.true≢false (sym (and_right (bit x y) false f)))
          still y false q f = and_both (bit x y) (not (bit left' y)) (and_left (bit x y) true f) (ap not (fewer y ∙ ap (λ (b : Bool). b && not (eqb y d)) q))

          back : (y : ℕ) → y < 64 → (bit x y && not (bit left' y)) ≡ true → leads from (64 * j + y) w ≡ true → (b : Bool) → eqb y d ≡ b → (joined from j x left w || leads from (64 * j + d) w) ≡ true
          back y ly f g true q = or_right (joined from j x left w) (leads from (64 * j + d) w) (ap (λ (z : ℕ). leads from (64 * j + z) w) (sym (eqb-true y d q)) ∙ g)
          back y ly f g false q = or_left (joined from j x left w) (leads from (64 * j + d) w) (some_at (λ y. (bit x y && not (bit left y)) && leads from (64 * j + y) w) 64 y ly (and_both (bit x y && not (bit left y)) (leads from (64 * j + y) w) (and_both (bit x y) (not (bit left y)) (and_left (bit x y) (not (bit left' y)) f) (sym (ap not (fewer y ∙ ap (λ (b : Bool). bit left y && not b) q ∙ and-true (bit left y))) ∙ and_right (bit x y) (not (bit left' y)) f)) g))

  pub joined_all : {words : List ℕ} (left : ℕ) → left ≡ 0 → words ≡ words_of (joined from j x left) 16 → words ≡ words_of (union_of from j x) 16
  unfolding union_of
  joined_all left z e = e ∙ words_of_ext (joined from j x left) (union_of from j x) 16 (λ w l. some_ext (λ d. (bit x d && not (bit left d)) && leads from (64 * j + d) w) (λ d. bit x d && leads from (64 * j + d) w) 64 (λ d ld. ap (λ (b : Bool). b && leads from (64 * j + d) w) (ap (λ (b : Bool). bit x d && not b) (ap (λ (y : ℕ). bit y d) z ∙ bit_zero d) ∙ and-true (bit x d))))

-- nothing is named
pub union-none : (from : List ℕ) (j w : ℕ) → union_of from j 0 w ≡ false
unfolding union_of
union-none from j w = some_ext (λ d. bit 0 d && leads from (64 * j + d) w) (λ d. false) 64 (λ d ld. ap (λ (b : Bool). b && leads from (64 * j + d) w) (bit_zero d)) ∙ some-none 64

pub union-start : (from : List ℕ) (j : ℕ) → replicate 16 0 ≡ words_of (union_of from j 0) 16
union-start from j = zeros 16 ∙ words_of_ext (λ m. false) (union_of from j 0) 16 (λ w l. sym (union-none from j w))

-- ---- the rows below v have gained by block j
module _ (into rows from : List ℕ) (j mask : ℕ) where
  pub word_none : Small into → into ≡ gained into (in_first 0 (by_word rows from j mask))
  word_none small = gained-none into small (in_first 0 (by_word rows from j mask)) (λ v w l. ap (λ (b : Bool). b && by_word rows from j mask v w) (le-ltb v 0 (omega arith)))

  pub word_more : {ws words : List ℕ} (v x : ℕ) {flag : Bool} → x ≡ bit_and (get_or rows (16 * v + j) 0) mask → flag ≡ ltb 0 x → words ≡ words_of (union_of from j x) 16 → ws ≡ gained into (in_first v (by_word rows from j mask)) → gained ws (given_if v flag words) ≡ gained into (in_first (v + 1) (by_word rows from j mask))
  word_more {ws} {words} v x {flag} ex asked sum e = gained-more into (in_first v (by_word rows from j mask)) (given_if v flag words) (in_first (v + 1) (by_word rows from j mask)) e (λ u w lw.
      ap (λ (b : Bool). (ltb u v && by_word rows from j mask u w) || b) (at u w lw (eqb u v) refl) ∙ or_join false (ltb u v) (eqb u v) (by_word rows from j mask u w) ∙ ap (λ (b : Bool). b && by_word rows from j mask u w) (sym (ltb-more u v)))
    where
      gets : (w : ℕ) → w < max_nodes → (b : Bool) → ltb 0 x ≡ b → (b && has words w) ≡ union_of from j x w
      gets w lw true q = has_of (union_of from j x) 16 sum w (omega arith)
      gets w lw false q = sym (ap (λ (y : ℕ). union_of from j y w) (let z : x ≤ 0 = ltb-false 0 x q in le-zero z) ∙ union-none from j w)

      at : (u w : ℕ) → w < max_nodes → (b : Bool) → eqb u v ≡ b → ((b && flag) && has words w) ≡ (b && by_word rows from j mask u w)
      at u w lw true q = ap (λ (b : Bool). b && has words w) asked ∙ gets w lw (ltb 0 x) refl ∙ ap (λ (y : ℕ). union_of from j y w) (ex ∙ ap (λ (i : ℕ). bit_and (get_or rows (16 * i + j) 0) mask) (sym (eqb-true u v q)))
      at u w lw false q = refl

-- ---- the blocks below a number of nodes
-- numbers that pass no test add nothing
some_skip : (p : ℕ → Bool) (a b : ℕ) → a ≤ b → ((i : ℕ) → a ≤ i → i < b → p i ≡ false) → some p a ≡ some p b
unfolding some
some_skip p a zero l h = ap (some p) (let z : a ≡ 0 = omega arith in z)
some_skip p a (suc b) l h = ⊎_elim (λ q. ap (some p) q) (λ k. some_skip p a b (le_of_suc-le-suc k) (λ i ai ib. h i ai (omega arith)) ∙ sym (ap (λ (t : Bool). t || some p b) (h b (le_of_suc-le-suc k) (le_refl (suc b))))) (eq-or-lt_of_le l)

some_add : (p : ℕ → Bool) (m n : ℕ) → some p (m + n) ≡ (some p m || some (λ i. p (m + i)) n)
unfolding some
some_add p m zero = ap (some p) (add-zero m) ∙ sym (or-false (some p m))
some_add p m (suc n) = ap (some p) (add-suc m n) ∙ ap (λ (b : Bool). p (m + n) || b) (some_add p m n) ∙ turn (p (m + n)) (some p m) (some (λ i. p (m + i)) n)
  where
    turn : (a b c : Bool) → (a || (b || c)) ≡ (b || (a || c))
    turn true true c = refl
    turn true false c = refl
    turn false b c = refl

module _ (into rows from : List ℕ) (n : ℕ) where
  -- by the nodes below i, of n
  abbrev pub through_to : ℕ → ℕ → ℕ → Bool
  through_to i v w = some (λ u. (leads rows v u && ltb u n) && leads from u w) i

  pub composed-none : Small into → into ≡ gained into (in_first n (through_to 0))
  unfolding some
  composed-none small = gained-none into small (in_first n (through_to 0)) (λ v w l. and-false (ltb v n))

  pub composed-more : {ws masks : List ℕ} (j : ℕ) → j < 16 → masks ≡ words_of (λ m. ltb m n) 16 → ws ≡ gained into (in_first n (through_to (64 * j))) → gained ws (in_first n (by_word rows from j (get_or masks j 0))) ≡ gained into (in_first n (through_to (64 * (j + 1))))
  unfolding union_of
  composed-more {ws} {masks} j lj whole e = gained-more into (in_first n (through_to (64 * j))) (in_first n (by_word rows from j (get_or masks j 0))) (in_first n (through_to (64 * (j + 1)))) e (λ v w l.
      out (ltb v n) (through_to (64 * j) v w) (by_word rows from j (get_or masks j 0) v w) ∙ ap (λ (b : Bool). ltb v n && b) (ap (λ (b : Bool). through_to (64 * j) v w || b) (some_ext (λ d. bit (bit_and (get_or rows (16 * v + j) 0) (get_or masks j 0)) d && leads from (64 * j + d) w) (λ d. (leads rows v (64 * j + d) && ltb (64 * j + d) n) && leads from (64 * j + d) w) 64 (λ d ld. ap (λ (b : Bool). b && leads from (64 * j + d) w) (digit v d ld)))
      ∙ sym (some_add (λ u. (leads rows v u && ltb u n) && leads from u w) (64 * j) 64) ∙ ap (λ (i : ℕ). through_to i v w) (let z : 64 * j + 64 ≡ 64 * (j + 1) = omega arith in z)))
    where
      out : (b x y : Bool) → ((b && x) || (b && y)) ≡ (b && (x || y))
      out true x y = refl
      out false x y = refl

      digit : (v d : ℕ) → d < 64 → bit (bit_and (get_or rows (16 * v + j) 0) (get_or masks j 0)) d ≡ (leads rows v (64 * j + d) && ltb (64 * j + d) n)
      digit v d ld =
          bit-bit_and (get_or rows (16 * v + j) 0) (get_or masks j 0) d
          ∙ ap₂ (λ (a b : Bool). a && b)
          (sym (ap (has rows) (let z : max_nodes * v + (64 * j + d) ≡ (16 * v + j) * 64 + d = omega arith in z) ∙ has-at rows (16 * v + j) d ld))
          (sym (has-at masks j d ld) ∙ has_of (λ m. ltb m n) 16 whole (j * 64 + d) (omega arith) ∙ ap (λ (m : ℕ). ltb m n) (let z : j * 64 + d ≡ 64 * j + d = omega arith in z))

  pub composed-all : {ws : List ℕ} (i : ℕ) → n ≤ i → ws ≡ gained into (in_first n (through_to i)) → ws ≡ composed into rows from n
  unfolding composed gained through
  composed-all i l e = e ∙ gained_ext into (in_first n (through_to i)) (in_first n (λ v w. through rows from n v w)) (λ v w lw. ap (λ (b : Bool). ltb v n && b) (
      sym (some_skip (λ u. (leads rows v u && ltb u n) && leads from u w) n i l (λ u nu ui. ap (λ (b : Bool). b && leads from u w) (ap (λ (b : Bool). leads rows v u && b) (le-ltb u n nu) ∙ and-false (leads rows v u))))
      ∙ some_ext (λ u. (leads rows v u && ltb u n) && leads from u w) (λ u. leads rows v u && leads from u w) n (λ u lu. ap (λ (b : Bool). b && leads from u w) (ap (λ (b : Bool). leads rows v u && b) (lt-ltb u n lu) ∙ and-true (leads rows v u)))))

-- a mask names nodes alone
pub mask_named : (n j : ℕ) {masks : List ℕ} (from : List ℕ) → j < 16 → masks ≡ words_of (λ m. ltb m n) 16 → 16 * n ≤ length from → Named j (get_or masks j 0) from
mask_named n j {masks} from lj whole room d ld h =
    let l : 64 * j + d < n = ltb-true (64 * j + d) n (ap (λ (m : ℕ). ltb m n) (let z : 64 * j + d ≡ j * 64 + d = omega arith in z) ∙ sym (has_of (λ m. ltb m n) 16 whole (j * 64 + d) (omega arith)) ∙ has-at masks j d ld ∙ h) in
    omega arith

-- and so does what is left of one
pub part-named : (j x mask : ℕ) (from : List ℕ) → Named j mask from → Named j (bit_and x mask) from
part-named j x mask from named d ld h = named d ld (and_right (bit x d) (bit mask d) (sym (bit-bit_and x mask d) ∙ h))
