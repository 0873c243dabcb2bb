-- A node that joins sets, the facts of a link one by one, and all of them: the relation that they make.
use Prim.Native.Nat.{ℕ, suc, ◌+◌, ◌*◌, ◌/◌, ◌%◌, ◌^◌, ◌-◌, ◌≤◌, ◌<◌}
use mathlib.Core.Bool.{Bool, true, false, cond, ◌&&◌, ◌||◌, or-false, and_comm}
use mathlib.Core.List.{List}
use mathlib.Core.Path.{◌≡◌, refl, sym, ap, ap₂, ◌∙◌, subst}
use native.Mathlib.Nat.{zero-add}
use native.Mathlib.Omega.{arith}
use lib.Dec.{eqb, ltb}
use lib.ListN.{length, get_or, take, drop, length-drop}
use lib.Seq.{take_all}
use borrow.Author.Tests.{eq-eqb, eqb-true, ltb-true, lt-ltb, le-ltb}
use Rattle.base.specs.Bounded.{some}
use Rattle.base.proofs.Bools.{and_left, and_right, and_both, same_test, eqb_comm}
use Rattle.base.proofs.Bounded.{every-at}
use Rattle.nodeset.specs.Words.{has, with}
use Rattle.nodeset.proofs.Sets.{words_of_ext, same-words, with-words, small_of, ltb-more}
use Rattle.closure.specs.Rows.{taken}
use Rattle.closure.proofs.Rows.{lent_row}
use Rattle.chains.specs.Chains.{last_with}
use Rattle.chains.proofs.Chains.{some-last, walk_begins}
use Rattle.model.specs.Limits.{max_links, max_nodes}
use Rattle.model.specs.declared.NodeNo.{NodeNo}
use Rattle.paths.specs.Facts.{FactsOk, edge, edges}
use Rattle.paths.specs.Images.{start_of, set_words, Room, with_images, joined_sets}
use Rattle.paths.specs.declared.Sets.{Sets}
use Rattle.paths.specs.declared.Sets.TheVariants.{Rows, Own}
use Rattle.paths.proofs.Images.{images_ext, images_none, images_or, images_pair}

-- ---- far joins the sets that near is in

-- rows have room for n nodes
pub row_room : (n : ℕ) (from into : List ℕ) {sets : Sets} → sets ≡ Rows → Room sets n from into → (16 * n ≤ length from) × (16 * n ≤ length into)
row_room n from into q h = subst (λ (x : Sets). Room x n from into) q h

module _ (near far : ℕ) (from into : List ℕ) where
  -- one set: where near is in it
  one : (x : ℕ) (b : Bool) → has from near ≡ b → (has from (near * 1 + x % 1) && eqb far (x / 1)) ≡ (b && eqb x far)
  one x b e =
      let p : near * 1 + x % 1 ≡ near = omega arith in
      let q : x / 1 ≡ x = omega arith in
      ap₂ (λ (a c : Bool). a && c) (ap (has from) p ∙ e) (ap (eqb far) q ∙ eqb_comm far x)

  pub join_in : has from near ≡ true → with into far ≡ joined_sets 1 near far (has from) into
  unfolding joined_sets
  join_in e = with-words into far (λ x. has from (near * 1 + x % 1) && eqb far (x / 1)) (λ x. one x true e)

  pub join_out : ((i : ℕ) → get_or into i 0 < 2 ^ 64) → has from near ≡ false → into ≡ joined_sets 1 near far (has from) into
  unfolding joined_sets
  join_out small e = same-words into (λ x. has from (near * 1 + x % 1) && eqb far (x / 1)) small (λ x. one x false e)

  -- rows: the row of near, as it is lent, is or-ed into that of far
  pub join-row : (m : ℕ) → m ≡ length from - 16 * near → taken into far (take m (drop (16 * near) from)) ≡ joined_sets max_nodes near far (has from) into
  unfolding taken joined_sets
  join-row m q = words_of_ext (λ x. has into x || (eqb (x / max_nodes) far && has (take m (drop (16 * near) from)) (x % max_nodes))) (λ x. has into x || (has from (near * max_nodes + x % max_nodes) && eqb far (x / max_nodes))) (length into) λ x l.
      ap (λ (b : Bool). has into x || b) (and_comm (eqb (x / max_nodes) far) (has (take m (drop (16 * near) from)) (x % max_nodes)) ∙ ap₂ (λ (a b : Bool). a && b) (lent x) (eqb_comm (x / max_nodes) far))
    where
      lent : (x : ℕ) → has (take m (drop (16 * near) from)) (x % max_nodes) ≡ has from (near * max_nodes + x % max_nodes)
      lent x = lent_row from near m q (x % max_nodes) ∙ ap (has from) (let z : max_nodes * near + x % max_nodes ≡ near * max_nodes + x % max_nodes = omega arith in z)

  -- rows that start from each node alone: near joins the row of far
  pub join_own : near < max_nodes → with into (max_nodes * far + near) ≡ joined_sets max_nodes near far (start_of Own from) into
  unfolding joined_sets
  join_own l = with-words into (max_nodes * far + near) (λ x. start_of Own from (near * max_nodes + x % max_nodes) && eqb far (x / max_nodes)) λ x.
      ap (λ (b : Bool). b && eqb far (x / max_nodes)) (ap₂ eqb (let z : (near * max_nodes + x % max_nodes) / max_nodes ≡ near = omega arith in z) (let z : (near * max_nodes + x % max_nodes) % max_nodes ≡ x % max_nodes = omega arith in z))
      ∙ same_test (eqb near (x % max_nodes) && eqb far (x / max_nodes)) (eqb x (max_nodes * far + near))
      (λ h.
      let a : near ≡ x % max_nodes = eqb-true near (x % max_nodes) (and_left (eqb near (x % max_nodes)) (eqb far (x / max_nodes)) h) in
      let b : far ≡ x / max_nodes = eqb-true far (x / max_nodes) (and_right (eqb near (x % max_nodes)) (eqb far (x / max_nodes)) h) in
      eq-eqb x (max_nodes * far + near) (omega arith))
      (λ h.
      let a : x ≡ max_nodes * far + near = eqb-true x (max_nodes * far + near) h in
      and_both (eqb near (x % max_nodes)) (eqb far (x / max_nodes)) (eq-eqb near (x % max_nodes) (omega arith)) (eq-eqb far (x / max_nodes) (omega arith)))

-- what keeps its length keeps its room
pub room-kept : (sets : Sets) (n : ℕ) (from into now : List ℕ) → length now ≡ length into → Room sets n from into → Room sets n from now
room-kept sets n from into now q h = (h.0, subst (λ (k : ℕ). set_words sets n ≤ k) (sym q) h.1)

-- the row of near, as it is lent
pub row-lent : (from : List ℕ) (near n m : ℕ) → near < n → 16 * n ≤ length from → m ≡ length from - 16 * near → 16 ≤ length (take m (drop (16 * near) from))
row-lent from near n m l h q = omega (arith, length-drop (16 * near) from, ap length (take_all m (drop (16 * near) from) (omega (arith, length-drop (16 * near) from))))

-- ---- each node below v joins the sets that it is in

abbrev pub itself : ℕ → ℕ → ℕ → Bool
itself v u w = ltb u v && eqb u w

module _ (width n : ℕ) (from : ℕ → Bool) (into : List ℕ) where
  pub itself_none : ((i : ℕ) → get_or into i 0 < 2 ^ 64) → into ≡ with_images width n (itself 0) from into
  itself_none small = images_none width n from into small ∙ images_ext width n (λ u w. false) (itself 0) from into (λ u w _. ap (λ (b : Bool). b && eqb u w) (sym (le-ltb u 0 (omega arith))))

  pub itself_more : {ws : List ℕ} (v : ℕ) → v < n → ws ≡ with_images width n (itself v) from into → joined_sets width v v from ws ≡ with_images width n (itself (v + 1)) from into
  itself_more v l e =
      ap (joined_sets width v v from) e ∙ images_pair width n v v from (with_images width n (itself v) from into) l ∙ images_or width n (itself v) (λ u w. eqb v u && eqb v w) from into
      ∙ images_ext width n (λ u w. itself v u w || (eqb v u && eqb v w)) (itself (v + 1)) from into (λ u w _. turn u w (eqb u v) refl ∙ ap (λ (b : Bool). b && eqb u w) (sym (ltb-more u v)))
    where
      turn : (u w : ℕ) (b : Bool) → eqb u v ≡ b → ((ltb u v && eqb u w) || (eqb v u && eqb v w)) ≡ ((ltb u v || b) && eqb u w)
      turn u w true q =
          let f : v ≡ u = sym (eqb-true u v q) in
          ap₂ (λ (a b : Bool). (a && eqb u w) || b) (le-ltb u v (omega arith)) (ap₂ (λ (a b : Bool). a && b) (eq-eqb v u f) (ap (λ (x : ℕ). eqb x w) f)) ∙ ap (λ (b : Bool). (b || true) && eqb u w) (sym (le-ltb u v (omega arith)))
      turn u w false q = ap (λ (b : Bool). (ltb u v && eqb u w) || (b && eqb v w)) (eqb_comm v u ∙ q) ∙ or-false (ltb u v && eqb u w) ∙ ap (λ (b : Bool). b && eqb u w) (sym (or-false (ltb u v)))

  pub itself_all : {ws : List ℕ} (v : ℕ) → v ≡ n → ws ≡ with_images width n (itself v) from into → ws ≡ with_images width n eqb from into
  itself_all v q e = e ∙ images_ext width n (itself v) eqb from into (λ u w l. ap (λ (b : Bool). b && eqb u w) (lt-ltb u v (omega arith)))

-- ---- facts

-- the number of the first of two nodes, or of the second
pub picked-number : (b : Bool) (v w : NodeNo) {x : NodeNo} → x ≡ cond b v w → x.0 ≡ cond b v.0 w.0
picked-number true v w e = ap (λ (x : NodeNo). x.0) e
picked-number false v w e = ap (λ (x : NodeNo). x.0) e

pub cond_lt : (b : Bool) (x y n : ℕ) → x < n → y < n → cond b x y < n
cond_lt true x y n l r = l
cond_lt false x y n l r = r

module _ (ss ps os index : List ℕ) (count n : ℕ) (ok : FactsOk ss ps os index count n) where
  -- both ends of a fact are nodes
  pub fact_between : (i : ℕ) → i < count → (get_or ss i 0 < n) × (get_or os i 0 < n)
  fact_between i l =
      let e : (ltb (get_or ss i 0) n && ltb (get_or os i 0) n) ≡ true = every-at (λ i. ltb (get_or ss i 0) n && ltb (get_or os i 0) n) count ok.between i l in
      (ltb-true (get_or ss i 0) n (and_left (ltb (get_or ss i 0) n) (ltb (get_or os i 0) n) e), ltb-true (get_or os i 0) n (and_right (ltb (get_or ss i 0) n) (ltb (get_or os i 0) n) e))

  -- the chain of link p begins with the last fact that has it
  pub chain-begins : (p : ℕ) {r : ℕ} → r ≡ cond (ltb p max_links) (get_or index p 0) 0 → r ≡ last_with (λ i. get_or ps i 0) p count
  chain-begins p e = walk_begins (λ i. get_or ps i 0) count max_links 0 max_links ok.indexed (λ i l. ltb-true (get_or ps i 0) max_links (every-at (λ i. ltb (get_or ps i 0) max_links) count ok.links i l)) p (sym (zero-add p)) e

  module _ (width p : ℕ) (back : Bool) (from : ℕ → Bool) where
    -- fact i, which has link p
    fact_joins : (into : List ℕ) (i : ℕ) → i < count → get_or ps i 0 ≡ p
        → joined_sets width (cond back (get_or os i 0) (get_or ss i 0)) (cond back (get_or ss i 0) (get_or os i 0)) from into ≡ with_images width n (edge ss ps os p back i) from into
    unfolding edge
    fact_joins into i l e =
        let b = fact_between i l in
        images_pair width n (cond back (get_or os i 0) (get_or ss i 0)) (cond back (get_or ss i 0) (get_or os i 0)) from into (cond_lt back (get_or os i 0) (get_or ss i 0) n b.1 b.0)
        ∙ images_ext width n (λ v w. eqb (cond back (get_or os i 0) (get_or ss i 0)) v && eqb (cond back (get_or ss i 0) (get_or os i 0)) w) (edge ss ps os p back i) from into
        (λ v w lv. ap (λ (b : Bool). b && (eqb (cond back (get_or os i 0) (get_or ss i 0)) v && eqb (cond back (get_or ss i 0) (get_or os i 0)) w)) (sym (eq-eqb (get_or ps i 0) p e)))

    -- of the first i facts only those up to the last with link p add something
    pub chain-rest : (into : List ℕ) {next : ℕ} (i : ℕ) → next ≡ last_with (λ i. get_or ps i 0) p i → with_images width n (edges ss ps os p back next) from into ≡ with_images width n (edges ss ps os p back i) from into
    unfolding edges edge
    chain-rest into i e =
        ap (λ (k : ℕ). with_images width n (edges ss ps os p back k) from into) e
        ∙ images_ext width n (edges ss ps os p back (last_with (λ i. get_or ps i 0) p i)) (edges ss ps os p back i) from into (λ v w lv. sym (some-last (λ i. get_or ps i 0) p (λ k. edge ss ps os p back k v w) i
        (λ k l h. eqb-true (get_or ps k 0) p (and_left (eqb (get_or ps k 0) p) (eqb (cond back (get_or os k 0) (get_or ss k 0)) v && eqb (cond back (get_or ss k 0) (get_or os k 0)) w) h))))

    -- fact i joined_sets, and then what its chain goes on with
    pub chain_more : (into : List ℕ) {ws : List ℕ} {next : ℕ} (i : ℕ) → i < count → get_or ps i 0 ≡ p → ws ≡ joined_sets width (cond back (get_or os i 0) (get_or ss i 0)) (cond back (get_or ss i 0) (get_or os i 0)) from into → next ≡ last_with (λ i. get_or ps i 0) p i
        → with_images width n (edges ss ps os p back next) from ws ≡ with_images width n (edges ss ps os p back (suc i)) from into
    unfolding edges some
    chain_more into {ws} i l e q f =
        chain-rest ws i f ∙ ap (with_images width n (edges ss ps os p back i) from) (q ∙ fact_joins into i l e)
        ∙ images_or width n (edge ss ps os p back i) (edges ss ps os p back i) from into
        ∙ images_ext width n (λ v w. edge ss ps os p back i v w || edges ss ps os p back i v w) (edges ss ps os p back (suc i)) from into (λ v w lv. refl)

    -- the end of the chain
    pub chain-ends : (into : List ℕ) → ((i : ℕ) → get_or into i 0 < 2 ^ 64) → into ≡ with_images width n (edges ss ps os p back 0) from into
    unfolding edges some
    chain-ends into small = images_none width n from into small ∙ images_ext width n (λ v w. false) (edges ss ps os p back 0) from into (λ v w lv. refl)

-- what a node's joining leaves is words
pub joined_small : (width near far : ℕ) (from : ℕ → Bool) (into : List ℕ) {ws : List ℕ} → ws ≡ joined_sets width near far from into → (i : ℕ) → get_or ws i 0 < 2 ^ 64
unfolding joined_sets
joined_small width near far from into e = small_of (λ x. has into x || (from (near * width + x % width) && eqb far (x / width))) (length into) e
