-- Rows that a path's pairs are closed in: what sets side by side gain by them, and that this is what the repeated path leads to.
use Prim.Native.Nat.{ℕ, ◌+◌, ◌*◌, ◌/◌, ◌%◌, ◌^◌, ◌-◌, ◌≤◌, ◌<◌}
use mathlib.Core.Bool.{Bool, true, false, ◌&&◌, ◌||◌, and_comm, and-false}
use mathlib.Core.List.{List}
use mathlib.Core.Path.{◌≡◌, refl, sym, ap, ap₂, ◌∙◌, subst}
use native.Mathlib.Omega.{arith}
use lib.Dec.{eqb, ltb}
use lib.ListN.{length, get_or, take, drop, replicate, length-replicate}
use borrow.Author.Tests.{eqb-true, ne_eqb, lt-ltb, le-ltb, ltb-true, ltb-false}
use Rattle.base.specs.Bounded.{some}
use Rattle.base.proofs.Bools.{never_true, eqb_comm}
use Rattle.base.proofs.Bounded.{some_ext, some-none, some_eq}
use Rattle.base.specs.Least.{next_from}
use Rattle.base.proofs.Least.{found_some}
use Rattle.nodeset.specs.Words.{has, words_of, union, with}
use Rattle.nodeset.proofs.Sets.{has_of, has_zeros, length_of, words_of_ext, same-words, with-words, ltb-more}
use Rattle.model.specs.Graph.{Triple}
use Rattle.model.specs.Limits.{max_nodes}
use Rattle.model.specs.Paths.{Path, ends}
use Rattle.model.proofs.Repeats.{Nodes, converse, star_ext, plus_ext, star_converse, plus_converse, star-nodes, plus-nodes}
use Rattle.closure.specs.Rows.{in_rows, rows_of, leads, Within, through, composed}
use Rattle.closure.proofs.Rows.{or_join, lent_row, leads-nodes, leads-node, rows-node, length_of_rows, within-rows}
use Rattle.paths.specs.Images.{converse_if, image, set_count, set_words, start_of, Room, carried_on, MidOk, with_images, with_ends, backwards, meets_row, with_node, repeated}
use Rattle.paths.specs.declared.Sets.{Sets}
use Rattle.paths.specs.declared.Sets.TheVariants.{One, Rows, Own}
use Rattle.paths.proofs.Images.{images_ext}
use Rattle.paths.proofs.Entries.{repeated_path}
use Rattle.paths.proofs.Codes.{mid_room}

-- ---- a search for a shared member finds whether there is one
pub meets-found : (from rows : List ℕ) (n w m : ℕ) → m ≡ length rows - 16 * w → {r : ℕ} → r ≡ next_from (λ v. has from v && has (take m (drop (16 * w) rows)) v) 0 n → ltb r n ≡ meets_row from rows n w
unfolding meets_row
meets-found from rows n w m q e = found_some (λ v. has from v && has (take m (drop (16 * w) rows)) v) n e ∙ some_ext (λ v. has from v && has (take m (drop (16 * w) rows)) v) (λ v. has from v && leads rows w v) n (λ v _. ap (λ (b : Bool). has from v && b) (lent_row rows w m q v))

-- a node joins, or not
module _ (from rows into : List ℕ) (n w : ℕ) where
  pub node_in_lem : meets_row from rows n w ≡ true → with into w ≡ with_node from rows n w into
  unfolding with_node
  node_in_lem e = with-words into w (λ x. meets_row from rows n w && eqb x w) (λ x. ap (λ (b : Bool). b && eqb x w) e)

  pub node_out : ((i : ℕ) → get_or into i 0 < 2 ^ 64) → meets_row from rows n w ≡ false → into ≡ with_node from rows n w into
  unfolding with_node
  node_out small e = same-words into (λ x. meets_row from rows n w && eqb x w) small (λ x. ap (λ (b : Bool). b && eqb x w) e)

-- ---- the nodes below w have joined
abbrev pub gained_to : (into from rows : List ℕ) → ℕ → ℕ → ℕ → Bool
gained_to into from rows n w x = has into x || (ltb x w && meets_row from rows n x)

module _ (into from rows : List ℕ) (n : ℕ) where
  pub gained-none : ((i : ℕ) → get_or into i 0 < 2 ^ 64) → into ≡ words_of (gained_to into from rows n 0) (length into)
  gained-none small = same-words into (λ x. ltb x 0 && meets_row from rows n x) small (λ x. ap (λ (b : Bool). b && meets_row from rows n x) (le-ltb x 0 (omega arith)))

  pub gained-more : {ws : List ℕ} (w : ℕ) → ws ≡ words_of (gained_to into from rows n w) (length into) → with_node from rows n w ws ≡ words_of (gained_to into from rows n (w + 1)) (length into)
  unfolding with_node
  gained-more {ws} w e =
      ap (words_of (λ x. has ws x || (meets_row from rows n w && eqb x w))) (length_of (gained_to into from rows n w) (length into) e)
      ∙ words_of_ext (λ x. has ws x || (meets_row from rows n w && eqb x w)) (gained_to into from rows n (w + 1)) (length into) (λ x l.
      ap₂ (λ (a b : Bool). a || b) (has_of (gained_to into from rows n w) (length into) e x l) (same x (eqb x w) refl)
      ∙ or_join (has into x) (ltb x w) (eqb x w) (meets_row from rows n x)
      ∙ ap (λ (b : Bool). has into x || (b && meets_row from rows n x)) (sym (ltb-more x w)))
    where
      same : (x : ℕ) (b : Bool) → eqb x w ≡ b → (meets_row from rows n w && b) ≡ (b && meets_row from rows n x)
      same x true q = and_comm (meets_row from rows n w) true ∙ ap (meets_row from rows n) (sym (eqb-true x w q))
      same x false q = and-false (meets_row from rows n w)

-- ---- from each node alone
own_start : (n : ℕ) (q : ℕ → Bool) (from : List ℕ) (x : ℕ) → some (λ v. start_of Own from (v * max_nodes + x % max_nodes) && q v) n ≡ (ltb (x % max_nodes) n && q (x % max_nodes))
own_start n q from x =
    some_ext (λ v. start_of Own from (v * max_nodes + x % max_nodes) && q v) (λ v. eqb (x % max_nodes) v && q v) n (λ v _.
    ap (λ (b : Bool). b && q v) (ap₂ eqb (let z : (v * max_nodes + x % max_nodes) / max_nodes ≡ v = omega arith in z) (let z : (v * max_nodes + x % max_nodes) % max_nodes ≡ x % max_nodes = omega arith in z) ∙ eqb_comm v (x % max_nodes)))
    ∙ go (ltb (x % max_nodes) n) refl
  where
    go : (b : Bool) → ltb (x % max_nodes) n ≡ b → some (λ v. eqb (x % max_nodes) v && q v) n ≡ (b && q (x % max_nodes))
    go true h = some_eq q (x % max_nodes) n (ltb-true (x % max_nodes) n h)
    go false h = some_ext (λ v. eqb (x % max_nodes) v && q v) (λ v. false) n (λ v l. ap (λ (b : Bool). b && q v) (ne_eqb (x % max_nodes) v (λ f. let g : n ≤ x % max_nodes = ltb-false (x % max_nodes) n h in let z : ⊥ = omega arith in z))) ∙ some-none n

-- the rows become the pairs of a relation that leads from nodes to nodes, read backwards
pub own_rows : (n : ℕ) (r : ℕ → ℕ → Bool) (from : List ℕ) (k : ℕ) → Nodes n r → with_images max_nodes n r (start_of Own from) (replicate k 0) ≡ rows_of n (converse r) k
unfolding with_images image rows_of
own_rows n r from k nodes =
    ap (words_of (λ x. has (replicate k 0) x || some (λ v. start_of Own from (v * max_nodes + x % max_nodes) && r v (x / max_nodes)) n)) (length-replicate {A = ℕ} k 0)
    ∙ words_of_ext (λ x. has (replicate k 0) x || some (λ v. start_of Own from (v * max_nodes + x % max_nodes) && r v (x / max_nodes)) n) (in_rows n (converse r)) k λ x l.
    ap₂ (λ (a b : Bool). a || b) (has_zeros k x) (own_start n (λ v. r v (x / max_nodes)) from x) ∙ go (x % max_nodes) (x / max_nodes) (ltb (x % max_nodes) n) refl (r (x % max_nodes) (x / max_nodes)) refl
  where
    go : (v w : ℕ) (b : Bool) → ltb v n ≡ b → (c : Bool) → r v w ≡ c → (b && c) ≡ ((ltb w n && b) && c)
    go v w true h true q = sym (ap (λ (a : Bool). (a && true) && true) (lt-ltb w n ((nodes v w q).0 (ltb-true v n h))))
    go v w true h false q = sym (and-false (ltb w n && true))
    go v w false h c q = sym (ap (λ (a : Bool). a && c) (and-false (ltb w n)))

-- ---- what sets gain by rows
module _ (n : ℕ) (few : n ≤ max_nodes) (rows : List ℕ) (w : Within n rows) where
  -- nothing stands past the rows of n nodes, and in these past n nodes
  past_row : (u v : ℕ) → v < max_nodes → n ≤ u → leads rows u v ≡ false
  past_row u v l h = never_true (leads rows u v) (λ e. let z : u < n = (leads-node n w u v l e).0 in let f : ⊥ = omega arith in f)

  past-node : (x : ℕ) → n ≤ x % max_nodes → has rows x ≡ false
  past-node x h = never_true (has rows x) (λ e. let z : x % max_nodes < n = (rows-node n (leads rows) (length rows) w x e).1 in let f : ⊥ = omega arith in f)

  pub gain_one : (from into : List ℕ) {ws : List ℕ} (k : ℕ) → k ≡ n → ws ≡ words_of (gained_to into from rows n k) (length into) → ws ≡ with_images 1 n (backwards rows) (has from) into
  unfolding with_images image meets_row
  gain_one from into k q e =
      e ∙ words_of_ext (gained_to into from rows n k) (λ x. has into x || image n (backwards rows) (λ v. has from (v * 1 + x % 1)) (x / 1)) (length into) λ x l.
      ap (λ (b : Bool). has into x || b) (go x (ltb x k) refl ∙ sym (some_ext (λ v. has from (v * 1 + x % 1) && leads rows (x / 1) v) (λ v. has from v && leads rows x v) n (λ v _. ap₂ (λ (a b : ℕ). has from a && leads rows b v) (let z : v * 1 + x % 1 ≡ v = omega arith in z) (let z : x / 1 ≡ x = omega arith in z))))
    where
      go : (x : ℕ) (b : Bool) → ltb x k ≡ b → (b && some (λ v. has from v && leads rows x v) n) ≡ some (λ v. has from v && leads rows x v) n
      go x true h = refl
      go x false h = sym (some_ext (λ v. has from v && leads rows x v) (λ v. false) n (λ v l. ap (λ (b : Bool). has from v && b) (past_row x v (omega arith) (let z : k ≤ x = ltb-false x k h in omega arith)) ∙ and-false (has from v)) ∙ some-none n)

  pub gain_rows : (from into : List ℕ) → composed into rows from n ≡ with_images max_nodes n (backwards rows) (has from) into
  unfolding composed through with_images image
  gain_rows from into = words_of_ext (λ x. has into x || (ltb (x / max_nodes) n && through rows from n (x / max_nodes) (x % max_nodes))) (λ x. has into x || image n (backwards rows) (λ v. has from (v * max_nodes + x % max_nodes)) (x / max_nodes)) (length into) λ x l.
      ap (λ (b : Bool). has into x || b) (go (x / max_nodes) (x % max_nodes) (ltb (x / max_nodes) n) refl)
    where
      turn : (u w v : ℕ) → (leads rows u v && leads from v w) ≡ (has from (v * max_nodes + w) && leads rows u v)
      turn u w v = and_comm (leads rows u v) (leads from v w) ∙ ap (λ (k : ℕ). has from k && leads rows u v) (let z : max_nodes * v + w ≡ v * max_nodes + w = omega arith in z)

      go : (u w : ℕ) (b : Bool) → ltb u n ≡ b → (b && some (λ v. leads rows u v && leads from v w) n) ≡ some (λ v. has from (v * max_nodes + w) && leads rows u v) n
      go u w true h = some_ext (λ v. leads rows u v && leads from v w) (λ v. has from (v * max_nodes + w) && leads rows u v) n (λ v _. turn u w v)
      go u w false h = sym (some_ext (λ v. has from (v * max_nodes + w) && leads rows u v) (λ v. false) n (λ v l. ap (λ (b : Bool). has from (v * max_nodes + w) && b) (past_row u v (omega arith) (ltb-false u n h)) ∙ and-false (has from (v * max_nodes + w))) ∙ some-none n)

  pub gain_own : (from into : List ℕ) → union into rows ≡ with_images max_nodes n (backwards rows) (start_of Own from) into
  unfolding union with_images image
  gain_own from into = words_of_ext (λ x. has into x || has rows x) (λ x. has into x || image n (backwards rows) (λ v. start_of Own from (v * max_nodes + x % max_nodes)) (x / max_nodes)) (length into) λ x l.
      ap (λ (b : Bool). has into x || b) (sym (own_start n (λ v. leads rows (x / max_nodes) v) from x ∙ go x (ltb (x % max_nodes) n) refl))
    where
      go : (x : ℕ) (b : Bool) → ltb (x % max_nodes) n ≡ b → (b && leads rows (x / max_nodes) (x % max_nodes)) ≡ has rows x
      go x true h = ap (has rows) (let z : max_nodes * (x / max_nodes) + x % max_nodes ≡ x = omega arith in z)
      go x false h = sym (past-node x (ltb-false (x % max_nodes) n h))

-- ---- a relation repeated, either way
repeated_ext : (none : Bool) (r q : ℕ → ℕ → Bool) (n : ℕ) → ((v w : ℕ) → v < n → w < n → r v w ≡ q v w) → (v w : ℕ) → v < n → repeated none r n v w ≡ repeated none q n v w
repeated_ext true r q n same v w l = star_ext r q n same v w l
repeated_ext false r q n same v w l = plus_ext r q n same v w l

repeated_converse : (none : Bool) (r : ℕ → ℕ → Bool) (n v w : ℕ) → v < n → w < n → repeated none (converse r) n v w ≡ repeated none r n w v
repeated_converse true r n v w lv lw = star_converse n r v w lv lw
repeated_converse false r n v w lv lw = plus_converse n r v w lv lw

repeated-nodes : (none : Bool) (r : ℕ → ℕ → Bool) (n : ℕ) → Nodes n r → Nodes n (repeated none r n)
repeated-nodes true r n h v w e = star-nodes r n h v w e
repeated-nodes false r n h v w e = let b = plus-nodes r n h v w e in (λ _. b.1, λ _. b.0)

repeated-turned : (none back : Bool) (r : ℕ → ℕ → Bool) (n v w : ℕ) → v < n → w < n → repeated none (converse (converse_if back r)) n w v ≡ converse_if back (repeated none r n) v w
repeated-turned none true r n v w lv lw = refl
repeated-turned none false r n v w lv lw = repeated_converse none r n w v lw lv

pub either_nodes : (back : Bool) (r : ℕ → ℕ → Bool) (n : ℕ) → Nodes n r → Nodes n (converse_if back r)
either_nodes true r n h v w e = let b = h w v e in (b.1, b.0)
either_nodes false r n h v w e = h v w e

-- ---- star and plus: the rows of a path's pairs, closed, give the ends of the repeated path
repeated-ends : (n : ℕ) (ts : List Triple) (none : Bool) (p : Path) → ends n ts (repeated_path none p) ≡ repeated none (ends n ts p) n
unfolding ends
repeated-ends n ts true p = refl
repeated-ends n ts false p = refl

module _ (width n : ℕ) (few : n ≤ max_nodes) (none back : Bool) (from : ℕ → Bool) (into : List ℕ) (k : ℕ) (room : 16 * n ≤ k) (lent : List ℕ) {rows closed : List ℕ} where
  by_closed : (r : ℕ → ℕ → Bool) → Nodes n r → rows ≡ with_images max_nodes n (converse_if back r) (start_of Own lent) (replicate k 0) → closed ≡ rows_of n (repeated none (leads rows) n) (length rows)
      → with_images width n (backwards closed) from into ≡ with_images width n (converse_if back (repeated none r n)) from into
  by_closed r nodes er ec = images_ext width n (backwards closed) (converse_if back (repeated none r n)) from into (λ v w l. go v w l (ltb w n) refl)
    where
      pairs : rows ≡ rows_of n (converse (converse_if back r)) k
      pairs = er ∙ own_rows n (converse_if back r) lent k (either_nodes back r n nodes)

      is-closed : closed ≡ rows_of n (repeated none (leads rows) n) k
      is-closed = ec ∙ ap (rows_of n (repeated none (leads rows) n)) (length_of_rows n (converse (converse_if back r)) k pairs)

      out : (v w : ℕ) → v < n → n ≤ w → converse_if back (repeated none r n) v w ≡ false
      out v w l h = never_true (converse_if back (repeated none r n) v w) (λ q. let z : w < n = (either_nodes back (repeated none r n) n (repeated-nodes none r n nodes) v w q).0 l in let f : ⊥ = omega arith in f)

      go : (v w : ℕ) → v < n → (b : Bool) → ltb w n ≡ b → leads closed w v ≡ converse_if back (repeated none r n) v w
      go v w l true h =
          let lw = ltb-true w n h in
          leads-nodes n (repeated none (leads rows) n) k is-closed few room w v lw l
          ∙ repeated_ext none (leads rows) (converse (converse_if back r)) n (leads-nodes n (converse (converse_if back r)) k pairs few room) w v lw
          ∙ repeated-turned none back r n v w l lw
      go v w l false h = past_row n few closed (within-rows n (repeated none (leads rows) n) k is-closed) w v (omega arith) (ltb-false w n h) ∙ sym (out v w l (ltb-false w n h))

  pub ends-repeated : (ts : List Triple) (p : Path) → Nodes n (ends n ts p) → rows ≡ with_ends max_nodes n ts p back (start_of Own lent) (replicate k 0) → closed ≡ rows_of n (repeated none (leads rows) n) (length rows)
      → with_images width n (backwards closed) from into ≡ with_ends width n ts (repeated_path none p) back from into
  unfolding with_ends
  ends-repeated ts p nodes er ec = by_closed (ends n ts p) nodes er ec ∙ ap (λ (q : ℕ → ℕ → Bool). with_images width n (converse_if back q) from into) (sym (repeated-ends n ts none p))

-- ---- words for rows
-- rows with nothing in them, for what lies between two parts
pub mid_ok : (sets : Sets) (n k : ℕ) → n ≤ max_nodes → max_nodes ≤ k → set_words sets n ≤ k → MidOk sets n (replicate k 0)
mid_ok sets n k few l h =
    let e : length {A = ℕ} (replicate k 0) ≡ k = length-replicate k 0 in
    (ap (λ (m : ℕ). replicate {A = ℕ} m 0) (sym e), subst (λ (m : ℕ). set_words sets n ≤ m) (sym e) h, subst (λ (m : ℕ). n * set_count sets ≤ 64 * m) (sym e) (mid_room sets n k few l h))

-- words for all nodes are enough
pub all_words : (sets : Sets) (n : ℕ) → n ≤ max_nodes → set_words sets n ≤ 16 * max_nodes
all_words One n few = omega arith
all_words Rows n few = omega arith
all_words Own n few = omega arith

pub own_words : (n : ℕ) → n ≤ max_nodes → 16 * n ≤ length {A = ℕ} (replicate (16 * max_nodes) 0)
own_words n few = subst (λ (k : ℕ). 16 * n ≤ k) (sym (length-replicate {A = ℕ} (16 * max_nodes) 0)) (omega arith)

-- what a second part starts from has room where a first part's ends had
pub carried_room : (sets : Sets) (n : ℕ) (from mid now into : List ℕ) {next : Sets} → next ≡ carried_on sets → length now ≡ length mid → set_words sets n ≤ length mid → Room sets n from into → Room next n now into
carried_room sets n from mid now into q e h room = subst (λ (x : Sets). Room x n now into) (sym q) (go sets (subst (λ (k : ℕ). set_words sets n ≤ k) (sym e) h) room.1)
  where
    go : (s : Sets) → set_words s n ≤ length now → set_words s n ≤ length into → Room (carried_on s) n now into
    go One a b = (a, b)
    go Rows a b = (a, b)
    go Own a b = (a, b)

-- the rows of a path's pairs
module _ (n k : ℕ) where
  pub own_room : (ts : List Triple) (p : Path) (back : Bool) (lent : List ℕ) {rows : List ℕ} → Nodes n (ends n ts p) → rows ≡ with_ends max_nodes n ts p back (start_of Own lent) (replicate k 0) → (length rows ≡ k) × Within n rows
  unfolding with_ends
  own_room ts p back lent nodes e =
      let q = e ∙ own_rows n (converse_if back (ends n ts p)) lent k (either_nodes back (ends n ts p) n nodes) in
      (length_of_rows n (converse (converse_if back (ends n ts p))) k q, within-rows n (converse (converse_if back (ends n ts p))) k q)
