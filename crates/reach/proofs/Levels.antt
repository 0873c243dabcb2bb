-- A search round by round: the rows of a set's members together; one round after the other; and that the round before an empty frontier
-- is the last.
use Prim.Native.Nat.{ℕ, zero, suc, ◌+◌, ◌/◌, ◌%◌, ◌≤◌, ◌<◌, zero-le}
use mathlib.Core.Bool.{Bool, true, false, not, ◌&&◌, ◌||◌, or_comm}
use mathlib.Core.List.{List}
use mathlib.Core.Logic.{◌⊎◌, inl, inr, ⊎_elim}
use mathlib.Core.Path.{◌≡◌, refl, sym, ap, ap₂, ◌∙◌, subst}
use native.Mathlib.Numerals.{add-one}
use native.Mathlib.Omega.{arith}
use lib.Dec.{eqb, leb}
use lib.ListN.{length, replicate}
use borrow.Author.Tests.{eq-eqb, eqb-true, leb-true, leb-false}
use Rattle.base.specs.Bounded.{some, every}
use Rattle.base.specs.Least.{next_from}
use Rattle.base.proofs.Bools.{bool_cases, and_left, and_right, and_both, or_cases, or_left, or_right, same_test, never_both}
use Rattle.base.proofs.Bounded.{some_at, some_witness, every_ext}
use Rattle.base.proofs.Least.{Next, next-found}
use Rattle.nodeset.specs.Words.{has, words_of, union, difference}
use Rattle.nodeset.proofs.Sets.{zeros, words_of_ext, has_of, length_of, union_of_lem, difference_of}
use Rattle.closure.specs.Rows.{leads, taken, Within}
use Rattle.closure.proofs.Rows.{leads-node}
use Rattle.model.specs.Limits.{max_nodes}
use Rattle.model.specs.Repeats.{up_to, star}
use Rattle.model.specs.Rounds.{settled, rounds}
use Rattle.model.proofs.Repeats.{up_to_self, up_to-none, up_to_suc, up_to-star}
use Rattle.model.proofs.Rounds.{last-cases, last_step, settled-none, rounds_reach}
use Rattle.paths.specs.Images.{image}
use Rattle.paths.proofs.Images.{image_ext}
use Rattle.reach.specs.Levels.{image_words}

-- ---- the rows of a set's members, one after the other
module _ (rows : List ℕ) (n : ℕ) (from : List ℕ) where
  -- where the members below i lead
  abbrev image_to : ℕ → ℕ → Bool
  image_to i = image i (leads rows) (has from)

  -- the rows of all members before u have joined, and u is a member or n
  pub record Joined (ws : List ℕ) (u : ℕ) : Type 0 where
    pub within : u ≤ n
    pub hit : u < n → has from u ≡ true
    pub words : ws ≡ words_of (image_to u) 16

  -- up to the next member there is none
  image_gap : (i u w : ℕ) → i ≤ u → ((j : ℕ) → i ≤ j → j < u → has from j ≡ false) → image_to i w ≡ image_to u w
  unfolding image
  image_gap i u w l none = same_test (some (λ v. has from v && leads rows v w) i) (some (λ v. has from v && leads rows v w) u)
      (λ e. let (v, lv, h) = some_witness (λ v. has from v && leads rows v w) i e in some_at (λ v. has from v && leads rows v w) u v (omega arith) h)
      (λ e. let (v, lv, h) = some_witness (λ v. has from v && leads rows v w) u e in bool_cases (λ b. leb i v ≡ b → some (λ v. has from v && leads rows v w) i ≡ true) (leb i v)
      (λ _ q. absurd (never_both (and_left (has from v) (leads rows v w) h) (none v (leb-true i v q) lv)))
      (λ _ q. some_at (λ v. has from v && leads rows v w) i v (leb-false i v q) h) refl)

  image-none : (w : ℕ) → image_to 0 w ≡ false
  unfolding image some
  image-none w = refl

  -- the row of one more
  image-more : (u w : ℕ) → has from u ≡ true → (image_to u w || leads rows u w) ≡ image_to (suc u) w
  unfolding image some
  image-more u w h = or_comm (image_to u w) (leads rows u w) ∙ ap (λ (b : Bool). (b && leads rows u w) || image_to u w) (sym h)

  pub joined_none : {u : ℕ} → u ≡ next_from (has from) 0 n → Joined (replicate 16 0) u
  joined_none {u} e = subst (λ (u : ℕ). Joined (replicate 16 0) u) (sym e) (let x : Next (has from) 0 n (next_from (has from) 0 n) = next-found (has from) n 0 zero-le in record {
    within = x.within;
    hit = x.hit;
    words = zeros 16 ∙ words_of_ext (λ w. false) (image_to (next_from (has from) 0 n)) 16 (λ w l. sym (image-none w) ∙ image_gap 0 (next_from (has from) 0 n) w zero-le x.none);
  })

  pub joined_more : {ws new : List ℕ} (lent : List ℕ) {u r : ℕ} → Joined ws u → u < n → new ≡ taken ws 0 lent → ((w : ℕ) → has lent w ≡ leads rows u w) → r ≡ next_from (has from) (u + 1) n → Joined new r
  unfolding taken
  joined_more {ws} {new} lent {u} {r} j l e row er =
      let r' = next_from (has from) (u + 1) n in
      let x : Next (has from) (u + 1) n r' = next-found (has from) n (u + 1) (omega arith) in
      subst (λ (r : ℕ). Joined new r) (sym er) (record {
        within = x.within;
        hit = x.hit;
        words = e ∙ ap (words_of (λ w. has ws w || (eqb (w / max_nodes) 0 && has lent (w % max_nodes)))) (length_of (image_to u) 16 j.words)
            ∙ words_of_ext (λ w. has ws w || (eqb (w / max_nodes) 0 && has lent (w % max_nodes))) (image_to r') 16 (λ w lw.
            ap₂ (λ (a b : Bool). a || b) (has_of (image_to u) 16 j.words w lw) (ap₂ (λ (a b : Bool). a && b) (eq-eqb (w / max_nodes) 0 (omega arith)) (ap (has lent) (let z : w % max_nodes ≡ w = omega arith in z) ∙ row w))
            ∙ image-more u w (j.hit l) ∙ ap (λ (i : ℕ). image_to i w) (sym (add-one u)) ∙ image_gap (u + 1) r' w x.onward x.none);
      })

  pub joined_length : {ws : List ℕ} {u : ℕ} → Joined ws u → 16 ≡ length ws
  joined_length {u = u} j = sym (length_of (image_to u) 16 j.words)

  pub joined_all : {ws : List ℕ} {u : ℕ} → Joined ws u → n ≤ u → ws ≡ image_words rows n from
  joined_all {u = u} j l = j.words ∙ ap (λ (i : ℕ). words_of (image_to i) 16) (let z : u ≡ n = omega (arith, j.within) in z)

-- ---- the sets of a search
module _ (r : ℕ → ℕ → Bool) (n v : ℕ) where
  -- w is reached from v by k repetitions and no fewer
  unfoldable pub at_distance : ℕ → ℕ → Bool
  at_distance zero w = eqb v w
  at_distance (suc k) w = up_to r n (suc k) v w && not (up_to r n k v w)

  -- after k rounds
  pub record After (k : ℕ) (reached frontier : List ℕ) : Type 0 where
    pub all : reached ≡ words_of (up_to r n k v) 16
    pub new : frontier ≡ words_of (at_distance k) 16

-- ---- one round after the other
or_without : (a b : Bool) → (b && not a) ≡ ((a || b) && not a)
or_without true true = refl
or_without true false = refl
or_without false true = refl
or_without false false = refl

module _ (rows : List ℕ) (n v : ℕ) (few : n ≤ max_nodes) (inside : Within n rows) (l : v < n) where
  abbrev r : ℕ → ℕ → Bool
  r = leads rows

  pub after_none : {reached frontier : List ℕ} → reached ≡ words_of (λ w. eqb v w) 16 → frontier ≡ words_of (λ w. eqb v w) 16 → After r n v 0 reached frontier
  unfolding up_to at_distance
  after_none e f = record { all = e; new = f }

  -- a round reaches what it is the first to reach, and what some round before it was
  pub first-reached : (k u : ℕ) → at_distance r n v k u ≡ true → up_to r n k v u ≡ true
  unfolding at_distance
  first-reached zero u e = subst (λ (x : ℕ). up_to r n 0 v x ≡ true) (eqb-true v u e) (up_to_self r n 0 v)
  first-reached (suc k) u e = and_left (up_to r n (suc k) v u) (not (up_to r n k v u)) e

  pub reached-first : (k u : ℕ) → up_to r n k v u ≡ true → (at_distance r n v k u ≡ true) ⊎ ((j : ℕ) × (suc j ≡ k) × (up_to r n j v u ≡ true))
  unfolding at_distance
  reached-first zero u e = inl (eq-eqb v u (up_to-none r n v u e))
  reached-first (suc k) u e = bool_cases (λ b. up_to r n k v u ≡ b → ((up_to r n (suc k) v u && not b) ≡ true) ⊎ ((j : ℕ) × (suc j ≡ suc k) × (up_to r n j v u ≡ true))) (up_to r n k v u)
      (λ _ h. inr (k, refl, h)) (λ _ h. inl (and_both (up_to r n (suc k) v u) true e refl)) refl

  -- one more round reaches what this one has, and where those lead that it was the first to reach
  next-reached : (k w : ℕ) → w < max_nodes → up_to r n (suc k) v w ≡ (up_to r n k v w || image n r (at_distance r n v k) w)
  unfolding image
  next-reached k w lw = same_test (up_to r n (suc k) v w) (up_to r n k v w || some (λ u. at_distance r n v k u && r u w) n)
      (λ e. ⊎_elim (λ f. or_left (up_to r n k v w) (some (λ u. at_distance r n v k u && r u w) n) f)
      (λ f. ⊎_elim
      (λ g. or_right (up_to r n k v w) (some (λ u. at_distance r n v k u && r u w) n) (some_at (λ u. at_distance r n v k u && r u w) n f.0 f.1 (and_both (at_distance r n v k f.0) (r f.0 w) g f.3)))
      (λ g. or_left (up_to r n k v w) (some (λ u. at_distance r n v k u && r u w) n) (subst (λ (m : ℕ). up_to r n m v w ≡ true) g.1 (last_step r n g.0 v f.0 w (leads-node n inside f.0 w lw f.3).1 g.2 f.3)))
      (reached-first k f.0 f.2))
      (last-cases r n k v w l e))
      (λ e. ⊎_elim (λ f. up_to_suc r n k v w f)
      (λ f.
      let (u, lu, g) = some_witness (λ u. at_distance r n v k u && r u w) n f in
      let h : r u w ≡ true = and_right (at_distance r n v k u) (r u w) g in
      last_step r n k v u w (leads-node n inside u w lw h).1 (first-reached k u (and_left (at_distance r n v k u) (r u w) g)) h)
      (or_cases (up_to r n k v w) (some (λ u. at_distance r n v k u && r u w) n) e))

  module _ {k : ℕ} {reached frontier : List ℕ} (a : After r n v k reached frontier) where
    found : image_words rows n frontier ≡ words_of (image n r (at_distance r n v k)) 16
    found = words_of_ext (image n r (has frontier)) (image n r (at_distance r n v k)) 16 (λ w lw. image_ext n r r (has frontier) (at_distance r n v k) w (λ u lu. has_of (at_distance r n v k) 16 a.new u (omega arith)) (λ u _. refl))

    pub after_more : {reached' frontier' : List ℕ} → reached' ≡ union reached (image_words rows n frontier) → frontier' ≡ difference (image_words rows n frontier) reached → After r n v (k + 1) reached' frontier'
    unfolding at_distance
    after_more {reached'} {frontier'} e f = subst (λ (m : ℕ). After r n v m reached' frontier') (sym (add-one k)) (record {
      all = e ∙ union_of_lem (up_to r n k v) (image n r (at_distance r n v k)) 16 a.all found ∙ words_of_ext (λ w. up_to r n k v w || image n r (at_distance r n v k) w) (up_to r n (suc k) v) 16 (λ w lw. sym (next-reached k w lw));
      new = f ∙ difference_of (image n r (at_distance r n v k)) (up_to r n k v) 16 found a.all
          ∙ words_of_ext (λ w. image n r (at_distance r n v k) w && not (up_to r n k v w)) (λ w. up_to r n (suc k) v w && not (up_to r n k v w)) 16 (λ w lw. or_without (up_to r n k v w) (image n r (at_distance r n v k) w) ∙ ap (λ (b : Bool). b && not (up_to r n k v w)) (sym (next-reached k w lw)));
    })

  -- a frontier with no node in it: the round before it was the last
  pub none_new : (k : ℕ) {reached frontier : List ℕ} → After r n v (k + 1) reached frontier → every (λ w. not (has frontier w)) n ≡ settled r n v k
  unfolding at_distance
  none_new k {frontier = frontier} a =
      every_ext (λ w. not (has frontier w)) (λ w. not (up_to r n (suc k) v w && not (up_to r n k v w))) n (λ w lw. ap not (has_of (at_distance r n v (k + 1)) 16 a.new w (omega arith) ∙ ap (λ (m : ℕ). at_distance r n v m w) (add-one k)))
      ∙ sym (settled-none r n v k)

  -- ---- what the search reaches in the end
  -- only nodes
  reached-node : (k w : ℕ) → w < max_nodes → up_to r n k v w ≡ true → w < n
  reached-node zero w lw e = subst (λ (x : ℕ). x < n) (up_to-none r n v w e) l
  reached-node (suc k) w lw e = ⊎_elim (λ f. reached-node k w lw f) (λ f. (leads-node n inside f.0 w lw f.3).1) (last-cases r n k v w l e)

  pub star-node : (w : ℕ) → w < max_nodes → star r n v w ≡ true → w < n
  unfolding star
  star-node w lw e = reached-node n w lw e

  -- one round past the last: all that any number of repetitions reaches
  pub reached-all : (k : ℕ) {reached frontier : List ℕ} → After r n v (k + 1) reached frontier → rounds r n v ≡ k → reached ≡ words_of (star r n v) 16
  unfolding star
  reached-all k a e = a.all ∙ words_of_ext (up_to r n (k + 1) v) (up_to r n n v) 16 (λ w lw. same_test (up_to r n (k + 1) v w) (up_to r n n v w)
      (λ f. up_to-star r n (k + 1) v w l f)
      (λ f. ap (λ (m : ℕ). up_to r n m v w) (add-one k) ∙ up_to_suc r n k v w (ap (λ (m : ℕ). up_to r n m v w) (sym e) ∙ rounds_reach r n v l w (reached-node n w lw f) ∙ f)))
