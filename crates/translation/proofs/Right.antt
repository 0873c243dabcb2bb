-- One entry is right where the earlier ones are: the set of its keeping step is the nodes that conform to its shape, and that
-- of its breaking step the nodes that do not.
use Prim.Native.Nat.{ℕ, ◌+◌, ◌-◌, ◌≤◌, ◌<◌}
use mathlib.Core.Bool.{Bool, true, false, not, ◌&&◌, ◌||◌, true≢false, not-not}
use mathlib.Core.List.{List, [], ◌∷◌}
use mathlib.Core.Option.{Option}
use mathlib.Core.Path.{◌≡◌, refl, sym, ap, ap₂, ◌∙◌}
use native.Mathlib.Omega.{arith}
use lib.Dec.{eqb, ltb, leb}
use lib.ListN.{length}
use lib.IntN.{ℤ}
use borrow.Author.Tests.{eqb-true, eqb-false, ltb-true, leb-true}
use Rattle.base.specs.Bounded.{◌⇒◌, every, size}
use Rattle.base.specs.Numbered.{below}
use Rattle.base.proofs.Bools.{and_left, and_right, not_and, not_or}
use Rattle.base.proofs.Numbered.{at-number, below-number}
use Rattle.model.specs.Graph.{Graph, holds}
use Rattle.model.specs.Shapes.{Shape, Test, satisfies, within, from, conforms}
use Rattle.model.specs.Limits.{max_count}
use Rattle.tables.specs.Layout.{no_number, shape_count, path_count, root_at}
use Rattle.tables.specs.Entries.{Entry}
use Rattle.tables.specs.Decode.{graph_at, path_at, upper_of, items_at, shape_of, entry_at}
use Rattle.tables.specs.WellFormed.{entry_ok, upper_ok}
use Rattle.plan.specs.Steps.{Step}
use Rattle.plan.specs.Sets.{test_of, links_of, in_step, set_by}
use Rattle.plan.proofs.Complements.{not-all, broken_none, broken_high, broken_low, broken_both}
use Rattle.plan.proofs.Contraries.{ext, Contrary, all_none, is_isnot, equal_unequal, apart_meet, less_notless, lesseq_notlesseq, onelang_manylang, test_set, test_untest, closed-set, closed_opened}
use Rattle.translation.specs.Compile.{count_way, count_part, entry_part}

-- the plan has these steps from number s on
abbrev pub Has : (ℕ → Step) → ℕ → List Step → Type 0
Has at s [] = Unit {0}
Has at s (x ∷ xs) = (at s ≡ x) × Has at (s + 1) xs

-- steps i and k are before s, and their sets are p and its complement
pub record Sets (sub : Option ℕ) (cs : List ℕ) (vs : List ℤ) (at : ℕ → Step) (s i k : ℕ) (p : ℕ → Bool) : Type 0 where
  pub keep_low : i < s
  pub break_low : k < s
  pub keeps : set_by sub cs vs at i ≡ p
  pub breaks : set_by sub cs vs at k ≡ (λ v. not (p v))

module _ (sub : Option ℕ) (cs : List ℕ) (vs : List ℤ) (at : ℕ → Step) where
  abbrev g : Graph
  g = graph_at cs vs

  -- the sets of the steps below k
  abbrev lower : ℕ → ℕ → ℕ → Bool
  lower k = below (λ v. false) (λ k sets. in_step sub cs vs (at k) sets) k

  pub set_at : (k : ℕ) (x : Step) → at k ≡ x → set_by sub cs vs at k ≡ in_step sub cs vs x (lower k)
  unfolding set_by
  set_at k x e = at-number (λ v. false) (λ k sets. in_step sub cs vs (at k) sets) k ∙ ap (λ (y : Step). in_step sub cs vs y (lower k)) e

  set-low : (k j : ℕ) → j < k → lower k j ≡ set_by sub cs vs at j
  unfolding set_by
  set-low k j l = below-number (λ v. false) (λ k sets. in_step sub cs vs (at k) sets) k j l

  -- the ends of path entry e that are in q
  abbrev counted : ℕ → (ℕ → Bool) → ℕ → ℕ
  counted e q v = size (λ b. from g (path_at cs e) v b && q b) g.nodes

  -- steps that use others: step i, before step k, has the set p
  module _ (k i : ℕ) (p : ℕ → Bool) (li : i < k) (ei : set_by sub cs vs at i ≡ p) where
    pub set-count : (e lo hi : ℕ) → at k ≡ Step.count e i lo hi → set_by sub cs vs at k ≡ (λ v. within lo (upper_of hi) (counted e p v))
    unfolding in_step
    set-count e lo hi h = set_at k (Step.count e i lo hi) h ∙ ap (λ (q : ℕ → Bool). λ v. within lo (upper_of hi) (counted e q v)) (set-low k i li ∙ ei)

    pub set-every : (e : ℕ) → at k ≡ Step.every e i → set_by sub cs vs at k ≡ (λ v. every (λ b. from g (path_at cs e) v b ⇒ p b) g.nodes)
    unfolding in_step
    set-every e h = set_at k (Step.every e i) h ∙ ap (λ (q : ℕ → Bool). λ v. every (λ b. from g (path_at cs e) v b ⇒ q b) g.nodes) (set-low k i li ∙ ei)

    module _ (j : ℕ) (q : ℕ → Bool) (lj : j < k) (ej : set_by sub cs vs at j ≡ q) where
      pub set_both : at k ≡ Step.both i j → set_by sub cs vs at k ≡ (λ v. p v && q v)
      unfolding in_step
      set_both h = set_at k (Step.both i j) h ∙ ap₂ (λ (f h : ℕ → Bool). λ v. f v && h v) (set-low k i li ∙ ei) (set-low k j lj ∙ ej)

      pub set_either : at k ≡ Step.either i j → set_by sub cs vs at k ≡ (λ v. p v || q v)
      unfolding in_step
      set_either h = set_at k (Step.either i j) h ∙ ap₂ (λ (f h : ℕ → Bool). λ v. f v || h v) (set-low k i li ∙ ei) (set-low k j lj ∙ ej)

  -- entry e, whose steps stand from s on; sh: the shapes of the earlier entries, which are right
  module _ (keep breaking : ℕ → ℕ) (s e : ℕ) (sh : ℕ → Shape) (h : (j : ℕ) → j < e → Sets sub cs vs at s (keep j) (breaking j) (conforms g (sh j))) where
    before : (a : ℕ) → ltb a e ≡ true → Sets sub cs vs at s (keep a) (breaking a) (conforms g (sh a))
    before a l = h a (ltb-true a e l)

    -- two steps, the second the contrary of the first
    right-two : (x y : Step) (p : ℕ → Bool) → Has at s (x ∷ y ∷ []) → in_step sub cs vs x (lower s) ≡ p → Contrary sub cs vs (lower s) (lower (s + 1)) x y → Sets sub cs vs at (s + 2) s (s + 1) p
    right-two x y p a f n = record { keep_low = omega arith; break_low = omega arith; keeps = set_at s x a.0 ∙ f; breaks = set_at (s + 1) y a.1.0 ∙ n ∙ ap (λ (q : ℕ → Bool). λ v. not (q v)) f }

    right_test : (t : Test) → test_of cs (entry_at cs vs e) ≡ Option.some t → Has at s (Step.test e ∷ Step.untest e ∷ []) → Sets sub cs vs at (s + 2) s (s + 1) (λ v. satisfies t (g.term v))
    right_test t q st = right-two (Step.test e) (Step.untest e) (λ v. satisfies t (g.term v)) st (test_set sub cs vs (lower s) (lower (s + 1)) e t q) (test_untest sub cs vs (lower s) (lower (s + 1)) e t q)

    right-count : (p a lo hi : ℕ) → Sets sub cs vs at s (keep a) (breaking a) (conforms g (sh a)) → lo ≤ max_count → Has at s (count_part s p (keep a) lo hi).steps
        → Sets sub cs vs at (s + length (count_part s p (keep a) lo hi).steps) (count_part s p (keep a) lo hi).keep (count_part s p (keep a) lo hi).breaking (λ v. within lo (upper_of hi) (counted p (conforms g (sh a)) v))
    unfolding count_part count_way in_step
    right-count p a lo hi r low st = go (eqb lo 0) refl (eqb hi no_number) refl st
      where
        n : ℕ → ℕ
        n v = counted p (conforms g (sh a)) v

        -- the step of the count itself, and another count of the same members
        first : at s ≡ Step.count p (keep a) lo hi → set_by sub cs vs at s ≡ (λ v. within lo (upper_of hi) (n v))
        first x = set-count s (keep a) (conforms g (sh a)) r.keep_low r.keeps p lo hi x

        later : (k lo hi : ℕ) → s ≤ k → at k ≡ Step.count p (keep a) lo hi → set_by sub cs vs at k ≡ (λ v. within lo (upper_of hi) (n v))
        later k lo hi l x = set-count k (keep a) (conforms g (sh a)) (let m : keep a < s = r.keep_low in omega arith) r.keeps p lo hi x

        go : (z : Bool) → eqb lo 0 ≡ z → (t : Bool) → eqb hi no_number ≡ t → Has at s (count_way s z t p (keep a) lo hi).steps → Sets sub cs vs at (s + length (count_way s z t p (keep a) lo hi).steps) (count_way s z t p (keep a) lo hi).keep (count_way s z t p (keep a) lo hi).breaking (λ v. within lo (upper_of hi) (n v))
        go true ez true et st = record { keep_low = omega arith; break_low = omega arith; keeps = first st.0; breaks = set_at (s + 1) Step.none st.1.0 ∙ ext (λ v. sym (broken_none lo hi (n v) (eqb-true lo 0 ez) (eqb-true hi no_number et))) }
        go true ez false et st = record { keep_low = omega arith; break_low = omega arith; keeps = first st.0; breaks = later (s + 1) (hi + 1) no_number (omega arith) st.1.0 ∙ ext (λ v. sym (broken_high lo hi (n v) (eqb-true lo 0 ez) (eqb-false hi no_number et))) }
        go false ez true et st = record { keep_low = omega arith; break_low = omega arith; keeps = first st.0; breaks = later (s + 1) 0 (lo - 1) (omega arith) st.1.0 ∙ ext (λ v. sym (broken_low lo hi (n v) (eqb-false lo 0 ez) low (eqb-true hi no_number et))) }
        go false ez false et st = record {
          keep_low = omega arith;
          break_low = omega arith;
          keeps = first st.0;
          breaks = set_either (s + 3) (s + 1) (λ v. within 0 (upper_of (lo - 1)) (n v)) (omega arith) (later (s + 1) 0 (lo - 1) (omega arith) st.1.0) (s + 2) (λ v. within (hi + 1) (upper_of no_number) (n v)) (omega arith) (later (s + 2) (hi + 1) no_number (omega arith) (ap at (let z : s + 2 ≡ s + 1 + 1 = omega arith in z) ∙ st.1.1.0)) (ap at (let z : s + 3 ≡ s + 1 + 1 + 1 = omega arith in z) ∙ st.1.1.1.0) ∙ ext (λ v. sym (broken_both lo hi (n v) (eqb-false lo 0 ez) low (eqb-false hi no_number et)));
        }

    pub entry-right : (x : Entry) → entry_at cs vs e ≡ x → entry_ok cs e x ≡ true → Has at s (entry_part cs keep breaking s e x).steps → Sets sub cs vs at (s + length (entry_part cs keep breaking s e x).steps) (entry_part cs keep breaking s e x).keep (entry_part cs keep breaking s e x).breaking (conforms g (shape_of cs x sh))
    unfolding entry_part shape_of conforms entry_ok in_step test_of links_of holds
    entry-right Entry.top z ok st = right-two Step.all Step.none (λ v. true) st refl (all_none sub cs vs (lower s) (lower (s + 1)))
    entry-right (Entry.is c) z ok st = right-two (Step.is c) (Step.isnot c) (λ v. eqb v c) st refl (is_isnot sub cs vs (lower s) (lower (s + 1)) c)
    entry-right (Entry.shape n) z ok st =
        let r = before (root_at cs n) (and_right (ltb n (shape_count cs)) (ltb (root_at cs n) e) ok) in
        record { keep_low = let l : keep (root_at cs n) < s = r.keep_low in omega arith; break_low = let l : breaking (root_at cs n) < s = r.break_low in omega arith; keeps = r.keeps; breaks = r.breaks }
    entry-right (Entry.conj a b) z ok st =
        let r = before a (and_left (ltb a e) (ltb b e) ok) in
        let q = before b (and_right (ltb a e) (ltb b e) ok) in
        record { keep_low = omega arith; break_low = omega arith; keeps = set_both s (keep a) (conforms g (sh a)) r.keep_low r.keeps (keep b) (conforms g (sh b)) q.keep_low q.keeps st.0; breaks = set_either (s + 1) (breaking a) (λ v. not (conforms g (sh a) v)) (let l : breaking a < s = r.break_low in omega arith) r.breaks (breaking b) (λ v. not (conforms g (sh b) v)) (let l : breaking b < s = q.break_low in omega arith) q.breaks st.1.0 ∙ ext (λ v. sym (not_and (conforms g (sh a) v) (conforms g (sh b) v))) }
    entry-right (Entry.disj a b) z ok st =
        let r = before a (and_left (ltb a e) (ltb b e) ok) in
        let q = before b (and_right (ltb a e) (ltb b e) ok) in
        record { keep_low = omega arith; break_low = omega arith; keeps = set_either s (keep a) (conforms g (sh a)) r.keep_low r.keeps (keep b) (conforms g (sh b)) q.keep_low q.keeps st.0; breaks = set_both (s + 1) (breaking a) (λ v. not (conforms g (sh a) v)) (let l : breaking a < s = r.break_low in omega arith) r.breaks (breaking b) (λ v. not (conforms g (sh b) v)) (let l : breaking b < s = q.break_low in omega arith) q.breaks st.1.0 ∙ ext (λ v. sym (not_or (conforms g (sh a) v) (conforms g (sh b) v))) }
    entry-right (Entry.neg a) z ok st =
        let r = before a ok in
        record { keep_low = let l : breaking a < s = r.break_low in omega arith; break_low = let l : keep a < s = r.keep_low in omega arith; keeps = r.breaks; breaks = r.keeps ∙ ext (λ v. sym (not-not (conforms g (sh a) v))) }
    entry-right (Entry.kind k) z ok st = right_test _ (ap (test_of cs) z) st
    entry-right (Entry.datatype t) z ok st = right_test _ (ap (test_of cs) z) st
    entry-right (Entry.lang i n) z ok st = right_test _ (ap (test_of cs) z) st
    entry-right (Entry.from x) z ok st = right_test _ (ap (test_of cs) z) st
    entry-right (Entry.above x) z ok st = right_test _ (ap (test_of cs) z) st
    entry-right (Entry.to x) z ok st = right_test _ (ap (test_of cs) z) st
    entry-right (Entry.under x) z ok st = right_test _ (ap (test_of cs) z) st
    entry-right (Entry.count p a lo hi) z ok st =
        let l = and_left (ltb p (path_count cs) && ltb a e) (leb lo max_count && upper_ok cs hi) ok in
        let m = and_right (ltb p (path_count cs) && ltb a e) (leb lo max_count && upper_ok cs hi) ok in
        right-count p a lo hi (before a (and_right (ltb p (path_count cs)) (ltb a e) l)) (leb-true lo max_count (and_left (leb lo max_count) (upper_ok cs hi) m)) st
    entry-right (Entry.all p a) z ok st =
        let r = before a (and_right (ltb p (path_count cs)) (ltb a e) ok) in
        record { keep_low = omega arith; break_low = omega arith; keeps = set-every s (keep a) (conforms g (sh a)) r.keep_low r.keeps p st.0; breaks = set-count (s + 1) (breaking a) (λ v. not (conforms g (sh a) v)) (let l : breaking a < s = r.break_low in omega arith) r.breaks p 1 no_number st.1.0 ∙ ext (λ v. sym (not-all g.nodes (from g (path_at cs p) v) (conforms g (sh a)))) }
    entry-right (Entry.equal f l) z ok st = right-two (Step.equal f l) (Step.unequal f l) _ st refl (equal_unequal sub cs vs (lower s) (lower (s + 1)) f l)
    entry-right (Entry.apart f l) z ok st = right-two (Step.apart f l) (Step.meet f l) _ st refl (apart_meet sub cs vs (lower s) (lower (s + 1)) f l)
    entry-right (Entry.closed i n) z ok st = right-two (Step.closed e) (Step.opened e) _ st (closed-set sub cs vs (lower s) (lower (s + 1)) e (items_at cs i n) (ap (links_of cs) z)) (closed_opened sub cs vs (lower s) (lower (s + 1)) e (items_at cs i n) (ap (links_of cs) z))
    entry-right (Entry.less p l) z ok st = right-two (Step.less p l) (Step.notless p l) _ st refl (less_notless sub cs vs (lower s) (lower (s + 1)) p l)
    entry-right (Entry.lesseq p l) z ok st = right-two (Step.lesseq p l) (Step.notlesseq p l) _ st refl (lesseq_notlesseq sub cs vs (lower s) (lower (s + 1)) p l)
    entry-right (Entry.onelang p) z ok st = right-two (Step.onelang p) (Step.manylang p) _ st refl (onelang_manylang sub cs vs (lower s) (lower (s + 1)) p)
    entry-right Entry.bad z ok st = absurd (true≢false (sym ok))
