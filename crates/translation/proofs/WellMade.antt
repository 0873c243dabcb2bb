-- The steps of well_formed_lem tables: at most four for an entry and two for a rule, and each well formed, so it uses lower ones only.
use Prim.Native.Nat.{ℕ, zero, suc, ◌+◌, ◌-◌, ◌*◌, ◌≤◌, ◌<◌}
use mathlib.Core.Bool.{Bool, true, false, ◌&&◌, ◌||◌, true≢false}
use mathlib.Core.List.{List, [], ◌∷◌, ◌++◌}
use mathlib.Core.Option.{Option}
use mathlib.Core.Path.{◌≡◌, refl, sym, ap, ◌∙◌, subst}
use native.Mathlib.Nat.{le_of_suc-le-suc}
use native.Mathlib.Omega.{arith}
use lib.Dec.{eqb, ltb, leb}
use lib.ListN.{get_or, length}
use borrow.Author.Tests.{ne_eqb, eqb-false, ltb-true, lt-ltb, leb-true, le-leb}
use Rattle.base.proofs.Bools.{and_left, and_right, and_both, or_cases, never_both}
use Rattle.model.specs.Graph.{holds}
use Rattle.model.specs.Shapes.{Test}
use Rattle.model.specs.Limits.{max_count}
use Rattle.tables.specs.Layout.{no_number, node_count, link_count, path_count, form_count, shape_count, rule_count, root_at, rule_shape_at, rule_target_at, rule_operand_at}
use Rattle.tables.specs.Entries.{Entry}
use Rattle.tables.specs.Decode.{entry_at, target_of, rule_at}
use Rattle.tables.specs.WellFormed.{upper_ok, entry_ok, rule_ok}
use Rattle.tables.proofs.WellFormed.{Sound}
use Rattle.plan.specs.Steps.{Step}
use Rattle.plan.specs.Sets.{test_of, links_of}
use Rattle.plan.specs.WellFormed.{test_ok, closed_ok, step_ok}
use Rattle.translation.specs.Compile.{count_way, count_part, entry_part, more, made, target_step, steps_of_rule, steps_to, steps_of}
use Rattle.translation.proofs.Whole.{has_all_lem, start, own, start-more, right, length_to, forms-first, rule_shape}

-- an entry has at most four steps
pub entry_four : (cs : List ℕ) (keep breaking : ℕ → ℕ) (s e : ℕ) (x : Entry) → length (entry_part cs keep breaking s e x).steps ≤ 4
unfolding entry_part count_part count_way
entry_four cs keep breaking s e Entry.top = omega arith
entry_four cs keep breaking s e (Entry.is c) = omega arith
entry_four cs keep breaking s e (Entry.shape n) = omega arith
entry_four cs keep breaking s e (Entry.conj a b) = omega arith
entry_four cs keep breaking s e (Entry.disj a b) = omega arith
entry_four cs keep breaking s e (Entry.neg a) = omega arith
entry_four cs keep breaking s e (Entry.kind k) = omega arith
entry_four cs keep breaking s e (Entry.datatype t) = omega arith
entry_four cs keep breaking s e (Entry.lang i n) = omega arith
entry_four cs keep breaking s e (Entry.from x) = omega arith
entry_four cs keep breaking s e (Entry.above x) = omega arith
entry_four cs keep breaking s e (Entry.to x) = omega arith
entry_four cs keep breaking s e (Entry.under x) = omega arith
entry_four cs keep breaking s e (Entry.count p a lo hi) = ways (eqb lo 0) (eqb hi no_number)
  where
    ways : (z t : Bool) → length (count_way s z t p (keep a) lo hi).steps ≤ 4
    ways true true = omega arith
    ways true false = omega arith
    ways false true = omega arith
    ways false false = omega arith
entry_four cs keep breaking s e (Entry.all p a) = omega arith
entry_four cs keep breaking s e (Entry.equal f l) = omega arith
entry_four cs keep breaking s e (Entry.apart f l) = omega arith
entry_four cs keep breaking s e (Entry.closed i n) = omega arith
entry_four cs keep breaking s e (Entry.less p l) = omega arith
entry_four cs keep breaking s e (Entry.lesseq p l) = omega arith
entry_four cs keep breaking s e (Entry.onelang p) = omega arith
entry_four cs keep breaking s e Entry.bad = omega arith

module _ (cs : List ℕ) where
  no_steps : start cs 0 ≤ 4 * 0
  unfolding made
  no_steps = omega arith

  pub start_four : (n : ℕ) → start cs n ≤ 4 * n
  start_four zero = no_steps
  start_four (suc n) = omega (arith, start_four n, start-more cs n, entry_four cs (made cs n).keep (made cs n).breaking (start cs n) n (entry_at cs [] n))

  no-rules : length (steps_to cs 0) ≤ 4 * form_count cs + 2 * 0
  unfolding steps_to
  no-rules = omega (arith, start_four (form_count cs))

  pub steps-few : (r : ℕ) → length (steps_to cs r) ≤ 4 * form_count cs + 2 * r
  steps-few zero = no-rules
  steps-few (suc r) = omega (arith, steps-few r, length_to cs r)

  -- the steps from number s on are well formed
  abbrev Fine : ℕ → List Step → Type 0
  Fine s [] = Unit {0}
  Fine s (x ∷ xs) = (step_ok cs s x ≡ true) × Fine (s + 1) xs

  fine_join : (s : ℕ) (xs ys : List Step) → Fine s xs → Fine (s + length xs) ys → Fine s (xs ++ ys)
  fine_join s [] ys h k = subst (λ (n : ℕ). Fine n ys) (let z : s + 0 ≡ s = omega arith in z) k
  fine_join s (x ∷ xs) ys h k = (h.0, fine_join (s + 1) xs ys h.1 (subst (λ (n : ℕ). Fine n ys) (let z : s + suc (length xs) ≡ s + 1 + length xs = omega arith in z) k))

  -- after all that stand before
  fine_more : (xs ys : List Step) → Fine 0 xs → Fine (length xs) ys → Fine 0 (xs ++ ys)
  fine_more xs ys h k = fine_join 0 xs ys h (subst (λ (n : ℕ). Fine n ys) (let z : length xs ≡ 0 + length xs = omega arith in z) k)

  fine_at : (s : ℕ) (ss : List Step) → Fine s ss → (i : ℕ) → i < length ss → step_ok cs (s + i) (get_or ss i Step.all) ≡ true
  fine_at s [] h i l = absurd (omega arith)
  fine_at s (x ∷ xs) h zero l = ap (λ (k : ℕ). step_ok cs k x) (let z : s + 0 ≡ s = omega arith in z) ∙ h.0
  fine_at s (x ∷ xs) h (suc i) l = ap (λ (k : ℕ). step_ok cs k (get_or xs i Step.all)) (let z : s + suc i ≡ s + 1 + i = omega arith in z) ∙ fine_at (s + 1) xs h.1 i (le_of_suc-le-suc l)

  -- entry e, where the earlier entries' steps are below s
  module _ (keep breaking : ℕ → ℕ) (s e : ℕ) (here : e < form_count cs) (h : (j : ℕ) → j < e → (keep j < s) × (breaking j < s)) where
    low : (a : ℕ) → ltb a e ≡ true → (keep a < s) × (breaking a < s)
    low a l = h a (ltb-true a e l)

    lower : (t i j : ℕ) → i < t → j < t → (ltb i t && ltb j t) ≡ true
    lower t i j l r = and_both (ltb i t) (ltb j t) (lt-ltb i t l) (lt-ltb j t r)

    test_fine : (t : Test) → test_of cs (entry_at cs [] e) ≡ Option.some t → Fine s (Step.test e ∷ Step.untest e ∷ [])
    unfolding step_ok test_ok holds
    test_fine t q = let o = and_both (ltb e (form_count cs)) (holds (λ t. true) (test_of cs (entry_at cs [] e))) (lt-ltb e (form_count cs) here) (ap (holds (λ t. true)) q) in (o, (o, tt))

    closed_fine : (ls : List ℕ) → links_of cs (entry_at cs [] e) ≡ Option.some ls → Fine s (Step.closed e ∷ Step.opened e ∷ [])
    unfolding step_ok closed_ok holds
    closed_fine ls q = let o = and_both (ltb e (form_count cs)) (holds (λ ps. true) (links_of cs (entry_at cs [] e))) (lt-ltb e (form_count cs) here) (ap (holds (λ ps. true)) q) in (o, (o, tt))

    count_fine : (t p j lo hi : ℕ) → ltb p (path_count cs) ≡ true → j < t → lo ≤ max_count + 1 → upper_ok cs hi ≡ true → step_ok cs t (Step.count p j lo hi) ≡ true
    unfolding step_ok
    count_fine t p j lo hi o l a b = and_both (ltb p (path_count cs) && ltb j t) (leb lo (max_count + 1) && upper_ok cs hi) (and_both (ltb p (path_count cs)) (ltb j t) o (lt-ltb j t l)) (and_both (leb lo (max_count + 1)) (upper_ok cs hi) (le-leb lo (max_count + 1) a) b)

    high_of_lem : (hi : ℕ) → upper_ok cs hi ≡ true → (hi ≡ no_number → ⊥) → hi ≤ max_count
    unfolding upper_ok
    high_of_lem hi o n = mathlib.Core.Logic.⊎_elim (λ l. leb-true hi max_count l) (λ q. absurd (never_both q (ne_eqb hi no_number n))) (or_cases (leb hi max_count) (eqb hi no_number) o)

    high_small : (hi : ℕ) → hi ≤ max_count → upper_ok cs hi ≡ true
    unfolding upper_ok
    high_small hi l = ap (λ (t : Bool). t || eqb hi no_number) (le-leb hi max_count l)

    high-star : upper_ok cs no_number ≡ true
    unfolding upper_ok
    high-star = refl

    counts_fine : (p j lo hi : ℕ) → ltb p (path_count cs) ≡ true → j < s → lo ≤ max_count → upper_ok cs hi ≡ true → Fine s (count_part s p j lo hi).steps
    unfolding count_part count_way step_ok
    counts_fine p j lo hi o l a b = ways (eqb lo 0) (eqb hi no_number) refl
      where
        first : step_ok cs s (Step.count p j lo hi) ≡ true
        first = count_fine s p j lo hi o l (omega arith) b

        above : (t : ℕ) → j < t → (hi ≡ no_number → ⊥) → step_ok cs t (Step.count p j (hi + 1) no_number) ≡ true
        above t m n = count_fine t p j (hi + 1) no_number o m (omega (arith, high_of_lem hi b n)) high-star

        under : step_ok cs (s + 1) (Step.count p j 0 (lo - 1)) ≡ true
        under = count_fine (s + 1) p j 0 (lo - 1) o (omega arith) (omega arith) (high_small (lo - 1) (omega arith))

        ways : (z t : Bool) → eqb hi no_number ≡ t → Fine s (count_way s z t p j lo hi).steps
        ways true true et = (first, (refl, tt))
        ways true false et = (first, (above (s + 1) (omega arith) (eqb-false hi no_number et), tt))
        ways false true et = (first, (under, tt))
        ways false false et = (first, (under, (above (s + 1 + 1) (omega arith) (eqb-false hi no_number et), (lower (s + 1 + 1 + 1) (s + 1) (s + 2) (omega arith) (omega arith), tt))))

    pub entry_fine : (x : Entry) → entry_at cs [] e ≡ x → entry_ok cs e x ≡ true → Fine s (entry_part cs keep breaking s e x).steps
    unfolding entry_part entry_ok step_ok test_of links_of
    entry_fine Entry.top z ok = (refl, (refl, tt))
    entry_fine (Entry.is c) z ok = (ok, (ok, tt))
    entry_fine (Entry.shape n) z ok = tt
    entry_fine (Entry.conj a b) z ok =
        let x = low a (and_left (ltb a e) (ltb b e) ok) in
        let y = low b (and_right (ltb a e) (ltb b e) ok) in
        (lower s (keep a) (keep b) x.0 y.0, (lower (s + 1) (breaking a) (breaking b) (omega (arith, x.1)) (omega (arith, y.1)), tt))
    entry_fine (Entry.disj a b) z ok =
        let x = low a (and_left (ltb a e) (ltb b e) ok) in
        let y = low b (and_right (ltb a e) (ltb b e) ok) in
        (lower s (keep a) (keep b) x.0 y.0, (lower (s + 1) (breaking a) (breaking b) (omega (arith, x.1)) (omega (arith, y.1)), tt))
    entry_fine (Entry.neg a) z ok = tt
    entry_fine (Entry.kind k) z ok = test_fine _ (ap (test_of cs) z)
    entry_fine (Entry.datatype t) z ok = test_fine _ (ap (test_of cs) z)
    entry_fine (Entry.lang i n) z ok = test_fine _ (ap (test_of cs) z)
    entry_fine (Entry.from x) z ok = test_fine _ (ap (test_of cs) z)
    entry_fine (Entry.above x) z ok = test_fine _ (ap (test_of cs) z)
    entry_fine (Entry.to x) z ok = test_fine _ (ap (test_of cs) z)
    entry_fine (Entry.under x) z ok = test_fine _ (ap (test_of cs) z)
    entry_fine (Entry.count p a lo hi) z ok =
        let l = and_left (ltb p (path_count cs) && ltb a e) (leb lo max_count && upper_ok cs hi) ok in
        let m = and_right (ltb p (path_count cs) && ltb a e) (leb lo max_count && upper_ok cs hi) ok in
        counts_fine p (keep a) lo hi (and_left (ltb p (path_count cs)) (ltb a e) l) (low a (and_right (ltb p (path_count cs)) (ltb a e) l)).0 (leb-true lo max_count (and_left (leb lo max_count) (upper_ok cs hi) m)) (and_right (leb lo max_count) (upper_ok cs hi) m)
    entry_fine (Entry.all p a) z ok =
        let x = low a (and_right (ltb p (path_count cs)) (ltb a e) ok) in
        let o = and_left (ltb p (path_count cs)) (ltb a e) ok in
        (and_both (ltb p (path_count cs)) (ltb (keep a) s) o (lt-ltb (keep a) s x.0), (count_fine (s + 1) p (breaking a) 1 no_number o (omega (arith, x.1)) (omega arith) high-star, tt))
    entry_fine (Entry.equal f l) z ok = (ok, (ok, tt))
    entry_fine (Entry.apart f l) z ok = (ok, (ok, tt))
    entry_fine (Entry.closed i n) z ok = closed_fine _ (ap (links_of cs) z)
    entry_fine (Entry.less p l) z ok = (ok, (ok, tt))
    entry_fine (Entry.lesseq p l) z ok = (ok, (ok, tt))
    entry_fine (Entry.onelang p) z ok = (ok, (ok, tt))
    entry_fine Entry.bad z ok = tt

  -- a target by its code
  target_fine : (code a s : ℕ) → get_or (ltb a (node_count cs) ∷ ltb a (link_count cs) ∷ ltb a (link_count cs) ∷ ltb a (node_count cs) ∷ []) code false ≡ true → step_ok cs s (target_step (target_of code a)) ≡ true
  unfolding target_step target_of step_ok
  target_fine zero a s o = o
  target_fine (suc zero) a s o = o
  target_fine (suc (suc zero)) a s o = o
  target_fine (suc (suc (suc zero))) a s o = o
  target_fine (suc (suc (suc (suc k)))) a s o = absurd (true≢false (sym o))

  module _ (ok : Sound cs) where
    -- the two steps of each entry below n are before entry n's
    lows : (n : ℕ) → n ≤ form_count cs → (j : ℕ) → j < n → ((made cs n).keep j < start cs n) × ((made cs n).breaking j < start cs n)
    lows n l j lj =
        let r = right cs Option.none [] (λ k. get_or (made cs n).steps k Step.all) n (λ e le. ok.entry [] e (omega arith)) (has_all_lem (λ k. get_or (made cs n).steps k Step.all) 0 (made cs n).steps (λ i l. ap (λ (k : ℕ). get_or (made cs n).steps k Step.all) (let z : 0 + i ≡ i = omega arith in z))) j lj in
        (r.keep_low, r.break_low)

    made_fine : (n : ℕ) → n ≤ form_count cs → Fine 0 (made cs n).steps
    unfolding made more
    made_fine zero l = tt
    made_fine (suc n) l = fine_more (made cs n).steps (own cs n).steps (made_fine n (omega arith)) (entry_fine (made cs n).keep (made cs n).breaking (start cs n) n (omega arith) (lows n (omega arith)) (entry_at cs [] n) refl (ok.entry [] n (omega arith)))

    -- the two steps of a rule
    rule_fine : (r : ℕ) → r < rule_count cs → Fine (length (steps_to cs r)) (steps_of_rule cs r (length (steps_to cs r)))
    unfolding steps_of_rule rule_ok step_ok rule_at
    rule_fine r l =
        let n : ℕ = length (steps_to cs r) in
        let b : ℕ = (made cs (form_count cs)).breaking (root_at cs (rule_shape_at cs r)) in
        let m = lows (form_count cs) (omega arith) (root_at cs (rule_shape_at cs r)) (ok.root (rule_shape_at cs r) (rule_shape cs ok r l)) in
        (target_fine (rule_target_at cs r) (rule_operand_at cs r) n (and_right (ltb (rule_shape_at cs r) (shape_count cs)) _ (ok.rule r l)), (and_both (ltb n (n + 1)) (ltb b (n + 1)) (lt-ltb n (n + 1) (omega arith)) (lt-ltb b (n + 1) (omega (arith, forms-first cs r, m.1))), tt))

    rules_fine : (r : ℕ) → r ≤ rule_count cs → Fine 0 (steps_to cs r)
    unfolding steps_to
    rules_fine zero l = made_fine (form_count cs) (omega arith)
    rules_fine (suc r) l = fine_more (steps_to cs r) (steps_of_rule cs r (length (steps_to cs r))) (rules_fine r (omega arith)) (rule_fine r l)

    -- every step is well formed
    pub steps_fine : (k : ℕ) → k < length (steps_of cs) → step_ok cs k (get_or (steps_of cs) k Step.all) ≡ true
    unfolding steps_of
    steps_fine k l = ap (λ (i : ℕ). step_ok cs i (get_or (steps_of cs) k Step.all)) (let z : k ≡ 0 + k = omega arith in z) ∙ fine_at 0 (steps_of cs) (rules_fine (rule_count cs) (omega arith)) k l
