-- Questions put one after the other (document 02, Job 2): a console's answers and its tally depend on its own questions only.
use Prim.Native.Nat.{ℕ, ◌≤◌, ◌<◌, ◌+◌, min}
use mathlib.Core.List.{List, [], ◌∷◌}
use mathlib.Core.Bool.{Bool, true, false, cond}
use mathlib.Core.Path.{◌≡◌, refl, sym, ap, ap₂, ◌∙◌, subst}
use native.Mathlib.Omega.{arith}
use lib.Dec.{eqb, leb}
use lib.IntN.{ℤ}
use lib.ListN.{length, get_or, get_or-replicate}
use borrow.Author.Tests.{eqb-true, eqb-false}
use Rattle.base.proofs.Bools.{bool_cases}
use Rattle.base.specs.Bounded.{one}
use Rattle.consoles.specs.Tallies.{console_count, no_tallies, greatest, one_more, counted}
use Rattle.consoles.proofs.Counting.{counted-length, counted-other, counted_own, one_more_min, one_more-fits}
use Rattle.model.specs.Answers.{Answer, is_given}
use Rattle.verdict.specs.Answers.{Question, verdict_answer, tallied}
use Rattle.verdict.specs.Sessions.{questions_of, answers_to, tallies_after, given_in, View, view_from, session, view_of}
use Rattle.verdict.proofs.Answers.{verdict_by_length, given_console}

-- ---- the tallies ts after a question of console k
pub tallied-length : (x : Answer Bool) (k : ℕ) (ts : List ℕ) → length (tallied x k ts) ≡ length ts
tallied-length x k ts = bool_cases (λ b. length (cond b (counted k ts) ts) ≡ length ts) (is_given x) (λ t. counted-length k ts) (λ f. refl)

-- at console c
module _ (x : Answer Bool) (k c : ℕ) where
  -- a question of another console
  tallied-other : (ts : List ℕ) → eqb k c ≡ false → get_or (tallied x k ts) c 0 ≡ get_or ts c 0
  tallied-other ts n = bool_cases (λ b. get_or (cond b (counted k ts) ts) c 0 ≡ get_or ts c 0) (is_given x) (λ t. counted-other k c ts (λ e. eqb-false k c n (sym e))) (λ f. refl)

  -- its own question
  module _ (own : eqb k c ≡ true) where
    module _ (ts : List ℕ) (l : c < length ts) (f : get_or ts c 0 ≤ greatest) where
      tallied-fits : get_or (tallied x k ts) c 0 ≤ greatest
      tallied-fits =
          subst (λ j. get_or (tallied x j ts) c 0 ≤ greatest) (sym (eqb-true k c own))
          (bool_cases (λ b. get_or (cond b (counted c ts) ts) c 0 ≤ greatest) (is_given x) (λ t. subst (λ n. n ≤ greatest) (sym (counted_own c ts l)) (one_more-fits (get_or ts c 0) f)) (λ n. f))

      -- with m answers to come
      tallied-more : (m : ℕ) → min (get_or (tallied x k ts) c 0 + m) greatest ≡ min (get_or ts c 0 + (one (is_given x) + m)) greatest
      unfolding one
      tallied-more m =
          subst (λ j. min (get_or (tallied x j ts) c 0 + m) greatest ≡ min (get_or ts c 0 + (one (is_given x) + m)) greatest) (sym (eqb-true k c own))
          (bool_cases (λ b. min (get_or (cond b (counted c ts) ts) c 0 + m) greatest ≡ min (get_or ts c 0 + (one b + m)) greatest) (is_given x) (λ t. ap (λ (n : ℕ). min (n + m) greatest) (counted_own c ts l) ∙ one_more_min (get_or ts c 0) m f) (λ n. omega arith))

-- a view with one question more, first: its answer joins where it is the console's own
abbrev joined : Bool → Answer Bool → View → View
joined own x h = record { answers = cond own (x ∷ h.answers) h.answers; tally = h.tally }

module _ (ns cs : List ℕ) (vs : List ℤ) where
  -- ---- a question of console c itself: what it does to its tally depends on that tally alone
  own_alike : (c : ℕ) (ts us : List ℕ) (q : Question) → q.console ≡ c → leb console_count (length ts) ≡ leb console_count (length us) → get_or ts c 0 ≡ get_or us c 0 → get_or (tallied (verdict_answer ns cs vs ts q) q.console ts) c 0 ≡ get_or (tallied (verdict_answer ns cs vs us q) q.console us) c 0
  own_alike c ts us q p n e =
      let k = q.console in
      let f = verdict_by_length ns cs vs ts q us n in
      let e' = subst (λ j. get_or ts j 0 ≡ get_or us j 0) (sym p) e in
      bool_cases (λ b. (b ≡ true → (k < length ts) × (k < length us)) → get_or (cond b (counted k ts) ts) c 0 ≡ get_or (cond b (counted k us) us) c 0) (is_given (verdict_answer ns cs vs ts q))
      (λ t h. subst (λ j. get_or (counted k ts) j 0 ≡ get_or (counted k us) j 0) p (counted_own k ts (h refl).0 ∙ ap one_more e' ∙ sym (counted_own k us (h refl).1)))
      (λ r h. e)
      (λ t.
      let g = given_console ns cs vs ts q t in
      let h = given_console ns cs vs us q (sym (ap is_given f) ∙ t) in
      (omega (arith, g), omega (arith, g, h)))
      ∙ ap (λ (z : Answer Bool). get_or (tallied z k us) c 0) f

  -- ---- a session, and one of console c's questions alone: c has the same view, whatever the other tallies were
  alone : (c : ℕ) (ts us : List ℕ) (qs : List Question) → leb console_count (length ts) ≡ leb console_count (length us) → get_or ts c 0 ≡ get_or us c 0 → view_from c ts qs (session ns cs vs ts qs) ≡ view_from c us (questions_of c qs) (session ns cs vs us (questions_of c qs))
  unfolding questions_of session answers_to tallies_after
  alone c ts us [] n e = ap (λ (t : ℕ). record { answers = []; tally = t }) e
  alone c ts us (q ∷ qs) n e =
      let k = q.console in
      let x = verdict_answer ns cs vs ts q in
      let y = verdict_answer ns cs vs us q in
      let ts' = tallied x k ts in
      let us' = tallied y k us in
      bool_cases (λ b. joined b x (view_from c ts' qs (session ns cs vs ts' qs)) ≡ view_from c us (cond b (q ∷ questions_of c qs) (questions_of c qs)) (session ns cs vs us (cond b (q ∷ questions_of c qs) (questions_of c qs)))) (eqb k c)
      (λ own.
      ap (joined true x) (alone c ts' us' qs (ap (leb console_count) (tallied-length x k ts) ∙ n ∙ sym (ap (leb console_count) (tallied-length y k us))) (own_alike c ts us q (eqb-true k c own) n e))
      ∙ ap₂ (λ (b : Bool) (z : Answer Bool). joined b z (view_from c us' (questions_of c qs) (session ns cs vs us' (questions_of c qs)))) (sym own) (verdict_by_length ns cs vs ts q us n))
      (λ other. alone c ts' us qs (ap (leb console_count) (tallied-length x k ts) ∙ n) (tallied-other x k c ts other ∙ e))

  -- two sessions with the same questions of c, in their order, which begin with the same tally of c; the tallies are eight or more
  -- in both, or fewer in both
  pub own_questions_from : (c : ℕ) (ts us : List ℕ) (qs ps : List Question) → leb console_count (length ts) ≡ leb console_count (length us) → get_or ts c 0 ≡ get_or us c 0 → questions_of c qs ≡ questions_of c ps → view_from c ts qs (session ns cs vs ts qs) ≡ view_from c us ps (session ns cs vs us ps)
  own_questions_from c ts us qs ps n t e =
      alone c ts us qs n t
      ∙ ap (λ (own : List Question). view_from c us own (session ns cs vs us own)) e
      ∙ sym (alone c us us ps refl refl)

  -- **from eight zeros a console's answers and its tally depend on its own questions only**, whatever questions stand between them
  pub own_questions : (c : ℕ) (qs ps : List Question) → questions_of c qs ≡ questions_of c ps → view_of ns cs vs c qs ≡ view_of ns cs vs c ps
  own_questions c qs ps e = own_questions_from c no_tallies no_tallies qs ps refl refl e

  -- ---- a console's tally is the number of its answered questions, up to the greatest
  pub tally-counts-from : (c : ℕ) (ts : List ℕ) (qs : List Question) → c < length ts → get_or ts c 0 ≤ greatest → get_or (tallies_after ts (session ns cs vs ts qs)) c 0 ≡ min (get_or ts c 0 + given_in (answers_to c qs (session ns cs vs ts qs))) greatest
  unfolding session answers_to tallies_after given_in
  tally-counts-from c ts [] l f = omega arith
  tally-counts-from c ts (q ∷ qs) l f =
      let k = q.console in
      let x = verdict_answer ns cs vs ts q in
      let ts' = tallied x k ts in
      let xs = answers_to c qs (session ns cs vs ts' qs) in
      let l' : c < length ts' = omega (arith, l, tallied-length x k ts) in
      bool_cases (λ b. get_or (tallies_after ts' (session ns cs vs ts' qs)) c 0 ≡ min (get_or ts c 0 + given_in (cond b (x ∷ xs) xs)) greatest) (eqb k c)
      (λ own. tally-counts-from c ts' qs l' (tallied-fits x k c own ts l f) ∙ tallied-more x k c own ts l f (given_in xs))
      (λ other.
      let e = tallied-other x k c ts other in
      tally-counts-from c ts' qs l' (subst (λ t. t ≤ greatest) (sym e) f) ∙ ap (λ (t : ℕ). min (t + given_in xs) greatest) e)

  pub tally-counts : (c : ℕ) (qs : List Question) → c < console_count → (view_of ns cs vs c qs).tally ≡ min (given_in (view_of ns cs vs c qs).answers) greatest
  tally-counts c qs l =
      let z : get_or no_tallies c 0 ≡ 0 = get_or-replicate console_count c 0 0 l in
      omega (arith, z, tally-counts-from c no_tallies qs l (omega (arith, z)))
