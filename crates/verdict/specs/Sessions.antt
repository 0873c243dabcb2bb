-- Questions put one after the other (document 02, Job 2): each comes with the tallies that the reply before it handed back.
use Rattle.std.specs.Prelude.{ℕ, ◌+◌, List, [], ◌∷◌, Bool, cond, ◌≡◌, eqb, ℤ, get_or}
use Rattle.base.specs.Bounded.{one}
use Rattle.consoles.specs.Tallies.{no_tallies}
use Rattle.model.specs.Answers.{Answer, is_given}
use Rattle.verdict.specs.Answers.{Question, Reply, reply, reply_of}
use Rattle.verdict.specs.declared.Outcome.{Outcome}

-- the questions of console c, in their order
unfoldable pub questions_of : ℕ → List Question → List Question
questions_of c [] = []
questions_of c (q ∷ qs) = cond (eqb q.console c) (q ∷ questions_of c qs) (questions_of c qs)

-- the answers to console c's questions, among the replies to all
unfoldable pub answers_to : ℕ → List Question → List Reply → List (Answer Bool)
answers_to c [] rs = []
answers_to c (q ∷ qs) [] = []
answers_to c (q ∷ qs) (r ∷ rs) = cond (eqb q.console c) (r.answer ∷ answers_to c qs rs) (answers_to c qs rs)

-- the tallies at the end: those of the last reply, and ts where there is none
unfoldable pub tallies_after : List ℕ → List Reply → List ℕ
tallies_after ts [] = ts
tallies_after ts (r ∷ rs) = tallies_after r.tallies rs

-- how many answers were given, and not refused
unfoldable pub given_in : List (Answer Bool) → ℕ
given_in [] = 0
given_in (x ∷ xs) = one (is_given x) + given_in xs

-- console c's view of a session: the answers to its questions, and its tally at the end
pub record View : Type 0 where
  pub answers : List (Answer Bool)
  pub tally : ℕ

-- of the replies rs to the questions qs, the first of which came with the tallies ts
abbrev pub view_from : ℕ → List ℕ → List Question → List Reply → View
view_from c ts qs rs = record { answers = answers_to c qs rs; tally = get_or (tallies_after ts rs) c 0 }

-- on one set of tables
module _ (ns cs : List ℕ) (vs : List ℤ) where
  -- the replies to the questions of all consoles, in the order in which they are put
  unfoldable pub session : List ℕ → List Question → List Reply
  session ts [] = []
  session ts (q ∷ qs) = let r = reply ns cs vs ts q in r ∷ session r.tallies qs

  -- console c's view of a session that begins with eight zeros
  abbrev pub view_of : ℕ → List Question → View
  view_of c qs = view_from c no_tallies qs (session no_tallies qs)

  -- the outcomes of calls of `verdict`, one for each question: each is what the contract promises (`learnt`: proofs/Calls) of the
  -- tallies that the call before it handed back
  abbrev pub Called : List ℕ → List Question → List Outcome → Type 0
  Called ts [] [] = Unit {0}
  Called ts [] (o ∷ os) = ⊥
  Called ts (q ∷ qs) [] = ⊥
  Called ts (q ∷ qs) (o ∷ os) = (reply_of o ≡ reply ns cs vs ts q) × Called o.tallies.counts qs os
