-- Calls of `verdict` one after the other, each handed the tallies that the one before it handed back.
use Prim.Native.Nat.{ℕ, ◌<◌, min}
use mathlib.Core.List.{List, [], ◌∷◌, map}
use mathlib.Core.Path.{◌≡◌, refl, sym, ap, ap₂, ◌∙◌}
use denote.Triple.Clauses.{AtExit}
use contract.Lifetimes.{Lfts}
use borrow.Fn.Kinds.{Dens, res_t, ended_of}
use lib.IntN.{ℤ}
use Rattle.consoles.specs.Tallies.{console_count, no_tallies, greatest}
use Rattle.verdict.specs.Answers.{Question, Reply, question, reply_of, reply}
use Rattle.verdict.specs.Sessions.{questions_of, given_in, view_from, session, Called}
use Rattle.verdict.specs.declared.Outcome.{Outcome}
use Rattle.verdict.proofs.Sessions.{own_questions, tally-counts}
use Rattle.verdict.proofs.verdict.Kinds as kinds
use Rattle.verdict.proofs.verdict.Reads as reads

-- what a caller learns of a call by the contract of `verdict` is what `Called` asks of it
pub learnt : (κs : Lfts 3) (a : Dens κs kinds.ps) (o : (res_t kinds.r κs).Denot) (s : AtExit (ended_of 3 kinds.ps kinds.r) κs) → reads.Learnt κs a o s → reply_of o ≡ reply a.0.now a.1.0.now a.1.1.0.now a.1.1.1.1.1.1.0.counts (question a.1.1.1.0 a.1.1.1.1.0 a.1.1.1.1.1.0)
learnt κs a o s p = p

module _ (ns cs : List ℕ) (vs : List ℤ) where
  -- the replies are the session
  pub calls-session : (ts : List ℕ) (qs : List Question) (os : List Outcome) → Called ns cs vs ts qs os → map reply_of os ≡ session ns cs vs ts qs
  unfolding session
  calls-session ts [] [] k = refl
  calls-session ts [] (o ∷ os) k = absurd k
  calls-session ts (q ∷ qs) [] k = absurd k
  calls-session ts (q ∷ qs) (o ∷ os) k = ap₂ (λ (r : Reply) (rs : List Reply). r ∷ rs) k.0 (calls-session o.tallies.counts qs os k.1 ∙ ap (λ (r : Reply). session ns cs vs r.tallies qs) k.0)

  -- of any two sequences of calls from eight zeros console c has the same answers and the same tally, if it put the same questions
  pub own_calls : (c : ℕ) (qs ps : List Question) (os us : List Outcome) → Called ns cs vs no_tallies qs os → Called ns cs vs no_tallies ps us → questions_of c qs ≡ questions_of c ps → view_from c no_tallies qs (map reply_of os) ≡ view_from c no_tallies ps (map reply_of us)
  own_calls c qs ps os us k h e =
      ap (view_from c no_tallies qs) (calls-session no_tallies qs os k)
      ∙ own_questions ns cs vs c qs ps e
      ∙ ap (view_from c no_tallies ps) (sym (calls-session no_tallies ps us h))

  -- and its tally is the number of its answered questions, up to the greatest
  pub calls-counted : (c : ℕ) (qs : List Question) (os : List Outcome) → Called ns cs vs no_tallies qs os → c < console_count → (view_from c no_tallies qs (map reply_of os)).tally ≡ min (given_in (view_from c no_tallies qs (map reply_of os)).answers) greatest
  calls-counted c qs os k l =
      let e = calls-session no_tallies qs os k in
      ap (λ (rs : List Reply). (view_from c no_tallies qs rs).tally) e ∙ tally-counts ns cs vs c qs l ∙ sym (ap (λ (rs : List Reply). min (given_in (view_from c no_tallies qs rs).answers) greatest) e)
