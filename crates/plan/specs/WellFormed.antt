-- Refusal 9 on plans: the grounds of document 01, and no others. A number not below its count, an unknown code (also a test
-- or `closed` step on an entry of another code), a step that uses one not before it, more than 512 steps, LO over 1,025 or HI
-- over its limit, a rule's step that is not one of the steps. What lies past a count is not looked at.
use Rattle.std.specs.Prelude.{ℕ, suc, List, [], Bool, true, false, ◌&&◌, ltb, leb}
use Rattle.base.specs.Bounded.{every}
use Rattle.model.specs.Limits.{max_count, max_steps}
use Rattle.model.specs.Graph.{holds}
use Rattle.tables.specs.Layout.{node_count, link_count, path_count, form_count, rule_count}
use Rattle.tables.specs.Decode.{entry_at}
use Rattle.tables.specs.WellFormed.{upper_ok, end_number_ok}
use Rattle.plan.specs.Steps.{Step}
use Rattle.plan.specs.Layout.{step_count, rule_step_at, step_at}
use Rattle.plan.specs.Sets.{test_of, links_of}

-- cs: the cells of the tables that the plan is for
module _ (cs : List ℕ) where
  -- form entry e is there, and is a test; is `closed`
  unfoldable pub test_ok : ℕ → Bool
  test_ok e = ltb e (form_count cs) && holds (λ t. true) (test_of cs (entry_at cs [] e))

  unfoldable pub closed_ok : ℕ → Bool
  closed_ok e = ltb e (form_count cs) && holds (λ ps. true) (links_of cs (entry_at cs [] e))

  -- step k
  unfoldable pub step_ok : ℕ → Step → Bool
  step_ok k Step.all = true
  step_ok k Step.none = true
  step_ok k (Step.is c) = ltb c (node_count cs)
  step_ok k (Step.isnot c) = ltb c (node_count cs)
  step_ok k (Step.test e) = test_ok e
  step_ok k (Step.untest e) = test_ok e
  step_ok k (Step.both i j) = ltb i k && ltb j k
  step_ok k (Step.either i j) = ltb i k && ltb j k
  step_ok k (Step.count p j lo hi) = (ltb p (path_count cs) && ltb j k) && (leb lo (suc max_count) && upper_ok cs hi)
  step_ok k (Step.every p j) = ltb p (path_count cs) && ltb j k
  step_ok k (Step.equal f l) = end_number_ok cs f && ltb l (link_count cs)
  step_ok k (Step.unequal f l) = end_number_ok cs f && ltb l (link_count cs)
  step_ok k (Step.apart f l) = end_number_ok cs f && ltb l (link_count cs)
  step_ok k (Step.meet f l) = end_number_ok cs f && ltb l (link_count cs)
  step_ok k (Step.closed e) = closed_ok e
  step_ok k (Step.opened e) = closed_ok e
  step_ok k (Step.less p l) = ltb p (path_count cs) && ltb l (link_count cs)
  step_ok k (Step.notless p l) = ltb p (path_count cs) && ltb l (link_count cs)
  step_ok k (Step.lesseq p l) = ltb p (path_count cs) && ltb l (link_count cs)
  step_ok k (Step.notlesseq p l) = ltb p (path_count cs) && ltb l (link_count cs)
  step_ok k (Step.onelang p) = ltb p (path_count cs)
  step_ok k (Step.manylang p) = ltb p (path_count cs)
  step_ok k (Step.from l) = ltb l (link_count cs)
  step_ok k (Step.into l) = ltb l (link_count cs)
  step_ok k (Step.typed c) = ltb c (node_count cs)
  step_ok k Step.bad = false

  unfoldable pub plan_well_formed : List ℕ → Bool
  plan_well_formed ps =
      leb (step_count ps) max_steps
      && (every (λ k. step_ok k (step_at ps k)) (step_count ps) && every (λ r. ltb (rule_step_at ps r) (step_count ps)) (rule_count cs))
