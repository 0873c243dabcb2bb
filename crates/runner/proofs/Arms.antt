-- The arms of the match over the step codes: what each makes is what the step that has that code asks for.
use Prim.Native.Nat.{ℕ, ◌≤◌}
use mathlib.Core.List.{List}
use mathlib.Core.Path.{◌≡◌, refl, sym, ap, ◌∙◌}
use lib.ListN.{get_or-eq_default}
use Rattle.model.specs.declared.NodeNo.{NodeNo}
use Rattle.model.specs.declared.LinkNo.{LinkNo}
use Rattle.plan.specs.Steps.{step_of, step_unknown}
use Rattle.plan.specs.Layout.{step_at, step_code_at, step_first_at, step_second_at, step_third_at, step_fourth_at}
use Rattle.paths.specs.declared.End.{End}
use Rattle.entries.specs.Tables.{end_for}
use Rattle.runner.specs.declared.Kind.{Kind}
use Rattle.runner.specs.declared.Kind.TheVariants.{Empty}
use Rattle.runner.specs.Kinds.{node, link, kind_of}

-- what has been read where the match begins: the step's code and operands
pub record Read : Type 0 where
  pub ps : List ℕ
  pub k : ℕ
  pub a : ℕ
  pub b : ℕ
  pub lo : ℕ
  pub hi : ℕ
  pub c : NodeNo
  pub p : LinkNo
  pub l : LinkNo
  pub end : End
  pub code : ℕ
  pub first : a ≡ step_first_at ps k
  pub second : b ≡ step_second_at ps k
  pub third : lo ≡ step_third_at ps k
  pub fourth : hi ≡ step_fourth_at ps k
  pub first-node : c.0 ≡ step_first_at ps k
  pub first-link : p.0 ≡ step_first_at ps k
  pub second-link : l.0 ≡ step_second_at ps k
  pub at : end ≡ end_for a
  pub same : code ≡ step_code_at ps k

module _ (h : Read) where
  -- what the step asks for, if its code were this
  abbrev by : ℕ → Kind
  by code = kind_of (step_of code h.a h.b h.lo h.hi)

  -- an arm, by its code
  pub arm : {code : ℕ} {r : Kind} → h.code ≡ code → r ≡ by code → r ≡ kind_of (step_at h.ps h.k)
  unfolding step_at
  arm e q = q ∙ ap by (sym e) ∙ (λ i. kind_of (step_of (h.same i) (h.first i) (h.second i) (h.third i) (h.fourth i)))

  -- an unknown code asks for no node
  pub arm_unknown : step_unknown ≤ h.code → Empty ≡ kind_of (step_at h.ps h.k)
  unfolding step_of kind_of
  arm_unknown low = arm refl (rw get_or-eq_default)

  -- the operands as node and link
  pub by_node_lem : (f : NodeNo → Kind) → f h.c ≡ f (node h.a)
  by_node_lem f = ap (λ (x : ℕ). f (node x)) (h.first-node ∙ sym h.first)

  pub by_link : (f : LinkNo → Kind) → f h.p ≡ f (link h.a)
  by_link f = ap (λ (x : ℕ). f (link x)) (h.first-link ∙ sym h.first)

  pub by_second : (f : LinkNo → Kind) → f h.l ≡ f (link h.b)
  by_second f = ap (λ (x : ℕ). f (link x)) (h.second-link ∙ sym h.second)

  pub by_ends : (f : End → LinkNo → Kind) → f h.end h.l ≡ f (end_for h.a) (link h.b)
  by_ends f = λ i. f (h.at i) (link ((h.second-link ∙ sym h.second) i))
