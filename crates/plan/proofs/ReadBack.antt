-- What the cells of a plan say is what was put there, whatever stands past them.
use Prim.Native.Nat.{ℕ, ◌+◌, ◌<◌}
use mathlib.Core.List.{List, [], ◌∷◌, ◌++◌}
use mathlib.Core.Path.{◌≡◌, refl, ◌∙◌}
use native.Mathlib.Omega.{arith}
use lib.ListN.{length, get_or, get_or-append, get_or-map}
use Rattle.base.specs.Columns.{Column, flat, offset, column}
use Rattle.base.proofs.Columns.{at-flat, length-flat}
use Rattle.model.specs.Limits.{max_rules, max_steps}
use Rattle.plan.specs.Steps.{Step, all, none, is, isnot, test, untest, both, either, count, every, equal, unequal, apart, meet, closed, opened, less, notless, lesseq, notlesseq, onelang, manylang, from, into, typed, bad, step_of, numbers_of}
use Rattle.plan.specs.Layout.{plan_columns, plan_cells, plan_count, step_count, rule_step_at, step_at, step_codes, step_firsts, step_seconds, step_thirds, step_fourths}
use Rattle.plan.proofs.Stores.{column_in}

-- a step is its code and operands
step-numbers : (s : Step) → step_of (get_or (numbers_of s) 0 0) (get_or (numbers_of s) 1 0) (get_or (numbers_of s) 2 0) (get_or (numbers_of s) 3 0) (get_or (numbers_of s) 4 0) ≡ s
unfolding step_of numbers_of
step-numbers all = refl
step-numbers none = refl
step-numbers (is c) = refl
step-numbers (isnot c) = refl
step-numbers (test e) = refl
step-numbers (untest e) = refl
step-numbers (both i j) = refl
step-numbers (either i j) = refl
step-numbers (count p j lo hi) = refl
step-numbers (every p j) = refl
step-numbers (equal p l) = refl
step-numbers (unequal p l) = refl
step-numbers (apart p l) = refl
step-numbers (meet p l) = refl
step-numbers (closed e) = refl
step-numbers (opened e) = refl
step-numbers (less p l) = refl
step-numbers (notless p l) = refl
step-numbers (lesseq p l) = refl
step-numbers (notlesseq p l) = refl
step-numbers (onelang p) = refl
step-numbers (manylang p) = refl
step-numbers (from l) = refl
step-numbers (into l) = refl
step-numbers (typed c) = refl
step-numbers bad = refl

-- what stands at place i of column k, with t past the columns
at-column : (cs : List (Column ℕ)) (t : List ℕ) (k i : ℕ) → i < (column cs k).width → get_or (flat 0 cs ++ t) (offset cs k + i) 0 ≡ get_or (column cs k).items i 0
at-column cs t k i l = get_or-append (flat 0 cs) t 0 (offset cs k + i) (omega (arith, column_in cs k, length-flat 0 cs)) ∙ at-flat 0 cs k i l

pub length-plan : (ss : List Step) (rules : List ℕ) → length (plan_cells ss rules) ≡ plan_count
unfolding plan_cells
length-plan ss rules = length-flat 0 (plan_columns (length ss ∷ []) rules ss)

module _ (ss : List Step) (rules t : List ℕ) where
  pub read_count : step_count (plan_cells ss rules ++ t) ≡ length ss
  unfolding plan_cells
  read_count = at-column (plan_columns (length ss ∷ []) rules ss) t 0 0 (omega arith)

  pub read_rule : (r : ℕ) → r < max_rules → rule_step_at (plan_cells ss rules ++ t) r ≡ get_or rules r 0
  unfolding plan_cells
  read_rule r l = at-column (plan_columns (length ss ∷ []) rules ss) t 1 r l

  -- past the last step the cells are zero, which is step All
  pub read_step : (k : ℕ) → k < max_steps → step_at (plan_cells ss rules ++ t) k ≡ get_or ss k all
  unfolding plan_cells step_at numbers_of
  read_step k l =
      let cols : List (Column ℕ) = plan_columns (length ss ∷ []) rules ss in
      let e0 : get_or (flat 0 cols ++ t) (step_codes + k) 0 ≡ get_or (numbers_of (get_or ss k all)) 0 0 = at-column cols t 2 k l ∙ get_or-map (λ s. get_or (numbers_of s) 0 0) ss k all in
      let e1 : get_or (flat 0 cols ++ t) (step_firsts + k) 0 ≡ get_or (numbers_of (get_or ss k all)) 1 0 = at-column cols t 3 k l ∙ get_or-map (λ s. get_or (numbers_of s) 1 0) ss k all in
      let e2 : get_or (flat 0 cols ++ t) (step_seconds + k) 0 ≡ get_or (numbers_of (get_or ss k all)) 2 0 = at-column cols t 4 k l ∙ get_or-map (λ s. get_or (numbers_of s) 2 0) ss k all in
      let e3 : get_or (flat 0 cols ++ t) (step_thirds + k) 0 ≡ get_or (numbers_of (get_or ss k all)) 3 0 = at-column cols t 5 k l ∙ get_or-map (λ s. get_or (numbers_of s) 3 0) ss k all in
      let e4 : get_or (flat 0 cols ++ t) (step_fourths + k) 0 ≡ get_or (numbers_of (get_or ss k all)) 4 0 = at-column cols t 6 k l ∙ get_or-map (λ s. get_or (numbers_of s) 4 0) ss k all in
      (λ i. step_of (e0 i) (e1 i) (e2 i) (e3 i) (e4 i)) ∙ step-numbers (get_or ss k all)
