-- Where everything stands in a lent plan (16-bit cells): the number of steps, per rule its step, then per step its code and
-- four operands. A column begins where the one before it ends.
use Rattle.std.specs.Prelude.{ℕ, ◌+◌, List, [], ◌∷◌, ◌++◌, map, get_or, length, set}
use Rattle.base.specs.Columns.{Column, flat}
use Rattle.model.specs.Limits.{max_rules, max_steps}
use Rattle.plan.specs.Steps.{Step, step_of, numbers_of}

abbrev pub rule_steps : ℕ
rule_steps = 1

abbrev pub step_codes : ℕ
step_codes = rule_steps + max_rules

abbrev pub step_firsts : ℕ
step_firsts = step_codes + max_steps

abbrev pub step_seconds : ℕ
step_seconds = step_firsts + max_steps

abbrev pub step_thirds : ℕ
step_thirds = step_seconds + max_steps

abbrev pub step_fourths : ℕ
step_fourths = step_thirds + max_steps

-- how many cells there are
abbrev pub plan_count : ℕ
plan_count = step_fourths + max_steps

-- ---- what stands at a place
abbrev pub step_count : List ℕ → ℕ
step_count ps = get_or ps 0 0

abbrev pub rule_step_at : List ℕ → ℕ → ℕ
rule_step_at ps r = get_or ps (rule_steps + r) 0

abbrev pub step_code_at : List ℕ → ℕ → ℕ
step_code_at ps k = get_or ps (step_codes + k) 0

abbrev pub step_first_at : List ℕ → ℕ → ℕ
step_first_at ps k = get_or ps (step_firsts + k) 0

abbrev pub step_second_at : List ℕ → ℕ → ℕ
step_second_at ps k = get_or ps (step_seconds + k) 0

abbrev pub step_third_at : List ℕ → ℕ → ℕ
step_third_at ps k = get_or ps (step_thirds + k) 0

abbrev pub step_fourth_at : List ℕ → ℕ → ℕ
step_fourth_at ps k = get_or ps (step_fourths + k) 0

unfoldable pub step_at : List ℕ → ℕ → Step
step_at ps k = step_of (step_code_at ps k) (step_first_at ps k) (step_second_at ps k) (step_third_at ps k) (step_fourth_at ps k)

-- ---- the cells of a plan: how many steps it says it has, the rules' steps, the steps; unused places are zero
abbrev pub step_column : List Step → ℕ → Column ℕ
step_column ss i = record { width = max_steps; items = map (λ s. get_or (numbers_of s) i 0) ss }

abbrev pub plan_columns : List ℕ → List ℕ → List Step → List (Column ℕ)
plan_columns counts rules ss =
    record { width = 1; items = counts }
    ∷ record { width = max_rules; items = rules }
    ∷ step_column ss 0
    ∷ step_column ss 1
    ∷ step_column ss 2
    ∷ step_column ss 3
    ∷ step_column ss 4
    ∷ []

-- a plan with these columns, and t past them
abbrev pub laid : List ℕ → List ℕ → List ℕ → List Step → List ℕ
laid t counts rules ss = flat 0 (plan_columns counts rules ss) ++ t

-- ---- stores: a code and four operands as step k; steps from number k on
unfoldable pub with_numbers : List ℕ → ℕ → List ℕ → List ℕ
with_numbers ps k xs =
    set
    (set (set (set (set ps (step_codes + k) (get_or xs 0 0)) (step_firsts + k) (get_or xs 1 0)) (step_seconds + k) (get_or xs 2 0)) (step_thirds + k) (get_or xs 3 0))
    (step_fourths + k) (get_or xs 4 0)

unfoldable pub with_steps : List ℕ → ℕ → List Step → List ℕ
with_steps ps k [] = ps
with_steps ps k (s ∷ ss) = with_steps (with_numbers ps k (numbers_of s)) (k + 1) ss

-- ---- the whole plan
unfoldable pub plan_cells : List Step → List ℕ → List ℕ
plan_cells ss rules = flat 0 (plan_columns (length ss ∷ []) rules ss)
