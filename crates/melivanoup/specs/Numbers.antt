-- What an answer says in numbers, beside its refusal's number and line, which are 0 where there is none.
use Rattle.std.specs.Prelude.{ℕ, Bool, true, false, cond, eqb}
use Rattle.model.specs.Answers.{Answer, value, refusal}
use Rattle.model.specs.Nearest.{Nearest, at, no_spare}

-- a verdict: 1 where the node conforms
abbrev pub one_if : Bool → ℕ
one_if b = cond b 1 0

-- a spare: whether there is one, how many repetitions away, and its number, both 0 where there is none
abbrev pub found_in : Nearest → Bool
found_in (at hops node) = true
found_in no_spare = false

abbrev pub hops_in : Nearest → ℕ
hops_in (at hops node) = hops
hops_in no_spare = 0

abbrev pub node_in : Nearest → ℕ
node_in (at hops node) = node
node_in no_spare = 0

-- what number, line and value say together
abbrev pub answer_by : {A : Type 0} → (number line : ℕ) → A → Answer A
answer_by number line a = cond (eqb number 0) (value a) (refusal number line)
