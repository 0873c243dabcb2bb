-- What the functions of this crate leave in a lent plan while it is filled. Nothing here is promised to a caller.
use Rattle.std.specs.Prelude.{ℕ, ◌+◌, ◌≤◌, List, [], ◌∷◌, ◌≡◌, get_or, length, set}
use Rattle.model.specs.Limits.{max_forms, max_rules}
use Rattle.tables.specs.Layout.{form_count, rule_count}
use Rattle.tables.specs.Decode.{rule_at}
use Rattle.plan.specs.Steps.{Step}
use Rattle.plan.specs.Layout.{plan_count, rule_steps, with_numbers, with_steps}
use Rattle.translation.specs.Compile.{Part, made, target_step}
use Rattle.compiler.specs.declared.Pair.{Pair}
use Rattle.compiler.specs.declared.pairs.Pairs.{Pairs}

-- the steps of an entry with an unknown code
abbrev pub no_pair : Pair
no_pair = record { keep = 0; breaking = 0 }

-- the number of entry j's keeping step, and of its breaking one; 0 past the end
abbrev pub keep_of : Pairs → ℕ → ℕ
keep_of ps j = get_or ps.keeps j 0

abbrev pub break_of : Pairs → ℕ → ℕ
break_of ps j = get_or ps.breaks j 0

-- qs is ps with two steps from n on, given by their numbers; next is the next step's number, k and m those of the two
pub record TwoAdded (ps qs : List ℕ) (n : ℕ) (xs ys : List ℕ) (next k m : ℕ) : Type 0 where
  pub stored : qs ≡ with_numbers (with_numbers ps n xs) (n + 1) ys
  pub after : next ≡ n + 2
  pub keeps : k ≡ n
  pub breaks : m ≡ n + 1

-- qs is ps with the part of an entry from n on
pub record Added (ps qs : List ℕ) (n : ℕ) (x : Part) (next k m : ℕ) : Type 0 where
  pub stored : qs ≡ with_steps ps n x.steps
  pub after : next ≡ n + length x.steps
  pub keeps : k ≡ x.keep
  pub breaks : m ≡ x.breaking

-- qs is ps with the steps of the entries below e; n is the next step's number, and pairs has each entry's two
pub record FormsAdded (cs ps qs : List ℕ) (e n : ℕ) (pairs : Pairs) : Type 0 where
  pub stored : qs ≡ with_steps ps 0 (made cs e).steps
  pub after : n ≡ length (made cs e).steps
  pub keeps : (j : ℕ) → keep_of pairs j ≡ (made cs e).keep j
  pub breaks : (j : ℕ) → break_of pairs j ≡ (made cs e).breaking j

-- ps with the two steps of rule r from n on, and its step's number; b is the step of the shape's breaks
unfoldable pub rule_stored : List ℕ → List ℕ → ℕ → ℕ → ℕ → List ℕ
rule_stored cs ps r n b = set (with_steps ps n (target_step (rule_at cs r).target ∷ Step.both n b ∷ [])) (rule_steps + r) (n + 1)

-- what a function that fills a plan asks for
pub record RoomForPlan (cs ps : List ℕ) : Type 0 where
  pub plan : plan_count ≤ length ps
  pub forms : form_count cs ≤ max_forms
  pub rules : rule_count cs ≤ max_rules
