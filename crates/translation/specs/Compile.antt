-- The plan of the tables: document 01's table. For every form entry, in stored order, the keeping and then the breaking
-- steps; then for every rule its target's step, and Both of it and the shape's breaks.
use Rattle.std.specs.Prelude.{ℕ, zero, suc, ◌+◌, ◌-◌, Bool, true, false, cond, List, [], ◌∷◌, ◌++◌, eqb, length}
use Rattle.base.specs.Lists.{values}
use Rattle.model.specs.Rules.{Target, target_node, subjects_of, objects_of, target_class}
use Rattle.tables.specs.Layout.{no_number, form_count, rule_count, root_at, rule_shape_at}
use Rattle.tables.specs.Entries.{Entry}
use Rattle.tables.specs.Decode.{entry_at, rule_at}
use Rattle.plan.specs.Steps.{Step}
use Rattle.plan.specs.Layout.{plan_cells}

-- the steps of one entry, and the numbers of two steps: of the nodes that keep it, and of those that break it
pub record Part : Type 0 where
  pub steps : List Step
  pub keep : ℕ
  pub breaking : ℕ

-- no step of its own: the numbers of two earlier ones
abbrev pub taken : ℕ → ℕ → Part
taken k b = record { steps = []; keep = k; breaking = b }

-- s: the number of the next step
module _ (s : ℕ) where
  -- a keeping step and a breaking one
  abbrev pub two : Step → Step → Part
  two x y = record { steps = x ∷ y ∷ []; keep = s; breaking = s + 1 }

  -- a count of the members of step j and how it breaks, by whether LO is 0 and whether HI is `*`: never; above HI; below LO;
  -- below LO or above HI
  unfoldable pub count_way : Bool → Bool → ℕ → ℕ → ℕ → ℕ → Part
  count_way true true p j lo hi = two (Step.count p j lo hi) Step.none
  count_way true false p j lo hi = two (Step.count p j lo hi) (Step.count p j (hi + 1) no_number)
  count_way false true p j lo hi = two (Step.count p j lo hi) (Step.count p j 0 (lo - 1))
  count_way false false p j lo hi = record {
    steps = Step.count p j lo hi ∷ Step.count p j 0 (lo - 1) ∷ Step.count p j (hi + 1) no_number ∷ Step.either (s + 1) (s + 2) ∷ [];
    keep = s;
    breaking = s + 3;
  }

  unfoldable pub count_part : ℕ → ℕ → ℕ → ℕ → Part
  count_part p j lo hi = count_way (eqb lo 0) (eqb hi no_number) p j lo hi

-- keep and breaking: the two step numbers of each earlier entry; s: the number of the next step; e: the entry's own number
module _ (cs : List ℕ) (keep breaking : ℕ → ℕ) (s e : ℕ) where
  -- a line for each row of the table; `not` swaps its child's two, and `shape` takes that shape's
  unfoldable pub entry_part : Entry → Part
  entry_part Entry.top = two s Step.all Step.none
  entry_part (Entry.is c) = two s (Step.is c) (Step.isnot c)
  entry_part (Entry.shape n) = taken (keep (root_at cs n)) (breaking (root_at cs n))
  entry_part (Entry.conj a b) = two s (Step.both (keep a) (keep b)) (Step.either (breaking a) (breaking b))
  entry_part (Entry.disj a b) = two s (Step.either (keep a) (keep b)) (Step.both (breaking a) (breaking b))
  entry_part (Entry.neg a) = taken (breaking a) (keep a)
  entry_part (Entry.kind k) = two s (Step.test e) (Step.untest e)
  entry_part (Entry.datatype t) = two s (Step.test e) (Step.untest e)
  entry_part (Entry.lang i n) = two s (Step.test e) (Step.untest e)
  entry_part (Entry.from x) = two s (Step.test e) (Step.untest e)
  entry_part (Entry.above x) = two s (Step.test e) (Step.untest e)
  entry_part (Entry.to x) = two s (Step.test e) (Step.untest e)
  entry_part (Entry.under x) = two s (Step.test e) (Step.untest e)
  entry_part (Entry.count p a lo hi) = count_part s p (keep a) lo hi
  entry_part (Entry.all p a) = two s (Step.every p (keep a)) (Step.count p (breaking a) 1 no_number)
  entry_part (Entry.equal f l) = two s (Step.equal f l) (Step.unequal f l)
  entry_part (Entry.apart f l) = two s (Step.apart f l) (Step.meet f l)
  entry_part (Entry.closed i n) = two s (Step.closed e) (Step.opened e)
  entry_part (Entry.less p l) = two s (Step.less p l) (Step.notless p l)
  entry_part (Entry.lesseq p l) = two s (Step.lesseq p l) (Step.notlesseq p l)
  entry_part (Entry.onelang p) = two s (Step.onelang p) (Step.manylang p)
  entry_part Entry.bad = taken 0 0

-- the steps of the entries so far, and the two step numbers of each
pub record Made : Type 0 where
  pub steps : List Step
  pub keep : ℕ → ℕ
  pub breaking : ℕ → ℕ

-- f with x at n
unfoldable pub put_at : (ℕ → ℕ) → ℕ → ℕ → ℕ → ℕ
put_at f n x j = cond (eqb j n) x (f j)

-- the part of entry n is added
unfoldable pub more : Made → ℕ → Part → Made
more m n x = record { steps = m.steps ++ x.steps; keep = put_at m.keep n x.keep; breaking = put_at m.breaking n x.breaking }

-- the entries below n; V is not looked at
unfoldable pub made : List ℕ → ℕ → Made
made cs zero = record { steps = []; keep = λ j. 0; breaking = λ j. 0 }
made cs (suc n) = more (made cs n) n (entry_part cs (made cs n).keep (made cs n).breaking (length (made cs n).steps) n (entry_at cs [] n))

unfoldable pub target_step : Target → Step
target_step (target_node c) = Step.is c
target_step (subjects_of l) = Step.from l
target_step (objects_of l) = Step.into l
target_step (target_class c) = Step.typed c

-- the two steps of rule r; s is the number of the first
unfoldable pub steps_of_rule : List ℕ → ℕ → ℕ → List Step
steps_of_rule cs r s = target_step (rule_at cs r).target ∷ Step.both s ((made cs (form_count cs)).breaking (root_at cs (rule_shape_at cs r))) ∷ []

-- the steps of all entries and of the rules below r
unfoldable pub steps_to : List ℕ → ℕ → List Step
steps_to cs zero = (made cs (form_count cs)).steps
steps_to cs (suc r) = steps_to cs r ++ steps_of_rule cs r (length (steps_to cs r))

-- all steps of the plan, and the step whose set is the list of rule r: its Both
unfoldable pub steps_of : List ℕ → List Step
steps_of cs = steps_to cs (rule_count cs)

unfoldable pub rule_step : List ℕ → ℕ → ℕ
rule_step cs r = length (steps_to cs r) + 1

-- the cells of the plan
unfoldable pub plan_of : List ℕ → List ℕ
plan_of cs = plan_cells (steps_of cs) (values (rule_step cs) (rule_count cs))
