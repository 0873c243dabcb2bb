-- Demand 3: one claim, from the bytes of a book to the lists of all its rules.
-- It rests on what a book says and means (model), how it is written (grammar: `render`, `valid`), its tables (encoding), the plan
-- of tables (translation: `plan_of`), the set of each step (plan: `set_at`, in words by runner: `set_words`), a list read off the
-- work space (lists: `list_in`, `row_in`) and how long the lent slices must be (`validate_long`).
use Rattle.std.specs.Prelude.{ℕ, ◌+◌, ◌*◌, ◌<◌, ◌≤◌, ◌≡◌, List, Bool, true, false, ◌&&◌, ltb, length, take, drop, get_or}
use Rattle.base.specs.Lists.{member, ascending}
use Rattle.model.specs.Answers.{Answer, value, refusal}
use Rattle.model.specs.Rules.{Rule, violates, no_rule}
use Rattle.model.specs.Books.{Book, sub_class_of, graph_of, schema, rules}
use Rattle.model.specs.Sizes.{forms_in}
use Rattle.grammar.specs.Writing.{render}
use Rattle.grammar.specs.Valid.{valid}
use Rattle.encoding.specs.Encode.{encode_names, encode_cells, encode_values}
use Rattle.plan.specs.Layout.{step_count}
use Rattle.translation.specs.Compile.{plan_of}
use Rattle.runner.specs.Run.{set_words}
use Rattle.lists.specs.Rows.{list_in, row_in}
use Rattle.validation.specs.Lent.{Lent, validate_long, names_in, cells_in, values_in, plan_in, sub_class_in}

-- rule r of a book, by its order among the rule lines
abbrev pub rule_of : Book → ℕ → Rule
rule_of b r = get_or (rules b) r no_rule

-- v is a node of the book that violates the rule: the rule selects it, and it does not conform to the rule's shape
abbrev pub violates_in : Book → Rule → ℕ → Bool
violates_in b q v = ltb v (graph_of b).nodes && violates (sub_class_of b) (graph_of b) (schema b) q v

-- what the book b should get: what is left in the slices, and the number of steps
pub record Right (b : Book) (after : Lent) (steps : ℕ) : Type 0 where
  -- the tables are the book's
  pub names : names_in after ≡ encode_names b
  pub cells : cells_in after ≡ encode_cells b
  pub values : values_in after ≡ encode_values b
  -- the plan is the compiler's plan of these tables
  pub planned : plan_in after ≡ plan_of (cells_in after)
  -- each step's sixteen words of the work space are its set
  pub ran : (k : ℕ) → k < steps → take 16 (drop (16 * k) after.work) ≡ set_words (sub_class_in after) (cells_in after) (values_in after) (plan_in after) k
  -- each rule's list is read off the words of the rule's step
  pub read_off : (r : ℕ) → r < length (rules b) → row_in after.lists after.lengths r ≡ list_in (cells_in after) (plan_in after) after.work r
  -- under each rule a node is listed exactly when the rule selects it and it does not conform to the shape
  pub exactly : (r : ℕ) → r < length (rules b) → (v : ℕ) → member v (row_in after.lists after.lengths r) ≡ violates_in b (rule_of b r) v
  -- each node once, in book order
  pub ordered : (r : ℕ) → r < length (rules b) → ascending (row_in after.lists after.lengths r) ≡ true
  -- the number of steps is the plan's, at most four for each form entry and two for each rule
  pub counted : step_count (plan_in after) ≡ steps
  pub few : steps ≤ 4 * forms_in b + 2 * length (rules b)

-- what is answered for the book b and left in the slices is right; the one refusal is 8, exactly where a slice is too short, and
-- then nothing has changed
abbrev pub Answers : Book → (before : Lent) → Answer ℕ → (after : Lent) → Type 0
Answers b before (value steps) after = (validate_long before ≡ true) × Right b after steps
Answers b before (refusal number line) after = (validate_long before ≡ false) × (number ≡ 8) × (line ≡ 0) × (after ≡ before)

-- the claim: for every valid book with these bytes, whatever the slices held before
abbrev pub Demand3 : List ℕ → (before : Lent) → Answer ℕ → (after : Lent) → Type 0
Demand3 s before answer after = (b : Book) → valid b ≡ true → render b ≡ s → Answers b before answer after
