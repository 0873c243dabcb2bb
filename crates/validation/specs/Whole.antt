-- The whole run: what it answers, and what it leaves in the seven lent slices.
use Rattle.std.specs.Prelude.{ℕ, List, ◌++◌, cond, length, drop}
use Rattle.model.specs.Answers.{Answer, value, refusal, map_value}
use Rattle.model.specs.Books.{Book, sub_class_of, rules, list_of}
use Rattle.encoding.specs.Encode.{encode_cells, encode_values}
use Rattle.grammar.specs.Reading.{reading}
use Rattle.plan.specs.Layout.{plan_count}
use Rattle.translation.specs.Compile.{steps_of, plan_of}
use Rattle.reader.specs.Answers.{names_left, cells_left, values_left}
use Rattle.runner.specs.Run.{filled}
use Rattle.lists.specs.Rows.{with_rows, with_lengths}
use Rattle.validation.specs.Lent.{Lent, validate_long}
use Rattle.validation.specs.Claim.{rule_of}

-- the number of steps of a book's plan
abbrev pub steps_in : Book → ℕ
steps_in b = length (steps_of (encode_cells b))

-- ---- by the reading of the book
-- an accepted book: its tables, their plan, each step's set, and each rule's list at the front of its row; past these what was
-- there. A refused one: zeros in the tables up to their limits, all else as it was.
abbrev pub left : Answer Book → Lent → Lent
left (value b) l =
    record {
      names = names_left (value b) l.names;
      cells = cells_left (value b) l.cells;
      values = values_left (value b) l.values;
      plan = plan_of (encode_cells b) ++ drop plan_count l.plan;
      work = filled (sub_class_of b) (encode_cells b) (encode_values b) (plan_of (encode_cells b)) l.work;
      lists = with_rows (λ r. list_of b (rule_of b r)) (length (rules b)) l.lists;
      lengths = with_lengths (λ r. list_of b (rule_of b r)) (length (rules b)) l.lengths;
    }
left (refusal k line) l =
    record {
      names = names_left (refusal k line) l.names;
      cells = cells_left (refusal k line) l.cells;
      values = values_left (refusal k line) l.values;
      plan = l.plan;
      work = l.work;
      lists = l.lists;
      lengths = l.lengths;
    }

-- ---- for any bytes and any slices: 8, and nothing has changed; else by the reading
unfoldable pub validate_answer : List ℕ → Lent → Answer ℕ
validate_answer s l = cond (validate_long l) (map_value steps_in (reading s)) (refusal 8 0)

unfoldable pub after : List ℕ → Lent → Lent
after s l = cond (validate_long l) (left (reading s) l) l
