-- What a book answers to direct questions: demand 2, and document 02, Job 2.
use Rattle.std.specs.Prelude.{ℕ, min, List, map, Bool, cond, ◌&&◌, ltb, length}
use Rattle.consoles.specs.Tallies.{greatest}
use Rattle.model.specs.Answers.{Answer, refusal}
use Rattle.model.specs.Books.{Book, nodes, shapes, names, conforms_in}
use Rattle.verdict.specs.Answers.{Question, to_console}
use Rattle.verdict.specs.Sessions.{questions_of, given_in, View}

-- the node and the shape are in the book
abbrev pub in_book : Book → Question → Bool
in_book b q = ltb q.node (length (names nodes b)) && ltb q.shape (length (names shapes b))

-- 10 where they are not, then 11 for a console number above 7; else whether the node conforms to the shape
abbrev pub answer_in : Book → Question → Answer Bool
answer_in b q = cond (in_book b q) (to_console q (conforms_in b q.node q.shape)) (refusal 10 0)

-- console c's view of questions that are put from eight zeros on: by the book and its own questions only
abbrev pub view_in : Book → ℕ → List Question → View
view_in b c qs = let xs = map (answer_in b) (questions_of c qs) in record { answers = xs; tally = min (given_in xs) greatest }
