-- What a book answers to the question for the nearest spare (document 02, Job 11).
use Rattle.std.specs.Prelude.{ℕ, Bool, cond, ◌&&◌, ltb, length}
use Rattle.model.specs.Answers.{Answer, value, refusal}
use Rattle.model.specs.Books.{Book, shapes, names}
use Rattle.model.specs.Nearest.{Nearest, nearest_in}
use Rattle.validation.specs.Rounds.{both_in_book}

-- the node, the path and the shape are in the book
abbrev pub all_in_book : Book → (node path shape : ℕ) → Bool
all_in_book b node path shape = both_in_book b node path && ltb shape (length (names shapes b))

-- 10 where they are not; else the nearest
abbrev pub nearest_answer_in : Book → (node path shape : ℕ) → Answer Nearest
nearest_answer_in b node path shape = cond (all_in_book b node path shape) (value (nearest_in b node path shape)) (refusal 10 0)
