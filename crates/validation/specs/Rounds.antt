-- What a book answers to the question how many rounds a search takes (document 02, Job 7).
use Rattle.std.specs.Prelude.{ℕ, Bool, cond, ◌&&◌, ltb, length}
use Rattle.model.specs.Answers.{Answer, value, refusal}
use Rattle.model.specs.Books.{Book, nodes, names}
use Rattle.model.specs.PathNumbers.{book_paths}
use Rattle.model.specs.Rounds.{rounds_in}

-- the node and the path are in the book
abbrev pub both_in_book : Book → (node path : ℕ) → Bool
both_in_book b node path = ltb node (length (names nodes b)) && ltb path (length (book_paths b))

-- 10 where they are not; else the rounds
abbrev pub rounds_answer_in : Book → (node path : ℕ) → Answer ℕ
rounds_answer_in b node path = cond (both_in_book b node path) (value (rounds_in b node path)) (refusal 10 0)
