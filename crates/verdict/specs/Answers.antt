-- What the verdict answers to a direct question, in the words of document 01: yes or no, or a refusal's number and line; and the
-- tallies that are handed back, one for each console (document 02, Job 2).
use Rattle.std.specs.Prelude.{ℕ, List, Bool, true, cond, ◌&&◌, leb, ltb, ℤ, length, take}
use Rattle.consoles.specs.Tallies.{console_count, counted}
use Rattle.model.specs.Answers.{Answer, value, refusal, answer_of, checked_then, unless_refused}
use Rattle.model.specs.Shapes.{conforms}
use Rattle.tables.specs.Layout.{cell_count, value_count, node_count, shape_count, root_at}
use Rattle.tables.specs.Decode.{graph_at, shape_at}
use Rattle.tables.specs.WellFormed.{well_formed}
use Rattle.tables.specs.Sizes.{long_enough}
use Rattle.verdict.specs.declared.Outcome.{Outcome}

-- a direct question: the number of the console that puts it, of the node and of the shape
pub record Question : Type 0 where
  pub console : ℕ
  pub node : ℕ
  pub shape : ℕ

abbrev pub question : (console node shape : ℕ) → Question
question console node shape = record { console = console; node = node; shape = shape }

-- what is handed back: the answer, and the tallies
pub record Reply : Type 0 where
  pub answer : Answer Bool
  pub tallies : List ℕ

abbrev pub reply_of : Outcome → Reply
reply_of o = record { answer = answer_of o.answer; tallies = o.tallies.counts }

-- cells of tables in their limits: they have the node and the shape
abbrev pub has_both : List ℕ → Question → Bool
has_both cs q = ltb q.node (node_count cs) && ltb q.shape (shape_count cs)

-- the node conforms to the shape
abbrev pub conforms_at : List ℕ → List ℤ → Question → Bool
conforms_at cs vs q = conforms (graph_at cs vs) (shape_at cs vs (root_at cs q.shape)) q.node

-- the verdict, or 11 where the console number is above 7
abbrev pub to_console : Question → Bool → Answer Bool
to_console q b = cond (ltb q.console console_count) (value b) (refusal 11 0)

-- on tables in their limits: 9, then 10, then 11
unfoldable pub answer_on : List ℕ → List ℤ → Question → Answer Bool
answer_on cs vs q = checked_then true (well_formed cs) (has_both cs q) (to_console q (conforms_at cs vs q))

-- on lent tables and tallies, which count up to their limits: 8 comes first
unfoldable pub verdict_answer : List ℕ → List ℕ → List ℤ → List ℕ → Question → Answer Bool
verdict_answer ns cs vs ts q = cond (long_enough ns cs vs && leb console_count (length ts)) (answer_on (take cell_count cs) (take value_count vs) q) (refusal 8 0)

-- the tallies count verdicts given: one more for the console that asked; a refusal moves none
abbrev pub tallied : Answer Bool → (console : ℕ) → List ℕ → List ℕ
tallied x console ts = unless_refused x (counted console ts) ts

-- the answer with the tallies that came with the question
abbrev pub replied : Answer Bool → (console : ℕ) → List ℕ → Reply
replied x console ts = record { answer = x; tallies = tallied x console ts }

-- the reply to a question that comes with the tallies ts
abbrev pub reply : List ℕ → List ℕ → List ℤ → List ℕ → Question → Reply
reply ns cs vs ts q = replied (verdict_answer ns cs vs ts q) q.console ts
