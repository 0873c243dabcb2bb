-- The answer and the tables of a call: by whether the tables are long enough, and by the reading.
use Prim.Native.Nat.{ℕ}
use mathlib.Core.Path.{◌≡◌}
use mathlib.Core.List.{List}
use mathlib.Core.Bool.{true, false}
use lib.IntN.{ℤ}
use Rattle.model.specs.Answers.{Answer, refusal, map_value}
use Rattle.tables.specs.Sizes.{long_enough}
use Rattle.grammar.specs.Reading.{reading}
use Rattle.model.specs.Sizes.{counts_in}
use Rattle.model.specs.declared.Counts.{Counts}
use Rattle.reader.specs.Answers.{names_left, cells_left, values_left, read_answer, names_of, cells_of, values_of}

module _ (s ns cs : List ℕ) (vs : List ℤ) where
  -- x: the answer, then each table afterwards
  abbrev pub Answered : Answer Counts → List ℕ → List ℕ → List ℤ → Type 0
  Answered x ns' cs' vs' = (x ≡ read_answer s ns cs vs) × ((ns' ≡ names_of s ns cs vs) × ((cs' ≡ cells_of s ns cs vs) × (vs' ≡ values_of s ns cs vs)))

  pub answered_short : long_enough ns cs vs ≡ false → Answered (refusal 8 0) ns cs vs
  unfolding read_answer names_of cells_of values_of
  answered_short e = (rw e, (rw e, (rw e, rw e)))

  pub answered_long : long_enough ns cs vs ≡ true → (x : Answer Counts) (ns' cs' : List ℕ) (vs' : List ℤ) → x ≡ map_value counts_in (reading s) → ns' ≡ names_left (reading s) ns → cs' ≡ cells_left (reading s) cs → vs' ≡ values_left (reading s) vs → Answered x ns' cs' vs'
  unfolding read_answer names_of cells_of values_of
  answered_long e x ns' cs' vs' p q r t = (rw e p, (rw e q, (rw e r, rw e t)))
