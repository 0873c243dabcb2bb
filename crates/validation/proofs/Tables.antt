-- What read leaves for a valid book: tables that are as_long enough, well formed, and say what the book says.
use Prim.Native.Nat.{ℕ, ◌≤◌}
use mathlib.Core.Path.{◌≡◌, ap, ◌∙◌}
use mathlib.Core.List.{List, [], ◌++◌}
use mathlib.Core.Bool.{true}
use native.Mathlib.Omega.{arith}
use lib.IntN.{ℤ}
use lib.ListN.{length, take, drop, length-append, length-drop}
use lib.Seq.{take_at}
use Rattle.model.specs.Answers.{value}
use Rattle.model.specs.Books.{Book, sub_class_of}
use Rattle.model.specs.Valid.{admissible}
use Rattle.tables.specs.Layout.{name_count, cell_count, value_count}
use Rattle.tables.specs.Names.{sub_class_at}
use Rattle.tables.specs.Sizes.{long_enough}
use Rattle.tables.specs.WellFormed.{well_formed}
use Rattle.tables.proofs.Sizes.{Long, as_long}
use Rattle.encoding.specs.Encode.{encode_names, encode_cells, encode_values}
use Rattle.encoding.proofs.Counts.{names-length, cells-length, values_length}
use Rattle.encoding.proofs.WellFormed.{well_formed_lem}
use Rattle.grammar.specs.Writing.{render}
use Rattle.grammar.specs.Valid.{valid}
use Rattle.grammar.specs.Reading.{reading}
use Rattle.grammar.proofs.Books.{reading_iff, valid-admissible}
use Rattle.reader.specs.Answers as reads
use Rattle.validation.specs.Lent.{lent}
use Rattle.validation.proofs.Whole.{names-left, cells_left_lem, values-left, Accepted, sub_of_lem, long_kept}

-- the front of a list replaced by one of the same length
same_length : {A : Type 0} (xs l : List A) (n : ℕ) → length xs ≡ n → n ≤ length l → length (xs ++ drop n l) ≡ length l
same_length xs l n e room = omega (arith, e, room, length-append xs (drop n l), length-drop n l)

module _ (s ns cs : List ℕ) (vs : List ℤ) (e : long_enough ns cs vs ≡ true) (b : Book) (v : valid b ≡ true) (r : render b ≡ s) where
  pub read_as : reading s ≡ value b
  read_as = (reading_iff s b).1 (v, r)

  pub fine : admissible b ≡ true
  fine = valid-admissible b v

  -- the three tables afterwards
  abbrev pub names' : List ℕ
  names' = reads.names_of s ns cs vs

  abbrev pub cells' : List ℕ
  cells' = reads.cells_of s ns cs vs

  abbrev pub values' : List ℤ
  values' = reads.values_of s ns cs vs

  names-are : names' ≡ encode_names b ++ drop name_count ns
  names-are = names-left s ns cs vs e (value b) read_as

  cells_are : cells' ≡ encode_cells b ++ drop cell_count cs
  cells_are = cells_left_lem s ns cs vs e (value b) read_as

  values-are : values' ≡ encode_values b ++ drop value_count vs
  values-are = values-left s ns cs vs e (value b) read_as

  pub cells_read : take cell_count cells' ≡ encode_cells b
  cells_read = ap (take cell_count) cells_are ∙ take_at (encode_cells b) (drop cell_count cs) cell_count (cells-length b)

  pub sub_read : sub_class_at (take name_count names') (take cell_count cells') ≡ sub_class_of b
  sub_read = let t : Accepted s (lent ns cs vs [] [] [] []) names' cells' values' = record { book = b; read = read_as; ok = v; names = names-are; cells = cells_are; values = values-are } in sub_of_lem t

  pub values_read : take value_count values' ≡ encode_values b
  values_read = ap (take value_count) values-are ∙ take_at (encode_values b) (drop value_count vs) value_count (values_length b)

  pub still-long : long_enough names' cells' values' ≡ true
  still-long =
      let l : Long ns cs vs = as_long ns cs vs e in
      long_kept ns names' cs cells' vs values' e
      (ap length names-are ∙ same_length (encode_names b) ns name_count (names-length b) l.names)
      (ap length cells_are ∙ same_length (encode_cells b) cs cell_count (cells-length b) l.cells)
      (ap length values-are ∙ same_length (encode_values b) vs value_count (values_length b) l.values)

  pub well_formed_read : well_formed (take cell_count cells') ≡ true
  well_formed_read = ap well_formed cells_read ∙ well_formed_lem b fine
