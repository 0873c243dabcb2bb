-- What the program writes for an accepted book, part after part, is the report of the book.
use Prim.Native.Nat.{ℕ, ◌+◌}
use mathlib.Core.Path.{◌≡◌, ap, ◌∙◌}
use mathlib.Core.List.{List}
use mathlib.Core.Bool.{true}
use native.Mathlib.Omega.{arith}
use lib.ListN.{length, take, drop}
use lib.Seq.{take_at}
use Rattle.model.specs.Answers.{value}
use Rattle.model.specs.Books.{Book, rules}
use Rattle.tables.specs.Layout.{name_count, cell_count}
use Rattle.encoding.specs.Encode.{encode_cells}
use Rattle.encoding.proofs.Counts.{cells-length}
use Rattle.grammar.specs.Writing.{render}
use Rattle.grammar.specs.Valid.{valid}
use Rattle.grammar.proofs.Books.{reading_iff, valid-admissible}
use Rattle.validation.specs.Lent.{Lent, validate_long}
use Rattle.validation.specs.Whole.{left, after}
use Rattle.validation.proofs.Books.{few-rules}
use Rattle.validation.proofs.Whole.{Room, room}
use Rattle.report.specs.Report.{report, parts_joined}
use Rattle.report.specs.Pages.{part_in}
use Rattle.report.proofs.Book.{holds_rows, report_read}

-- the parts by the slices m, one after the other; n rules
abbrev pub written : Lent → ℕ → List ℕ
written m n = parts_joined (part_in m.names (take cell_count m.cells) m.lists m.lengths) (n + 2)

pub program_report : (s : List ℕ) (l : Lent) → validate_long l ≡ true → (b : Book) → valid b ≡ true → render b ≡ s → written (after s l) (length (rules b)) ≡ report b
unfolding after
program_report s l e b v r =
    rw (e, (reading_iff s b).1 (v, r))
    (let fits : Room l = room l e in
    let few = few-rules b (valid-admissible b v) in
    let m : Lent = left (value b) l in
    ap (λ c. parts_joined (part_in m.names c m.lists m.lengths) (length (rules b) + 2)) (take_at (encode_cells b) (drop cell_count l.cells) cell_count (cells-length b))
    ∙ report_read b v m.lists m.lengths (holds_rows b v l.lists l.lengths (omega (arith, fits.lists, few)) (omega (arith, fits.lengths, few))) (drop name_count l.names))
