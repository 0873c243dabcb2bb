use mathlib.Core.Path.{◌≡◌, sym, ap, ◌∙◌}
use mathlib.Core.Bool.{true}
use borrow.Author.Tests.{not-true, not-false}
use Rattle.model.specs.Answers.{Answer, map_value}
use Rattle.model.specs.Books.{Book}
use Rattle.tables.specs.Sizes.{long_enough}
use Rattle.tables.proofs.Sizes.{Long, as_long}
use Rattle.model.specs.Sizes.{counts_in}
use Rattle.reader.specs.Answers.{names_left, cells_left, values_left}
use Rattle.reader.proofs.Answers.{answered_short, answered_long}
use Rattle.reader.proofs.Outcomes.{reading-long}
use Rattle.reader.proofs.read.Goals as goal
use Rattle.reader.proofs.read.Goals.{Else-not-enough}

-- the tables are as_long enough
enough : (c : Else-not-enough) → long_enough c.args.names.now c.args.cells.now c.args.values.now ≡ true
enough c = sym c.enough.ensures ∙ not-false c.enough.result c.if-not-enough.false-raw

lengths : (c : Else-not-enough) → Long c.args.names.now c.args.cells.now c.args.values.now
lengths c = as_long _ _ _ (enough c)

pub returns-then-not-enough : goal.returns-then-not-enough
returns-then-not-enough c =
    let s = c.args in
    let r = answered_short s.book.now s.names.now s.cells.now s.values.now (sym c.enough.ensures ∙ not-true c.enough.result c.if-not-enough.true-raw) in
    record { result_value = r.0; new_names = r.1.0; new_cells = r.1.1.0; new_values = r.1.1.1 }

pub clear-requires : goal.clear-requires
clear-requires c = let l = lengths (goal.at.clear-requires c).Else-not-enough in (l.names, l.cells, l.values)

pub returns-then-book-gt-MAX_BYTES : goal.returns-then-book-gt-MAX_BYTES
returns-then-book-gt-MAX_BYTES c =
    let s = c.args in
    let e = sym (reading-long s.book.now c.if-book-gt-MAX_BYTES.true) in
    let z = c.clear.ensures in
    let r = answered_long s.book.now s.names.now s.cells.now s.values.now (enough (goal.at.returns-then-book-gt-MAX_BYTES c).Else-not-enough) _ _ _ _ (ap (map_value counts_in) e) (z.new_names ∙ ap (λ (o : Answer Book). names_left o s.names.now) e) (z.new_cells ∙ ap (λ (o : Answer Book). cells_left o s.cells.now) e) (z.new_values ∙ ap (λ (o : Answer Book). values_left o s.values.now) e) in
    record { result_value = r.0; new_names = r.1.0; new_cells = r.1.1.0; new_values = r.1.1.1 }

pub read_book-requires : goal.read_book-requires
read_book-requires c = let l = lengths (goal.at.read_book-requires c).Else-not-enough in (c.if-book-gt-MAX_BYTES.false, l.names, l.cells, l.values)

pub returns : goal.returns
returns c =
    let s = c.args in
    let z = c.read_book.ensures in
    let r = answered_long s.book.now s.names.now s.cells.now s.values.now (enough (goal.at.returns c).Else-not-enough) _ _ _ _ z.result_value z.new_names z.new_cells z.new_values in
    record { result_value = r.0; new_names = r.1.0; new_cells = r.1.1.0; new_values = r.1.1.1 }
