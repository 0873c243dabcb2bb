use mathlib.Core.Path.{refl, sym, ap, ◌∙◌}
use native.Mathlib.Omega.{arith}
use borrow.Author.Tests.{eq-eqb, ne_eqb}
use lib.ListN.{drop}
use Rattle.text.proofs.Parts.{inside}
use Rattle.tables.specs.Layout.{cell_count}
use Rattle.pathreader.specs.Paths.{closed}
use Rattle.pathreader.proofs.Paths.{path_drop}
use Rattle.pathreader.proofs.close_path.Goals as goal

pub returns-then-byte-ne41 : goal.returns-then-byte-ne41
unfolding closed
returns-then-byte-ne41 c =
    let n = ne_eqb _ 41 (λ e. c.if-byte-ne41.true (c.byte.ensures ∙ e)) in
    record { value = rw n; new_cells = rw n refl; cells_unchanged = refl }

pub overflow_add-result-2 : goal.overflow_add-result-2
overflow_add-result-2 c =
    let s = c.args in
    let i = inside s.book.now s.at (λ e. omega (arith, c.byte.ensures, c.if-byte-ne41.false)) in
    omega arith

pub returns : goal.returns
unfolding closed
returns c =
    let s = c.args in
    let p = c.put_path.ensures in
    let y = eq-eqb _ 41 (sym c.byte.ensures ∙ c.if-byte-ne41.false) in
    record { value = rw y; new_cells = rw y p; cells_unchanged = ap (drop cell_count) p ∙ path_drop s.e s.code s.first s.second s.cells.now c.requires.0 }
