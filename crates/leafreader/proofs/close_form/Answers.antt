use mathlib.Core.Path.{refl, sym, ap, ◌∙◌}
use native.Mathlib.Omega.{arith}
use borrow.Author.Tests.{eq-eqb, ne_eqb}
use lib.ListN.{drop}
use Rattle.text.proofs.Parts.{inside}
use Rattle.tables.specs.Layout.{cell_count}
use Rattle.leafreader.specs.Forms.{closed_form}
use Rattle.leafreader.proofs.Forms.{form_drop}
use Rattle.leafreader.proofs.close_form.Goals as goal

pub returns-then-byte-ne41 : goal.returns-then-byte-ne41
unfolding closed_form
returns-then-byte-ne41 c =
    let n = ne_eqb _ 41 (λ e. c.if-byte-ne41.true (c.byte.ensures ∙ e)) in
    record { value = rw n; new_cells = rw n refl; cells_unchanged = refl }

pub overflow_add-result-2 : goal.overflow_add-result-2
overflow_add-result-2 c =
    let s = c.args in
    let i = inside s.book.now s.at (λ e. omega (arith, c.byte.ensures, c.if-byte-ne41.false)) in
    omega arith

pub returns : goal.returns
unfolding closed_form
returns c =
    let s = c.args in
    let p = c.put_form.ensures in
    let y = eq-eqb _ 41 (sym c.byte.ensures ∙ c.if-byte-ne41.false) in
    record { value = rw y; new_cells = rw y p; cells_unchanged = ap (drop cell_count) p ∙ form_drop s.n.forms s.code s.first s.second s.third s.fourth s.cells.now c.requires.0 }
