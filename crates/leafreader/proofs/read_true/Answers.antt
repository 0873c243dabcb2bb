use Prim.Native.Nat.{◌+◌}
use mathlib.Core.Path.{refl, sym, ap, ◌∙◌}
use native.Mathlib.Omega.{arith}
use borrow.Author.Tests.{not-true, not-false, le-leb, lt-leb}
use lib.Dec.{leb}
use lib.ListN.{drop}
use Rattle.text.proofs.Items.{item_end-from, item_end-within}
use Rattle.model.specs.Limits.{max_forms}
use Rattle.tables.specs.Layout.{cell_count}
use Rattle.leafreader.proofs.Forms.{form_no, form_drop, true_not, true_full, true_got}
use Rattle.leafreader.proofs.Shapes.{true_read}
use Rattle.leafreader.proofs.read_true.Goals as goal

pub is_word-requires : goal.is_word-requires
is_word-requires c =
    let s = c.args in
    (omega (arith, item_end-from s.book.now s.at, c.item_end-end.ensures), omega (arith, item_end-within s.book.now s.at c.requires.0, c.item_end-end.ensures))

pub returns-then-not-is_word : goal.returns-then-not-is_word
returns-then-not-is_word c =
    let s = c.args in
    let i = c.item_end-end in
    record { form_read = λ a vs. form_no 2 (true_not s.book.now a (leb max_forms (s.n.forms + s.up)) s.at i.result i.ensures (sym c.is_word.ensures ∙ not-true _ c.if-not-is_word.true-raw)) refl; forms_within = tt; cells_unchanged = refl }

pub returns-then-forms-up-ge-MAX_FORMS : goal.returns-then-forms-up-ge-MAX_FORMS
returns-then-forms-up-ge-MAX_FORMS c =
    let s = c.args in
    let i = c.item_end-end in
    record { form_read = λ a vs. form_no 7 (true_full s.book.now a (leb max_forms (s.n.forms + s.up)) s.at i.result i.ensures (sym c.is_word.ensures ∙ not-false _ c.if-not-is_word.false-raw) (le-leb max_forms (s.n.forms + s.up) c.if-forms-up-ge-MAX_FORMS.true)) refl; forms_within = tt; cells_unchanged = refl }

pub returns : goal.returns
returns c =
    let s = c.args in
    let p = c.requires in
    let i = c.item_end-end in
    let o = c.put_form.ensures in
    let f = c.if-forms-up-ge-MAX_FORMS.false in record { form_read = λ a vs. true_read s.n s.cells.now vs i.result (true_got s.book.now a (leb max_forms (s.n.forms + s.up)) s.at i.result i.ensures (sym c.is_word.ensures ∙ not-false _ c.if-not-is_word.false-raw) (lt-leb max_forms (s.n.forms + s.up) f)) o; forms_within = (omega arith, omega arith, p.3, p.4, omega (arith, item_end-within s.book.now s.at p.0, i.ensures)); cells_unchanged = ap (drop cell_count) o ∙ form_drop s.n.forms 0 0 0 0 0 s.cells.now (omega arith) }
