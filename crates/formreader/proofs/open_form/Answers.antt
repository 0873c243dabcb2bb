use Prim.Native.Nat.{◌+◌, ◌-◌}
use mathlib.Core.Path.{refl, sym, ap, ◌∙◌}
use Rattle.std.specs.Prelude.{Ok, Err}
use Rattle.grammar.specs.Reading.{form_begun, readers_at}
use Rattle.itemreader.proofs.Items.{passed_on}
use Rattle.leafreader.proofs.Forms.{form_is_lem, form_refused}
use Rattle.formreader.proofs.Frames.{fault_read, form_unspaced, form_bare, form_head_refused, form_word_lem}
use Rattle.formreader.proofs.open_form.Goals as goal

pub returns-then-byte-ne32-clause-open_read : goal.returns-then-byte-ne32-clause-open_read
returns-then-byte-ne32-clause-open_read c =
    let s = c.args in
    λ a h b f p i. fault_read s.book.now a (readers_at s.book.now a (s.left - 1)) (form_begun b) _ _ _ _ _ 2 (form_unspaced s.book.now a b s.at (s.n.forms + s.up) f s.left (λ e. c.if-byte-ne32.true (c.byte.ensures ∙ e))) refl

pub returns-in_err-code-clause-open_read : goal.returns-in_err-code-clause-open_read
returns-in_err-code-clause-open_read c =
    let s = c.args in
    λ a h b f p i.
    let (k, x, w) = form_head_refused s.book.now a b s.at (s.n.forms + s.up) f (sym c.byte.ensures ∙ c.if-byte-ne32.false) s.left c.in_err-code.field-0.0 c.in_err-code.ensures.value in
    fault_read s.book.now a (readers_at s.book.now a (s.left - 1)) (form_begun b) _ _ _ _ _ k x (passed_on c.from_residual.result _ c.from_residual.ensures.1 ∙ ap Err w)

pub returns-in_err-m-clause-open_read : goal.returns-in_err-m-clause-open_read
returns-in_err-m-clause-open_read c =
    let s = c.args in
    let v = ap Ok (sym c.in_default.is) ∙ c.in_ok-code.ensures.value in
    λ a h b f p i.
    let (k, x, w) = form_refused (c.in_err-m.ensures.form_read a s.values.now) in
    fault_read s.book.now a (readers_at s.book.now a (s.left - 1)) (form_begun b) _ _ _ _ _ k (form_bare s.book.now a b s.at (s.n.forms + s.up) f (sym c.byte.ensures ∙ c.if-byte-ne32.false) s.left v ∙ x) (passed_on c.from_residual-in_err-m.result _ c.from_residual-in_err-m.ensures.1 ∙ ap Err w)

pub returns-in_default-clause-open_read : goal.returns-in_default-clause-open_read
returns-in_default-clause-open_read c =
    let s = c.args in
    let v = ap Ok (sym c.in_default.is) ∙ c.in_ok-code.ensures.value in
    λ a h b f p i. form_is_lem (form_bare s.book.now a b s.at (s.n.forms + s.up) f (sym c.byte.ensures ∙ c.if-byte-ne32.false) s.left v) (c.in_ok-m.ensures.form_read a s.values.now)

pub returns-clause-open_read : goal.returns-clause-open_read
returns-clause-open_read c =
    let s = c.args in
    let v = ap Ok (sym c.in-Some.is) ∙ c.in_ok-code.ensures.value in
    let l = (rw c.in-Some.is at c.in_ok-code.ensures.headed).1 in
    λ a h b f p i. rw (form_word_lem s.book.now a b s.at (s.n.forms + s.up) f (sym c.byte.ensures ∙ c.if-byte-ne32.false) s.left c.in-Some.code c.in-Some.end l v) (c.open_word.ensures.open_read a h (form_begun b) p i)
