use Prim.Native.Nat.{ℕ, ◌+◌}
use mathlib.Core.Path.{◌≡◌, ap, ◌∙◌}
use mathlib.Core.List.{[]}
use mathlib.Core.Bool.{true}
use native.Mathlib.Omega.{arith}
use lib.Seq.{drop-set-lt}
use borrow.Author.Rules.{rules}
use Rattle.std.specs.Prelude.{Err}
use Rattle.grammar.specs.Syntax.{value}
use Rattle.grammar.specs.Reading.{arg_at}
use Rattle.tables.specs.Layout.{value_count, form_values}
use Rattle.stores.specs.Entries.{put_form, put_value}
use Rattle.itemreader.proofs.Heads.{rest_refused}
use Rattle.itemreader.proofs.Items.{passed_on, value_got, value_refused}
use Rattle.leafreader.proofs.Forms.{form_no, form_is_lem, rest-one, closed_form_lem, closed-within, value-stored}
use mir.Val.{to_z, of_z}
use mir.Syntax.{w64}
use Rattle.leafreader.proofs.value_form.Goals as goal

pub returns-in_err-x-clause-form_read : goal.returns-in_err-x-clause-form_read
returns-in_err-x-clause-form_read c =
    let s = c.args in
    λ a R b f sh.
    let (k, x, e) = value_refused (arg_at s.book.now a R value b s.at) c.in_err-x.field-0.0 (c.in_err-x.ensures.value a R b) in
    form_no k (rest_refused s.book.now a R true value [] (λ xs. f xs.0) b s.at k x) (passed_on c.from_residual.result _ c.from_residual.ensures.1 ∙ ap Err e)

pub returns : goal.returns
unfolding put_value
returns c =
    let s = c.args in
    let p = c.requires in
    let z : to_z w64 (of_z w64 c.in_ok-x.x) ≡ c.in_ok-x.x = search rules in
    let next : ℕ = c.in_ok-x.next in record {
      form_read = λ a R b f sh.
          value-stored (form_values + s.n.forms) c.in_ok-x.x (to_z w64 (of_z w64 c.in_ok-x.x)) z
          (form_is_lem (rest-one s.book.now a R value f b s.at c.in_ok-x.x next (value_got (arg_at s.book.now a R value b s.at) c.in_ok-x.x next (c.in_ok-x.ensures.value a R b)))
          (closed_form_lem s.book.now next s.n a (put_form s.n.forms s.code 0 0 0 0 s.cells.now) s.cells.now (sh s.n c.in_ok-x.x s.cells.now s.values.now) c.close_form.ensures.value c.close_form.ensures.new_cells));
      forms_within = rw c.close_form.ensures.value (closed-within s.book.now next s.n s.n.forms s.up (omega arith) p.3 p.4 p.5);
      cells_unchanged = c.close_form.ensures.cells_unchanged;
      values_unchanged = drop-set-lt value_count s.values.now (form_values + s.n.forms) (to_z w64 (of_z w64 c.in_ok-x.x)) (omega arith);
    }
