use Prim.Native.Nat.{ℕ, ◌+◌, ◌-◌, ◌<◌, ◌≤◌}
use mathlib.Core.Path.{◌≡◌, ap, subst, ◌∙◌}
use native.Mathlib.Omega.{arith}
use Rattle.grammar.specs.Syntax.{form}
use Rattle.grammar.specs.Reading.{form_begun, after, arg_at, readers_at}
use Rattle.stores.specs.Entries.{put_form}
use Rattle.std.specs.Prelude.{Err}
use Rattle.itemreader.proofs.Items.{passed_on}
use Rattle.leafreader.specs.declared.Ended.{Ended}
use Rattle.leafreader.specs.Forms.{begun_of}
use Rattle.leafreader.proofs.Forms.{form_no, form_is_lem, form_got, form_refused, closed_form_lem, closed-within}
use Rattle.formreader.specs.declared.Front.{Front}
use Rattle.formreader.specs.Frames.{begun_with, put_child}
use Rattle.formreader.proofs.Frames.{whole_read, part_read}
use Rattle.formreader.proofs.Children.{front-code, begun_forms, begun_with_lem, begun_after, child_refused, one-rest, second_refused, two-rest, one_closes, two_closes}
use Rattle.formreader.proofs.+read_form.Goals as goal

pub returns-in-Whole-clause-form_read : goal.returns-in-Whole-clause-form_read
returns-in-Whole-clause-form_read t c =
    let s = c.args in
    λ a h b bf bp bi. whole_read s.book.now a (readers_at s.book.now a (s.left - 1)) (form_begun b) (arg_at s.book.now a (readers_at s.book.now a s.left) form b s.at) (begun_of s.n) s.cells.now c.open_form.new.cells s.values.now c.open_form.new.values c.in_ok-m.field-0 (c.in_ok-m.ensures.open_read a h b bf bp bi) c.in-Whole.m c.in-Whole.next c.in-Whole.is

pub returns-in_err-l-in-Part-clause-form_read : goal.returns-in_err-l-in-Part-clause-form_read
returns-in_err-l-in-Part-clause-form_read t c =
    let s = c.args in
    let front : Front = c.in-Part.p in
    λ a h b bf bp bi.
    let x = (part_read s.book.now a (readers_at s.book.now a (s.left - 1)) (form_begun b) (arg_at s.book.now a (readers_at s.book.now a s.left) form b s.at) (begun_of s.n) s.cells.now c.open_form.new.cells s.values.now c.open_form.new.values c.in_ok-m.field-0 (c.in_ok-m.ensures.open_read a h b bf bp bi) front c.in-Part.is) in
    let b1 = begun_with x.frame (form_begun b) in
    let g = begun_with_lem s.n.paths x.frame front.next front (form_begun b) x.holds bp in
    let g0 : b1.forms ≡ s.n.forms + (s.up + 1) = begun_forms s.n.forms s.up b.forms bf g.0 in
    let (k, y, w) = form_refused (c.in_err-l-in-Part.ensures.form_read a h b1 g0 g.1 (g.2 ∙ bi)) in
    form_no k (x.rest ∙ child_refused s.book.now a (readers_at s.book.now a (s.left - 1)) b1 front.next x.frame k y) (passed_on c.from_residual-in_err-l-in-Part.result _ c.from_residual-in_err-l-in-Part.ensures.1 ∙ ap Err w)

pub returns-then-p-gt-FORM_OR : goal.returns-then-p-gt-FORM_OR
returns-then-p-gt-FORM_OR t c =
    let s = c.args in
    let front : Front = c.in-Part.p in
    let l : Ended = c.in_ok-l-in-Part.l in
    let next : ℕ = c.in_ok-l-in-Part.next in
    let w1 = c.in_ok-l-in-Part.ensures.forms_within in
    let h1 : 4 < front.code = c.if-p-gt-FORM_OR.true in
    let u = w1.0 in
    let v = w1.1 in record {
      form_read = λ a h b bf bp bi.
          let x = (part_read s.book.now a (readers_at s.book.now a (s.left - 1)) (form_begun b) (arg_at s.book.now a (readers_at s.book.now a s.left) form b s.at) (begun_of s.n) s.cells.now c.open_form.new.cells s.values.now c.open_form.new.values c.in_ok-m.field-0 (c.in_ok-m.ensures.open_read a h b bf bp bi) front c.in-Part.is) in
          let b1 = begun_with x.frame (form_begun b) in
          let g = begun_with_lem s.n.paths x.frame front.next front (form_begun b) x.holds bp in
          let g0 : b1.forms ≡ s.n.forms + (s.up + 1) = begun_forms s.n.forms s.up b.forms bf g.0 in
          let y = c.in_ok-l-in-Part.ensures.form_read a h b1 g0 g.1 (g.2 ∙ bi) in
          let z = form_got l next y in
          form_is_lem (x.rest ∙ one-rest s.book.now a (readers_at s.book.now a (s.left - 1)) b1 front.next z.tree next z.is x.frame (subst (λ (j : ℕ). 4 < j) (front-code s.n.paths x.frame front.next front x.holds) h1))
          (closed_form_lem s.book.now next l a (put_child front l.forms c.read_form.new.cells) c.read_form.new.cells (one_closes s.n s.cells.now s.values.now z.tree x.frame front.next front x.holds c.open_form.new.cells c.open_form.new.values x.cells x.values l c.read_form.new.cells c.read_form.new.values z.ended z.cells z.values h1) c.close_child.ensures.value c.close_child.ensures.new_cells);
      forms_within = rw c.close_child.ensures.value (closed-within s.book.now next l s.n.forms s.up (omega arith) (omega arith) w1.2 w1.3);
      cells_unchanged = c.close_child.ensures.cells_unchanged ∙ (c.in_ok-l-in-Part.ensures.cells_unchanged ∙ c.open_form.ensures.cells_unchanged);
      values_unchanged = c.in_ok-l-in-Part.ensures.values_unchanged ∙ c.open_form.ensures.values_unchanged;
    }

pub returns-in_err-k-in-Part-clause-form_read : goal.returns-in_err-k-in-Part-clause-form_read
returns-in_err-k-in-Part-clause-form_read t c =
    let s = c.args in
    let front : Front = c.in-Part.p in
    let l : Ended = c.in_ok-l-in-Part.l in
    let next : ℕ = c.in_ok-l-in-Part.next in
    let h1 : front.code ≤ 4 = c.if-p-gt-FORM_OR.false in
    λ a h b bf bp bi.
    let x = (part_read s.book.now a (readers_at s.book.now a (s.left - 1)) (form_begun b) (arg_at s.book.now a (readers_at s.book.now a s.left) form b s.at) (begun_of s.n) s.cells.now c.open_form.new.cells s.values.now c.open_form.new.values c.in_ok-m.field-0 (c.in_ok-m.ensures.open_read a h b bf bp bi) front c.in-Part.is) in
    let b1 = begun_with x.frame (form_begun b) in
    let g = begun_with_lem s.n.paths x.frame front.next front (form_begun b) x.holds bp in
    let g0 : b1.forms ≡ s.n.forms + (s.up + 1) = begun_forms s.n.forms s.up b.forms bf g.0 in
    let z = form_got l next (c.in_ok-l-in-Part.ensures.form_read a h b1 g0 g.1 (g.2 ∙ bi)) in
    let d = begun_after b1 (record { forms = s.n.forms; paths = front.paths; items = s.n.items }) l (s.up + 1) z.tree g0 g.1 (g.2 ∙ bi) z.ended in
    let (k, y, w) = form_refused (c.in_err-k-in-Part.ensures.form_read a h (after form z.tree b1) d.0 d.1 d.2) in
    form_no k (x.rest ∙ second_refused s.book.now a (readers_at s.book.now a (s.left - 1)) b1 front.next z.tree next z.is x.frame k (subst (λ (j : ℕ). j ≤ 4) (front-code s.n.paths x.frame front.next front x.holds) h1) y) (passed_on c.from_residual-in_err-k-in-Part.result _ c.from_residual-in_err-k-in-Part.ensures.1 ∙ ap Err w)

pub returns-in_ok-k-in-Part : goal.returns-in_ok-k-in-Part
returns-in_ok-k-in-Part t c =
    let s = c.args in
    let front : Front = c.in-Part.p in
    let l : Ended = c.in_ok-l-in-Part.l in
    let next : ℕ = c.in_ok-l-in-Part.next in
    let w1 = c.in_ok-l-in-Part.ensures.forms_within in
    let k : Ended = c.in_ok-k-in-Part.k in
    let last : ℕ = c.in_ok-k-in-Part.last in
    let w2 = c.in_ok-k-in-Part.ensures.forms_within in
    let h1 : front.code ≤ 4 = c.if-p-gt-FORM_OR.false in
    let u = w1.0 in
    let v = w2.0 in
    let t' = w2.1 in record {
      form_read = λ a h b bf bp bi.
          let x = (part_read s.book.now a (readers_at s.book.now a (s.left - 1)) (form_begun b) (arg_at s.book.now a (readers_at s.book.now a s.left) form b s.at) (begun_of s.n) s.cells.now c.open_form.new.cells s.values.now c.open_form.new.values c.in_ok-m.field-0 (c.in_ok-m.ensures.open_read a h b bf bp bi) front c.in-Part.is) in
          let b1 = begun_with x.frame (form_begun b) in
          let g = begun_with_lem s.n.paths x.frame front.next front (form_begun b) x.holds bp in
          let g0 : b1.forms ≡ s.n.forms + (s.up + 1) = begun_forms s.n.forms s.up b.forms bf g.0 in
          let y = c.in_ok-l-in-Part.ensures.form_read a h b1 g0 g.1 (g.2 ∙ bi) in
          let z = form_got l next y in
          let d = begun_after b1 (record { forms = s.n.forms; paths = front.paths; items = s.n.items }) l (s.up + 1) z.tree g0 g.1 (g.2 ∙ bi) z.ended in
          let y2 = c.in_ok-k-in-Part.ensures.form_read a h (after form z.tree b1) d.0 d.1 d.2 in
          let z2 = form_got k last y2 in
          form_is_lem (x.rest ∙ two-rest s.book.now a (readers_at s.book.now a (s.left - 1)) b1 front.next z.tree next z.is x.frame z2.tree last (subst (λ (j : ℕ). j ≤ 4) (front-code s.n.paths x.frame front.next front x.holds) h1) z2.is)
          (closed_form_lem s.book.now last k a (put_form k.forms front.code (l.forms - 1) (k.forms - 1) 0 0 c.read_form-in-Part.new.cells) c.read_form-in-Part.new.cells (two_closes s.n s.cells.now s.values.now z.tree x.frame front.next front x.holds c.open_form.new.cells c.open_form.new.values x.cells x.values l c.read_form.new.cells c.read_form.new.values z.ended z.cells z.values h1 z2.tree k c.read_form-in-Part.new.cells c.read_form-in-Part.new.values z2.ended z2.cells z2.values) c.close_form.ensures.value c.close_form.ensures.new_cells);
      forms_within = rw c.close_form.ensures.value (closed-within s.book.now last k s.n.forms s.up (omega arith) (omega arith) w2.2 w2.3);
      cells_unchanged = c.close_form.ensures.cells_unchanged ∙ (c.in_ok-k-in-Part.ensures.cells_unchanged ∙ (c.in_ok-l-in-Part.ensures.cells_unchanged ∙ c.open_form.ensures.cells_unchanged));
      values_unchanged = c.in_ok-k-in-Part.ensures.values_unchanged ∙ (c.in_ok-l-in-Part.ensures.values_unchanged ∙ c.open_form.ensures.values_unchanged);
    }
