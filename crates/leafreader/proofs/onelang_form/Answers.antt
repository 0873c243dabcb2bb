use Prim.Native.Nat.{ℕ, ◌-◌}
use mathlib.Core.Path.{sym, ap, ◌∙◌}
use mathlib.Core.List.{List, []}
use mathlib.Core.Bool.{true}
use native.Mathlib.Omega.{arith}
use native.Mathlib.Nat.{add-zero}
use Rattle.std.specs.Prelude.{Err}
use Rattle.grammar.specs.Syntax.{path}
use Rattle.grammar.specs.Reading.{readers_at}
use Rattle.tables.specs.Codes as codes
use Rattle.stores.specs.Entries.{put_form}
use Rattle.itemreader.proofs.Items.{passed_on}
use Rattle.itemreader.proofs.Heads.{rest_refused}
use Rattle.pathreader.proofs.Paths.{done_refused, path_got}
use Rattle.model.specs.Shapes.{unique_lang}
use Rattle.leafreader.proofs.Forms.{form_no, form_is_lem, rest-one, closed_form_lem, closed-within}
use Rattle.leafreader.proofs.Shapes.{onelang_closes}
use Rattle.leafreader.proofs.onelang_form.Goals as goal

pub returns-in_err-m-clause-form_read : goal.returns-in_err-m-clause-form_read
returns-in_err-m-clause-form_read c =
    let s = c.args in
    λ a h b q vs.
    let (k, x, e) = done_refused (c.in_err-m.ensures.path_read a h b (q ∙ sym (add-zero s.n.paths))) in
    form_no k (rest_refused s.book.now a (readers_at s.book.now a s.left) true path [] (λ xs. unique_lang xs.0) b s.at k x) (passed_on c.from_residual.result _ c.from_residual.ensures.1 ∙ ap Err e)

pub returns : goal.returns
returns c =
    let s = c.args in
    let p = c.requires in
    let m : ℕ = c.in_ok-m.m in
    let next : ℕ = c.in_ok-m.next in
    let mid : List ℕ = c.read_path.new.cells in
    let w = c.in_ok-m.ensures.grown.1 in record {
      form_read = λ a h b q vs.
          let g = path_got m next (c.in_ok-m.ensures.path_read a h b (q ∙ sym (add-zero s.n.paths))) in
          form_is_lem (rest-one s.book.now a (readers_at s.book.now a s.left) path unique_lang b s.at g.tree next g.is)
          (closed_form_lem s.book.now next (record { forms = s.n.forms; paths = m; items = s.n.items }) a (put_form s.n.forms codes.form_onelang (m - 1) 0 0 0 mid) mid (onelang_closes s.n s.cells.now vs m g.tree mid g.count g.cells) c.close_form.ensures.value c.close_form.ensures.new_cells);
      forms_within = rw c.close_form.ensures.value (closed-within s.book.now next (record { forms = s.n.forms; paths = m; items = s.n.items }) s.n.forms s.up (omega arith) p.2 (omega arith) p.4);
      cells_unchanged = c.close_form.ensures.cells_unchanged ∙ c.in_ok-m.ensures.cells_unchanged;
    }
