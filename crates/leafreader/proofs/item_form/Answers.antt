use Prim.Native.Nat.{ℕ}
use mathlib.Core.Path.{sym, ap, ◌∙◌}
use mathlib.Core.List.{List, []}
use mathlib.Core.Bool.{true, cond}
use native.Mathlib.Omega.{arith}
use lib.Dec.{eqb}
use lib.ListN.{get_or}
use Rattle.std.specs.Prelude.{Err}
use Rattle.grammar.specs.Reading.{arg_at}
use Rattle.itemreader.proofs.Items.{passed_on, item_got, item_refused}
use Rattle.itemreader.proofs.Heads.{rest_refused}
use Rattle.leafreader.specs.Forms.{put_item}
use Rattle.leafreader.proofs.Forms.{form_no, form_is_lem, rest-one, closed_form_lem, closed-within, put_item_lem}
use Rattle.leafreader.proofs.item_form.Goals as goal

pub returns-in_err-k-clause-item_form : goal.returns-in_err-k-clause-item_form
returns-in_err-k-clause-item_form c =
    let s = c.args in
    λ a R b k g at e m cs vs vs' f cl.
    let (j, x, w) = item_refused g (arg_at s.book.now a R k b at) c.in_err-k.field-0.0 (sym c.in_err-k.was ∙ e) in
    form_no j (rest_refused s.book.now a R true k [] (λ xs. f xs.0) b at j x) (passed_on c.from_residual.result _ c.from_residual.ensures.1 ∙ ap Err w)

pub returns : goal.returns
returns c =
    let s = c.args in
    let p = c.requires in
    let next : ℕ = c.in_ok-k.next in record {
      item_form = λ a R b k g at e m cs vs vs' f cl.
          let y = item_got g (arg_at s.book.now a R k b at) c.in_ok-k.k next (sym c.in_ok-k.was ∙ e) in
          form_is_lem (rest-one s.book.now a R k f b at y.0 next y.1)
          (closed_form_lem s.book.now next s.n a (put_item s.lone s.n.forms s.code s.first s.cells.now (g y.0)) s.cells.now (cl y.0) c.close_form.ensures.value (c.close_form.ensures.new_cells ∙ ap (λ (q : List ℕ). cond (eqb (get_or s.book.now next 0) 41) q s.cells.now) (put_item_lem s.lone s.n.forms s.code s.first s.cells.now c.pick.result c.pick-2.result c.in_ok-k.k (g y.0) c.pick.ensures c.pick-2.ensures y.2)));
      forms_within = rw c.close_form.ensures.value (closed-within s.book.now next s.n s.n.forms s.up (omega arith) p.0 p.1 p.2);
      cells_unchanged = c.close_form.ensures.cells_unchanged;
    }
