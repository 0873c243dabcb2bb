use Prim.Native.Nat.{ℕ, ◌-◌}
use mathlib.Core.Path.{ap, ◌∙◌}
use mathlib.Core.List.{List, []}
use mathlib.Core.Bool.{true}
use native.Mathlib.Omega.{arith}
use Rattle.std.specs.Prelude.{Err}
use Rattle.model.specs.Limits.{max_items}
use Rattle.grammar.specs.Syntax.{list}
use Rattle.grammar.specs.Reading.{list_at}
use Rattle.stores.specs.Entries.{put_form}
use Rattle.itemreader.specs.Answers.{pool_of, items_after}
use Rattle.itemreader.proofs.Items.{passed_on, item_got, item_refused, listed_got}
use Rattle.itemreader.proofs.Heads.{rest_refused}
use Rattle.leafreader.proofs.Forms.{form_no, form_is_lem, rest-one, closed_form_lem, closed-within, list_arg, list_closes}
use Rattle.leafreader.proofs.list_form.Goals as goal

pub returns-in_err-m-clause-form_read : goal.returns-in_err-m-clause-form_read
returns-in_err-m-clause-form_read c =
    let s = c.args in
    λ a h R b q f sh vs.
    let (k, x, e) = item_refused (items_after s.n.items) (list_at s.book.now a (pool_of s.pool) (max_items - s.n.items) s.at) c.in_err-m.field-0.0 (c.in_err-m.ensures.value a h) in
    form_no k (rest_refused s.book.now a R true (list (pool_of s.pool)) [] (λ xs. f xs.0) b s.at k (list_arg s.book.now a R (pool_of s.pool) b s.n.items s.at q ∙ x)) (passed_on c.from_residual.result _ c.from_residual.ensures.1 ∙ ap Err e)

pub returns : goal.returns
returns c =
    let s = c.args in
    let p = c.requires in
    let m : ℕ = c.in_ok-m.m in
    let next : ℕ = c.in_ok-m.next in
    let mid : List ℕ = c.read_list.new.cells in
    let w = c.in_ok-m.ensures.counted in record {
      form_read = λ a h R b q f sh vs.
          let x = list_at s.book.now a (pool_of s.pool) (max_items - s.n.items) s.at in
          let y = item_got (items_after s.n.items) x m next (c.in_ok-m.ensures.value a h) in
          form_is_lem (rest-one s.book.now a R (list (pool_of s.pool)) f b s.at y.0 next (list_arg s.book.now a R (pool_of s.pool) b s.n.items s.at q ∙ y.1))
          (closed_form_lem s.book.now next (record { forms = s.n.forms; paths = s.n.paths; items = m }) a (put_form s.n.forms s.code s.n.items (m - s.n.items) 0 0 mid) mid (list_closes f s.code sh s.n m y.0 s.cells.now mid vs y.2 (listed_got x y.0 next s.n.items s.cells.now mid y.1 (c.in_ok-m.ensures.listed a h))) c.close_form.ensures.value c.close_form.ensures.new_cells);
      forms_within = rw c.close_form.ensures.value (closed-within s.book.now next (record { forms = s.n.forms; paths = s.n.paths; items = m }) s.n.forms s.up (omega arith) p.2 p.3 w.1);
      cells_unchanged = c.close_form.ensures.cells_unchanged ∙ c.in_ok-m.ensures.cells_unchanged;
    }
