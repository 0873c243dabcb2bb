use Prim.Native.Nat.{ℕ}
use Rattle.std.proofs.Common.{rules}
use Rattle.std.proofs.lemmas.Fn.{fronts, fold_over}
use Rattle.std.proofs.lemmas.Iterator.{YieldsList-from_slice}
use lib.Dec.{ltb}
use Rattle.tablecheck.proofs.Columns.{rest_below, Passed, passed_none, passed_more, column_done}
use Rattle.tablecheck.proofs.column_below.Goals as goal

pub returns : goal.returns
returns c =
    let a = c.args in
    let t = c.column-there.result.now in
    let f = rest_below t a.bound a.len in
    let p = λ (x : ℕ). ltb x a.bound in
    column_done a.cells.now t a.base a.len a.bound c.column-there.ensures
    (fold_over fronts (λ y. y.now) _ (Passed f p) _ (λ l r x s q e k. (passed_more f p l x.now e (search rules), search rules)) c.iter.result t f _ (YieldsList-from_slice t c.iter.ensures.rest).runs (passed_none f p) c.fold.ensures.ran)
