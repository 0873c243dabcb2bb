use mathlib.Core.Bool.{true}
use mathlib.Core.Path.{refl}
use native.Mathlib.Omega.{arith}
use Rattle.std.specs.List.{range_with_len}
use Rattle.std.proofs.Common.{rules}
use Rattle.std.proofs.iter.Yields.{nat_range_steps}
use Rattle.std.proofs.lemmas.Fn.{fold_over}
use Rattle.std.proofs.lemmas.Iterator.{YieldsList-from_range}
use Rattle.tables.specs.Layout.{node_count}
use Rattle.tables.specs.WellFormed.{node_ok}
use Rattle.tablecheck.proofs.Columns.{Passed, passed_none, passed_more, range_done}
use Rattle.tablecheck.proofs.nodes_ok.Goals as goal

pub returns : goal.returns
returns c =
    let cs = c.args.cells.now in
    let n = node_count cs in
    let p = node_ok cs in
    range_done p n
    (fold_over nat_range_steps (λ y. y) _ (Passed true p) _ (λ l r x s q e k. (passed_more true p l x e (search rules), search rules)) (record { start = 0; end = c.cell_at.result }) (range_with_len 0 n) true _ (YieldsList-from_range 0 c.cell_at.result n refl (omega (arith, c.cell_at.ensures))).runs (passed_none true p) c.fold.ensures.ran)
