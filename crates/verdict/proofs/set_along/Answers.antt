-- `set_along` meets its contract: there are rows for all nodes, zeros at first.
use mathlib.Core.Path.{refl}
use Prim.Native.Nat.{◌*◌, ◌≤◌}
use native.Mathlib.Omega.{arith}
use Rattle.model.specs.Limits.{max_nodes}
use Rattle.tables.specs.Layout.{node_count}
use Rattle.entries.proofs.Codes.{nodes_le}
use Rattle.stepsets.proofs.Rows.{held_none, rows_zeros}
use Rattle.verdict.proofs.Known.{ready}
use Rattle.verdict.proofs.set_along.Goals as goal

pub invariant_of-rows : goal.invariant_of-rows
invariant_of-rows c =
    let t = c.args.memo.now.tables in
    let l : 16 * node_count t.cells.now ≤ (16 * max_nodes) = omega (arith, nodes_le t.cells.now t.made) in
    record {
      fits = omega arith;
      first_held = held_none t.cells.now (rows_zeros t.cells.now _ l refl);
      second_held = held_none t.cells.now (rows_zeros t.cells.now _ l refl);
    }

pub set_of_rows-requires : goal.set_of_rows-requires
set_of_rows-requires c = (ready c.args.memo.now c.requires.0, c.requires.1, c.requires.2)

pub returns : goal.returns
returns c = c.set_of_rows.ensures
