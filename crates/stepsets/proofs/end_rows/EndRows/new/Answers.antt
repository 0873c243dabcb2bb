-- `new` meets its contract: zeros are rows.
use mathlib.Core.Path.{refl}
use Rattle.stepsets.proofs.Rows.{held_none, rows_zeros}
use Rattle.stepsets.proofs.end_rows.EndRows.new.Goals as goal

pub invariant_of-result : goal.invariant_of-result
invariant_of-result g c =
    let cs = c.args.tables.cells.now in
    record {
      fits = c.requires.1;
      first_held = held_none cs (rows_zeros cs _ c.requires.0 refl);
      second_held = held_none cs (rows_zeros cs _ c.requires.0 refl);
    }
