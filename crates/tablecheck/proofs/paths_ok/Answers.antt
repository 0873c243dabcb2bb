use Rattle.std.proofs.Common.{rules}
use Rattle.tables.specs.Layout.{path_count}
use Rattle.tables.specs.Decode.{path_entry_at}
use Rattle.tables.specs.WellFormed.{path_entry_ok}
use Rattle.tablecheck.proofs.Parts.{all_below}
use Rattle.tablecheck.proofs.paths_ok.Goals as goal

pub returns : goal.returns
returns c =
    let cs = c.args.cells.now in
    all_below (λ e. path_entry_ok cs e (path_entry_at cs e)) (path_count cs) c.path_count.ensures c.all.ensures.ran (λ x b q k. search rules)
