use Rattle.std.proofs.Common.{rules}
use lib.Dec.{ltb}
use Rattle.tables.specs.Layout.{shape_count, form_count, root_at}
use Rattle.tablecheck.proofs.Parts.{all_below}
use Rattle.tablecheck.proofs.shapes_ok.Goals as goal

pub returns : goal.returns
returns c =
    let cs = c.args.cells.now in
    all_below (λ s. ltb (root_at cs s) (form_count cs)) (shape_count cs) c.shape_count.ensures c.all.ensures.ran (λ x b q k. search rules)
