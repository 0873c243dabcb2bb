use mathlib.Core.List.{[]}
use Rattle.std.proofs.Common.{rules}
use Rattle.tables.specs.Layout.{form_count}
use Rattle.tables.specs.Decode.{entry_at}
use Rattle.tables.specs.WellFormed.{entry_ok}
use Rattle.tablecheck.proofs.Parts.{all_below}
use Rattle.tablecheck.proofs.forms_ok.Goals as goal

pub returns : goal.returns
returns c =
    let cs = c.args.cells.now in
    all_below (λ e. entry_ok cs e (entry_at cs [] e)) (form_count cs) c.form_count.ensures c.all.ensures.ran (λ x b q k. search rules)
