-- `clear` meets its contract: each table is zeros up to its limit, and then what stood there.
use lib.IntN.{pos}
use borrow.Author.Rules.{rules}
use Rattle.tables.specs.Layout.{name_count, cell_count, value_count}
use Rattle.reader.proofs.Cleared.{zeros_over}
use Rattle.reader.proofs.clear.Goals as goal

pub returns : goal.returns
returns c =
    let a = c.args in
    let p = c.requires in
    record {
      new_names = zeros_over name_count 0 a.names.now p.0 (c.fill.ensures.after (λ y e. search rules));
      new_cells = zeros_over cell_count 0 a.cells.now p.1 (c.fill-2.ensures.after (λ y e. search rules));
      new_values = zeros_over value_count (pos 0) a.values.now p.2 (c.fill-3.ensures.after (λ y e. search rules));
    }
