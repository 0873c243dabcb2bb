use mathlib.Core.Path.{sym, ◌∙◌}
use Rattle.itemreader.proofs.Items.{item-within}
use Rattle.itemreader.proofs.item_after.Goals as goal

pub returns : goal.returns
returns c =
    let s = c.args in
    let z = sym c.byte.ensures ∙ c.if-byte-ne32.false in
    let w = item-within s.book.now s.at c.item_end.result 31 z c.item_end.ensures in
    (z, c.item_end.ensures, w.0, w.1)
