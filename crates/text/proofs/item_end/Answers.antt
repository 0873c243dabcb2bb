use Prim.Native.Nat.{◌-◌}
use lib.ListN.{length, take, drop}
use Rattle.std.proofs.Common.{rules}
use Rattle.std.proofs.lemmas.Iterator.{YieldsList-from_slice}
use Rattle.std.proofs.lemmas.Iterator.Search.{position_from_yields_List}
use Rattle.text.specs.Items.{edge}
use Rattle.text.proofs.Items.{item-found}
use Rattle.text.proofs.item_end.Goals as goal

pub returns : goal.returns
returns c =
    let s = c.args.book.now in
    let m = c.min.result in
    item-found s c.args.at m c.min.ensures
    (position_from_yields_List edge _ _ c.position.result c.position.ensures.ran (YieldsList-from_slice (take (length s - m) (drop m s)) c.iter.ensures.rest) (λ x b q k. search rules))
    c.unwrap_or.ensures
