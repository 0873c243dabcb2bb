-- `copy` meets its contract. The invariant: the first i values stand there.
use mathlib.Core.Path.{ap, ◌∙◌}
use lib.ListN.{set, take}
use Rattle.base.proofs.Copies.{over_more, over-all, over_room}
use Rattle.base.proofs.copy.Goals as goal

pub loop-i-preserved : goal.loop-i-preserved
loop-i-preserved g c =
    let x = c.x-item.result in
    c.put.ensures ∙ ap (set c.loop-i.into c.loop-i.i) c.x-item.is ∙ over_more x c.args.into.now (take c.min-n.result c.args.from.now) c.loop-i.i c.loop-i-test.true c.loop-i.invariant

pub returns : goal.returns
returns g c =
    let room = take c.min-n.result c.args.from.now in
    over-all c.args.into.now room c.loop-i.i c.loop-i-test.false c.loop-i.invariant ∙ over_room c.args.into.now c.args.from.now c.min-n.result c.min-n.ensures
