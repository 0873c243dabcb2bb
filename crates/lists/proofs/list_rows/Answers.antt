use Prim.Native.Nat.{◌-◌, ◌*◌}
use lib.ListN.{drop, length, length-take, length-drop}
use mathlib.Core.Path.{refl}
use native.Mathlib.Omega.{arith}
use Rattle.model.specs.Limits.{max_nodes}
use Rattle.lists.specs.Rows.{list_in}
use Rattle.lists.proofs.Rows.{listed-none, listed_more, row-tail, few-nodes, few-rules, step_in}
use Rattle.lists.proofs.list_rows.Goals as goal

pub loop-r-init : goal.loop-r-init
loop-r-init c =
    let a = c.args in
    let q = c.requires in
    (omega (arith, few-rules a.cells.now a.plan.now q.0 q.1, c.rule_count-r-end.ensures), q.3, q.4, listed-none (list_in a.cells.now a.plan.now a.work.now) a.lists.now a.lengths.now)

pub list_rule-n-requires : goal.list_rule-n-requires
list_rule-n-requires c =
    let a = c.args in
    let q = c.requires in
    let l = c.loop-r in
    (few-nodes a.cells.now a.plan.now q.0 q.1, omega (arith, length-take (length l.lists - max_nodes * l.r) (drop (max_nodes * l.r) l.lists), length-drop (max_nodes * l.r) l.lists, l.invariant.0, l.invariant.1, c.loop-r-test.true), omega (arith, step_in a.cells.now a.plan.now q.0 q.1 l.r (omega (arith, c.loop-r-test.true, c.rule_count-r-end.ensures)), q.2))

pub loop-r-preserved : goal.loop-r-preserved
loop-r-preserved c =
    let a = c.args in
    let l = c.loop-r in
    let n = c.list_rule-n in
    let list = list_in a.cells.now a.plan.now a.work.now in
    let next = row-tail l.lists (list l.r) l.r (length l.lists - max_nodes * l.r) refl n.ensures.new_row in
    let more = listed_more list a.lists.now a.lengths.now l.r l.lists l.lengths l.invariant.3 _ n.result next (omega (arith, n.ensures.value, n.ensures.upper_bound, l.invariant.0, l.invariant.1, c.loop-r-test.true)) n.ensures.value in
    (l.invariant.0, omega (arith, more.lists-kept, c.requires.3), omega (arith, more.lengths-kept, c.requires.4), more)
