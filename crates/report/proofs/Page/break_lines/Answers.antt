use mathlib.Core.Path.{refl, ap, ◌∙◌}
use native.Mathlib.Omega.{arith}
use lib.ListN.{get_or}
use lib.Dec.{ltb}
use borrow.Author.Tests.{ltb-true}
use Rattle.base.proofs.Lists.{allb-at}
use Rattle.model.specs.Limits.{max_nodes}
use Rattle.report.specs.Report.{break_line}
use Rattle.tables.specs.Names.{node_name_at}
use Rattle.report.proofs.Writing.{put-none, put_then, put_as, put-length, break_fits}
use Rattle.report.proofs.Parts.{lines_none, lines_more}
use Rattle.report.proofs.Page.break_lines.Goals as goal

pub loop-v-init : goal.loop-v-init
loop-v-init c = let page = c.args.self.now in (refl, omega arith, put_as (lines_none c.args.r) (put-none page.bytes.now page.at (omega (arith, c.requires.0))))

pub stored_name-requires : goal.stored_name-requires
stored_name-requires c =
    let list = c.args.list.now in
    let v = get_or list c.loop-v.v-index 0 in
    (ltb-true v max_nodes (allb-at (λ w. ltb w max_nodes) list 0 c.requires.3 c.loop-v.v-index c.loop-v-test.true), c.requires.1)

pub break_line-requires : goal.break_line-requires
break_line-requires c =
    let q = c.requires in
    let l = c.loop-v in
    omega (arith, break_fits c.args.r c.stored_name.result.now q.4 c.stored_name.ensures.upper_bound, l.invariant.1, put-length l.invariant.2, q.0, q.2, c.loop-v-test.true)

pub loop-v-preserved : goal.loop-v-preserved
loop-v-preserved c =
    let a = c.args in
    let l = c.loop-v in
    let p = c.break_line.ensures.put in
    let named = put_as (ap (break_line a.r) c.stored_name.ensures.name) p in (
      c.break_line.ensures.same_reference ∙ l.invariant.0,
      omega (arith, l.invariant.1, p.ends, break_fits a.r c.stored_name.result.now c.requires.4 c.stored_name.ensures.upper_bound),
      put_as (lines_more a.r (node_name_at a.names.now) a.list.now l.v-index c.loop-v-test.true) (put_then l.invariant.2 named),
    )
