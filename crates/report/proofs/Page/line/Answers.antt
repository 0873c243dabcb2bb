use mathlib.Core.Path.{◌∙◌}
use native.Mathlib.Omega.{arith}
use Rattle.report.proofs.Writing.{put_then, put_as, put-length, numbers_start, numbers_more, numbers_end, numbers_fit, word_fits, number_fits}
use Rattle.report.proofs.Page.line.Goals as goal

pub put-requires : goal.put-requires
put-requires c = omega (arith, word_fits c.args.word.now c.args.ns.now, c.requires)

pub put-requires-2 : goal.put-requires-2
put-requires-2 c =
    let p = c.put.ensures.put in
    omega (arith, word_fits c.args.word.now c.args.ns.now, c.requires, p.ends, put-length p)

pub loop-n-init : goal.loop-n-init
loop-n-init c = (c.put-2.ensures.same_reference ∙ c.put.ensures.same_reference, put_as (numbers_start c.args.word.now c.args.ns.now) (put_then c.put.ensures.put c.put-2.ensures.put))

pub number-requires : goal.number-requires
number-requires c =
    let p = c.loop-n.invariant.1 in
    omega (arith, number_fits c.args.word.now c.args.ns.now c.loop-n.n-index c.loop-n-test.true, c.requires, p.ends, put-length p)

pub loop-n-preserved : goal.loop-n-preserved
loop-n-preserved c =
    let l = c.loop-n in
    (c.number.ensures.same_reference ∙ l.invariant.0, put_as (numbers_more c.args.word.now c.args.ns.now l.n-index c.loop-n-test.true) (put_then l.invariant.1 c.number.ensures.put))

pub put-requires-3 : goal.put-requires-3
put-requires-3 c =
    let p = c.loop-n.invariant.1 in
    omega (arith, numbers_fit c.args.word.now c.args.ns.now c.loop-n.n-index, c.requires, p.ends, put-length p)

pub returns-clause-put : goal.returns-clause-put
returns-clause-put c = put_as (numbers_end c.args.word.now c.args.ns.now c.loop-n.n-index c.loop-n-test.false) (put_then c.loop-n.invariant.1 c.put-3.ensures.put)
