use Rattle.plan.specs.Steps.{numbers_of}
use Rattle.compiler.proofs.Laws.{put_as, two_as, count_none, count-high, count_low, count-both}
use Rattle.compiler.proofs.Plan.count_steps.Goals as goal

pub returns-then-hi-eq-NO_NUMBER-clause-added : goal.returns-then-hi-eq-NO_NUMBER-clause-added
unfolding numbers_of
returns-then-hi-eq-NO_NUMBER-clause-added c =
    let a = c.args in
    count_none a.p a.j a.lo a.hi c.if-lo-eq0.true c.if-hi-eq-NO_NUMBER.true (two_as c.counting.ensures c.step.ensures c.two.ensures.added)

pub returns-then-lo-eq0-clause-added : goal.returns-then-lo-eq0-clause-added
returns-then-lo-eq0-clause-added c =
    let a = c.args in
    count-high a.p a.j a.lo a.hi c.if-lo-eq0.true c.if-hi-eq-NO_NUMBER.false (two_as c.counting-then-lo-eq0.ensures c.counting-then-lo-eq0-2.ensures c.two-then-lo-eq0.ensures.added)

pub returns-then-hi-eq-NO_NUMBER-2-clause-added : goal.returns-then-hi-eq-NO_NUMBER-2-clause-added
returns-then-hi-eq-NO_NUMBER-2-clause-added c =
    let a = c.args in
    count_low a.p a.j a.lo a.hi c.if-lo-eq0.false c.if-hi-eq-NO_NUMBER-2.true (two_as c.counting-2.ensures c.counting-3.ensures c.two-own.ensures.added)

pub returns-clause-added : goal.returns-clause-added
unfolding numbers_of
returns-clause-added c =
    let a = c.args in
    let u = c.push-above in
    let e = c.push-either in
    count-both a.p a.j a.lo a.hi c.if-lo-eq0.false c.if-hi-eq-NO_NUMBER-2.false (two_as c.counting-2.ensures c.counting-3.ensures c.two-own.ensures.added) (put_as _ _ u.ensures.stored c.counting-4.ensures) (put_as _ _ e.ensures.stored c.step-2.ensures) u.ensures.next e.ensures.next u.ensures.number e.ensures.number
