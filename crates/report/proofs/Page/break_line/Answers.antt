use native.Mathlib.Omega.{arith}
use Rattle.base.specs.Bytes.{bytes}
use Rattle.text.specs.Decimals.{decimal}
use Rattle.report.proofs.Writing.{put_then, put_as, put-length, line-two, break_length}
use Rattle.report.proofs.Page.break_line.Goals as goal

pub put-requires : goal.put-requires
put-requires c = omega (arith, break_length c.args.r c.args.name.now, c.requires)

pub number-requires : goal.number-requires
number-requires c =
    let p = c.put.ensures.put in
    omega (arith, break_length c.args.r c.args.name.now, c.requires, p.ends, put-length p)

pub put-requires-2 : goal.put-requires-2
put-requires-2 c =
    let p = put_then c.put.ensures.put c.number.ensures.put in
    omega (arith, break_length c.args.r c.args.name.now, c.requires, p.ends, put-length p)

pub put-requires-3 : goal.put-requires-3
put-requires-3 c =
    let p = put_then (put_then c.put.ensures.put c.number.ensures.put) c.put-2.ensures.put in
    omega (arith, break_length c.args.r c.args.name.now, c.requires, p.ends, put-length p)

pub put-requires-4 : goal.put-requires-4
put-requires-4 c =
    let p = put_then c.put.ensures.put c.number.ensures.put in
    let q = put_then c.put-2.ensures.put c.put-3.ensures.put in
    omega (arith, break_length c.args.r c.args.name.now, c.requires, p.ends, put-length p, q.ends, put-length q)

pub returns-clause-put : goal.returns-clause-put
returns-clause-put c =
    let number = put_then c.put.ensures.put c.number.ensures.put in
    let name = put_then c.put-2.ensures.put c.put-3.ensures.put in
    put_as (line-two (bytes "breaks") (decimal c.args.r) c.args.name.now) (put_then (put_then number name) c.put-4.ensures.put)
