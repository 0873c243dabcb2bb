use native.Mathlib.Omega.{arith}
use Rattle.itemreader.specs.Answers.{pool_of}
use Rattle.itemreader.proofs.Items.{pool_within}
use Rattle.itemreader.proofs.Places.{pool_inside, count-within}
use Rattle.itemreader.proofs.look_up.Goals as goal

pub find_chained-requires : goal.find_chained-requires
find_chained-requires c =
    let p = c.args.pools in
    let w = pool_within p.counts c.args.pool p.limits in
    let l = pool_inside (pool_of c.args.pool) in
    let f = l.0 in
    let k = count-within p.counts (pool_of c.args.pool) p.limits in
    let n = p.long in
    rw (c.base-first.ensures, c.count.ensures, c.most.ensures) (c.requires.0, c.requires.1, c.requires.2, omega arith, omega arith, omega arith, l.1, p.indexed.chains (pool_of c.args.pool))

pub returns : goal.returns
returns c = rw (c.find_chained.ensures, c.base-first.ensures, c.count.ensures)
