use Prim.Native.Nat.{◌<◌}
use mathlib.Core.Path.{◌∙◌}
use native.Mathlib.Nat.{mod-lt}
use native.Mathlib.Omega.{arith}
use Rattle.itemreader.specs.Answers.{pool_of}
use Rattle.itemreader.proofs.Items.{pool_within}
use Rattle.itemreader.proofs.Places.{pool_inside, count-within}
use Rattle.reader.proofs.Indexing.{joined_yes, joined_no}
use Rattle.reader.proofs.index_pool.Goals as goal

pub overflow_mul-at : goal.overflow_mul-at
overflow_mul-at c =
    let w = pool_within c.args.after c.args.pool c.requires.2 in
    let k = c.count.ensures in
    let l = c.if-i-count.true in
    omega arith

pub overflow_add-at : goal.overflow_add-at
overflow_add-at c =
    let w = pool_within c.args.after c.args.pool c.requires.2 in
    let k = c.count.ensures in
    let l = c.if-i-count.true in
    let f = c.base-first.ensures in
    omega arith

pub overflow_add-at-then-i-count : goal.overflow_add-at-then-i-count
overflow_add-at-then-i-count c =
    let w = pool_within c.args.after c.args.pool c.requires.2 in
    let k = c.count.ensures in
    let l = c.if-i-count.true in
    let f = c.base-first.ensures in
    omega arith

pub hash-requires : goal.hash-requires
hash-requires c =
    let w = pool_within c.args.after c.args.pool c.requires.2 in
    let k = c.count.ensures in
    let l = c.if-i-count.true in
    let f = c.base-first.ensures in
    let n = c.requires.1 in
    (omega arith, omega arith)

pub nonzero_rem-hash : goal.nonzero_rem-hash
nonzero_rem-hash c =
    let p = (pool_inside (pool_of c.args.pool)).1 in
    let m = c.most.ensures in
    omega arith

pub link-requires : goal.link-requires
link-requires c =
    let p = pool_of c.args.pool in
    let r = (pool_inside p).0 in
    let w = count-within c.args.after p c.requires.2 in
    let k = c.count.ensures in
    let l = c.if-i-count.true in
    let f = c.base-first.ensures in
    let m = c.most.ensures in
    let q : 0 < c.most.result = rw m (pool_inside p).1 in
    let h = mod-lt c.hash.result q in
    let n = c.requires.0 in
    (omega arith, omega arith, omega arith)

pub returns-then-i-count : goal.returns-then-i-count
returns-then-i-count c =
    let s = c.args in
    c.link.ensures ∙ joined_yes s.names.now s.before s.after (pool_of s.pool) s.index.now c.count-i.result c.count.result c.count-i.ensures c.count.ensures c.base-first.result c.most.result c.hash.result c.base-first.ensures c.most.ensures c.hash.ensures c.if-i-count.true

pub returns-else-i-count : goal.returns-else-i-count
returns-else-i-count c =
    let s = c.args in
    joined_no s.names.now s.before s.after (pool_of s.pool) s.index.now c.count-i.result c.count.result c.count-i.ensures c.count.ensures c.if-i-count.false
