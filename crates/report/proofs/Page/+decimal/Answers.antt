use Prim.Native.Nat.{◌/◌, ◌<◌}
use mathlib.Core.Path.{sym, ap}
use native.Mathlib.Nat.{div-lt_self, mod-lt}
use native.Mathlib.Omega.{arith}
use lib.ListN.{length}
use Rattle.text.proofs.Inverse.{decimal_digit, decimal-more}
use Rattle.report.proofs.Writing.{put_then, put_as, put-length, one_more}
use Rattle.report.proofs.Page.+decimal.Goals as goal

pub digit-requires : goal.digit-requires
digit-requires t c = (c.if-n-lt10.true, omega (arith, ap length (decimal_digit c.args.n c.if-n-lt10.true), c.requires))

pub returns-then-n-lt10-clause-put : goal.returns-then-n-lt10-clause-put
returns-then-n-lt10-clause-put t c = put_as (sym (decimal_digit c.args.n c.if-n-lt10.true)) c.digit.ensures.put

pub decimal-requires : goal.decimal-requires
decimal-requires t c =
    let n = c.args.n in
    let less : n / 10 < n = div-lt_self (omega arith) (omega arith) in
    (omega (arith, less, c.decreases), omega (arith, one_more n c.if-n-lt10.false, c.requires))

pub digit-requires-2 : goal.digit-requires-2
digit-requires-2 t c =
    let n = c.args.n in
    let p = c.decimal.ensures.put in
    (mod-lt n (omega arith), omega (arith, p.ends, put-length p, one_more n c.if-n-lt10.false, c.requires))

pub returns-clause-put : goal.returns-clause-put
returns-clause-put t c = put_as (sym (decimal-more c.args.n c.if-n-lt10.false)) (put_then c.decimal.ensures.put c.digit-2.ensures.put)
