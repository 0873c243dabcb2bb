use mathlib.Core.Path.{sym}
use borrow.Author.Tests.{lt-ltb, le-ltb}
use lib.Seq.{slice}
use Rattle.std.proofs.lemmas.Result.{err_from_is_err_and}
use Rattle.text.proofs.Decimals.{positive_err, positive-is}
use Rattle.text.proofs.positive.Goals as goal

pub returns-in_err-v : goal.returns-in_err-v
returns-in_err-v c =
    let s = c.args in
    let p = err_from_is_err_and c.from_residual.result c.from_residual.ensures.1 in
    rw (p.1, p.2) (sym (positive_err (slice s.at s.end s.book.now) c.in_err-v.field-0.0 (sym c.in_err-v.ensures)))

pub returns-then-v-lt9223372036854775808 : goal.returns-then-v-lt9223372036854775808
returns-then-v-lt9223372036854775808 c =
    let s = c.args in
    let l = lt-ltb c.in_ok-v.v 9223372036854775808 c.if-v-lt9223372036854775808.true in
    rw l (sym (rw l at (positive-is (slice s.at s.end s.book.now) c.in_ok-v.v (sym c.in_ok-v.ensures))))

pub returns-else-v-lt9223372036854775808 : goal.returns-else-v-lt9223372036854775808
returns-else-v-lt9223372036854775808 c =
    let s = c.args in
    sym (rw (le-ltb c.in_ok-v.v 9223372036854775808 c.if-v-lt9223372036854775808.false) at (positive-is (slice s.at s.end s.book.now) c.in_ok-v.v (sym c.in_ok-v.ensures)))
