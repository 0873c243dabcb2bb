use mathlib.Core.Path.{sym}
use borrow.Author.Tests.{le-leb, lt-leb}
use lib.Seq.{slice}
use Rattle.std.proofs.lemmas.Result.{err_from_is_err_and}
use Rattle.text.proofs.Decimals.{bound_err, bound-is}
use Rattle.model.specs.Limits.{max_count}
use Rattle.text.proofs.bound_at.Goals as goal

pub returns-in_err-v : goal.returns-in_err-v
returns-in_err-v c =
    let s = c.args in
    let p = err_from_is_err_and c.from_residual.result c.from_residual.ensures.1 in
    rw (p.1, p.2) (sym (bound_err (slice s.at s.end s.book.now) c.in_err-v.field-0.0 (sym c.in_err-v.ensures)))

pub returns-then-v-le-MOST_COUNT : goal.returns-then-v-le-MOST_COUNT
returns-then-v-le-MOST_COUNT c =
    let s = c.args in
    sym (rw (le-leb c.in_ok-v.v max_count c.if-v-le-MOST_COUNT.true) at (bound-is (slice s.at s.end s.book.now) c.in_ok-v.v (sym c.in_ok-v.ensures)))

pub returns-else-v-le-MOST_COUNT : goal.returns-else-v-le-MOST_COUNT
returns-else-v-le-MOST_COUNT c =
    let s = c.args in
    sym (rw (lt-leb c.in_ok-v.v max_count c.if-v-le-MOST_COUNT.false) at (bound-is (slice s.at s.end s.book.now) c.in_ok-v.v (sym c.in_ok-v.ensures)))
