use Prim.Native.Nat.{◌-◌}
use mathlib.Core.Path.{sym, ap, ◌∙◌}
use native.Mathlib.Omega.{arith}
use borrow.Author.Tests.{le-leb, lt-leb}
use lib.Seq.{slice}
use Rattle.std.specs.Prelude.{Ok}
use Rattle.std.proofs.lemmas.Result.{err_from_is_err_and}
use Rattle.text.proofs.Decimals.{negative_err, negative_zero, negative_is, minus-one-fits, minus-one-back}
use Rattle.text.proofs.negative.Goals as goal

pub returns-in_err-v : goal.returns-in_err-v
returns-in_err-v c =
    let s = c.args in
    let p = err_from_is_err_and c.from_residual.result c.from_residual.ensures.1 in
    rw (p.1, p.2) (sym (negative_err (slice s.at s.end s.book.now) c.in_err-v.field-0.0 (sym c.in_err-v.ensures)))

pub returns-then-v-eq0 : goal.returns-then-v-eq0
returns-then-v-eq0 c =
    let s = c.args in
    sym (negative_zero (slice s.at s.end s.book.now) c.in_ok-v.v (sym c.in_ok-v.ensures) c.if-v-eq0.true)

pub returns-then-v-gt9223372036854775808 : goal.returns-then-v-gt9223372036854775808
returns-then-v-gt9223372036854775808 c =
    let s = c.args in
    sym (rw (lt-leb c.in_ok-v.v 9223372036854775808 c.if-v-gt9223372036854775808.true) at (negative_is (slice s.at s.end s.book.now) c.in_ok-v.v (sym c.in_ok-v.ensures) c.if-v-eq0.false))

pub overflow_sub-result-2 : goal.overflow_sub-result-2
overflow_sub-result-2 c = minus-one-fits (c.in_ok-v.v - 1) (omega arith)

pub returns : goal.returns
returns c =
    let s = c.args in
    ap Ok (minus-one-back (c.in_ok-v.v - 1) (omega arith)) ∙ sym (rw (le-leb c.in_ok-v.v 9223372036854775808 c.if-v-gt9223372036854775808.false) at (negative_is (slice s.at s.end s.book.now) c.in_ok-v.v (sym c.in_ok-v.ensures) c.if-v-eq0.false))
