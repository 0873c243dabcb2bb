use Prim.Native.Nat.{◌+◌}
use mathlib.Core.Path.{sym}
use borrow.Author.Tests.{eq-eqb, ne_eqb}
use lib.Seq.{slice}
use Rattle.std.proofs.lemmas.Result.{err_from_is_err_and}
use Rattle.grammar.specs.Reading.{arg_at}
use Rattle.itemreader.proofs.Items.{low-not, low-is, bound-below}
use Rattle.itemreader.proofs.read_low.Goals as goal

pub returns-in_err-end-clause-reads : goal.returns-in_err-end-clause-reads
unfolding arg_at
returns-in_err-end-clause-reads c =
    let p = err_from_is_err_and c.from_residual.result c.from_residual.ensures.1 in
    let e = c.in_err-end.ensures in
    λ a R b. rw (p.1, p.2, e.1, ne_eqb _ 32 e.0)

pub returns-in_err-n-clause-reads : goal.returns-in_err-n-clause-reads
unfolding arg_at
returns-in_err-n-clause-reads c =
    let s = c.args in
    let (z, q, f, l) = c.in_ok-end.ensures in
    let p = err_from_is_err_and c.from_residual-in_err-n.result c.from_residual-in_err-n.ensures.1 in
    λ a R b. rw (p.1, p.2, eq-eqb _ 32 z) (sym (low-not s.book.now a (s.at + 1) c.in_ok-end.end q c.in_err-n.field-0.0 (sym c.in_err-n.ensures)))

pub returns : goal.returns
unfolding arg_at
returns c =
    let s = c.args in
    let (z, q, f, l) = c.in_ok-end.ensures in
    let e = sym c.in_ok-n.ensures in
    record { reads = λ a R b. rw (eq-eqb _ 32 z, low-is s.book.now a (s.at + 1) c.in_ok-end.end q c.in_ok-n.n e); below = (bound-below (slice (s.at + 1) c.in_ok-end.end s.book.now) c.in_ok-n.n e, l) }
