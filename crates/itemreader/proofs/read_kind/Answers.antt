use Prim.Native.Nat.{◌+◌}
use mathlib.Core.Path.{sym}
use borrow.Author.Tests.{eq-eqb, ne_eqb}
use lib.Seq.{slice}
use Rattle.std.proofs.lemmas.Result.{err_from_is_err_and}
use Rattle.grammar.specs.Reading.{arg_at}
use Rattle.itemreader.specs.Words.{kinds}
use Rattle.itemreader.proofs.Items.{kind-unknown, kind-known, kind-below}
use Rattle.itemreader.proofs.Heads.{found_part}
use Rattle.itemreader.proofs.read_kind.Goals as goal

pub returns-in_err-end-clause-reads : goal.returns-in_err-end-clause-reads
unfolding arg_at
returns-in_err-end-clause-reads c =
    let p = err_from_is_err_and c.from_residual.result c.from_residual.ensures.1 in
    let e = c.in_err-end.ensures in
    λ a R b. rw (p.1, p.2, e.1, ne_eqb _ 32 e.0)

pub returns-in-Some : goal.returns-in-Some
unfolding arg_at
returns-in-Some c =
    let s = c.args in
    let (z, q, f, l) = c.in_ok-end.ensures in
    let e = found_part kinds s.book.now (s.at + 1) c.in_ok-end.end f c.keyword.ensures c.in-Some.is in
    record { reads = λ a R b. rw (eq-eqb _ 32 z) (sym (kind-known s.book.now a (s.at + 1) c.in_ok-end.end q c.in-Some.k e)); below = (kind-below (slice (s.at + 1) c.in_ok-end.end s.book.now) c.in-Some.k e, l) }

pub returns-in-None-clause-reads : goal.returns-in-None-clause-reads
unfolding arg_at
returns-in-None-clause-reads c =
    let s = c.args in
    let (z, q, f, l) = c.in_ok-end.ensures in
    λ a R b. rw (eq-eqb _ 32 z, kind-unknown s.book.now a (s.at + 1) c.in_ok-end.end q (found_part kinds s.book.now (s.at + 1) c.in_ok-end.end f c.keyword.ensures c.in-None.is))
