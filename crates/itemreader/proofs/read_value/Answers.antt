use Prim.Native.Nat.{◌+◌}
use mathlib.Core.Path.{sym}
use borrow.Author.Tests.{eq-eqb, ne_eqb}
use borrow.Author.Rules.{rules}
use Rattle.std.proofs.lemmas.Result.{err_from_is_err_and}
use Rattle.grammar.specs.Reading.{arg_at}
use Rattle.itemreader.proofs.Items.{value_not, value-is}
use Rattle.itemreader.proofs.read_value.Goals as goal

pub returns-in_err-end-clause-value : goal.returns-in_err-end-clause-value
unfolding arg_at
returns-in_err-end-clause-value c =
    let p = err_from_is_err_and c.from_residual.result c.from_residual.ensures.1 in
    let e = c.in_err-end.ensures in
    λ a R b. rw (p.1, p.2, e.1, ne_eqb _ 32 e.0)

pub returns-in_err-x-clause-value : goal.returns-in_err-x-clause-value
unfolding arg_at
returns-in_err-x-clause-value c =
    let s = c.args in
    let (z, q, f, l) = c.in_ok-end.ensures in
    let p = err_from_is_err_and c.from_residual-in_err-x.result c.from_residual-in_err-x.ensures.1 in
    λ a R b. rw (p.1, p.2, eq-eqb _ 32 z) (sym (value_not s.book.now a (s.at + 1) c.in_ok-end.end q c.in_err-x.field-0.0 (sym c.in_err-x.ensures)))

pub returns : goal.returns
unfolding arg_at
returns c =
    let s = c.args in
    let (z, q, f, l) = c.in_ok-end.ensures in
    record { value = λ a R b. rw (eq-eqb _ 32 z, value-is s.book.now a (s.at + 1) c.in_ok-end.end q c.in_ok-x.x (sym c.in_ok-x.ensures)) (search rules); inside = l }
