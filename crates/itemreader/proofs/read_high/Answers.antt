use Prim.Native.Nat.{◌+◌}
use mathlib.Core.Path.{sym, ◌∙◌}
use borrow.Author.Tests.{eq-eqb, ne_eqb}
use native.Mathlib.Omega.{arith}
use Rattle.std.proofs.lemmas.Result.{err_from_is_err_and}
use Rattle.model.specs.Limits.{max_count}
use Rattle.encoding.specs.Flatten.{upper_number}
use Rattle.grammar.specs.Reading.{arg_at}
use Rattle.itemreader.proofs.Items.{high-star, below_more, high_arg}
use Rattle.itemreader.proofs.read_high.Goals as goal

pub returns-in_err-end-clause-reads : goal.returns-in_err-end-clause-reads
unfolding arg_at
returns-in_err-end-clause-reads c =
    let p = err_from_is_err_and c.from_residual.result c.from_residual.ensures.1 in
    let e = c.in_err-end.ensures in
    λ a R b. rw (p.1, p.2, e.1, ne_eqb _ 32 e.0)

pub returns-then-is_word : goal.returns-then-is_word
unfolding arg_at upper_number
returns-then-is_word c =
    let s = c.args in
    let (z, q, f, l) = c.in_ok-end.ensures in
    record { reads = λ a R b. rw (eq-eqb _ 32 z, high-star s.book.now a (s.at + 1) c.in_ok-end.end q (sym c.is_word.ensures ∙ c.if-is_word.true)); below = (omega arith, l) }

pub returns : goal.returns
unfolding arg_at
returns c =
    let s = c.args in
    let (z, q, f, l) = c.in_ok-end.ensures in
    record { reads = λ a R b. high_arg s.book.now a R b s.at z c.in_ok-end.end q (sym c.is_word.ensures ∙ c.if-is_word.false) c.read_low.result (c.read_low.ensures.reads a R b); below = below_more (max_count + 1) 65536 _ c.read_low.result (omega arith) c.read_low.ensures.below }
