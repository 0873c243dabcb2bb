use borrow.Author.Tests.{eq-eqb, ne_eqb}
use Rattle.std.proofs.lemmas.Result.{err_from_is_err_and}
use Rattle.grammar.specs.Syntax.{used}
use Rattle.model.specs.Books.{types}
use Rattle.grammar.specs.Reading.{arg_at}
use Rattle.itemreader.specs.Answers.{same}
use Rattle.itemreader.proofs.Items.{number_got, item_refused, type_refused, type_got}
use Rattle.itemreader.proofs.read_type.Goals as goal

pub returns-in_err-t-clause-reads : goal.returns-in_err-t-clause-reads
returns-in_err-t-clause-reads c =
    let s = c.args in
    let p = err_from_is_err_and c.from_residual.result c.from_residual.ensures.1 in
    λ a h R b.
    let (k, x, e) = item_refused same (arg_at s.book.now a R (used types) b s.at) c.in_err-t.field-0.0 (c.in_err-t.ensures.reads a h R b) in
    rw (p.1, p.2, e, type_refused s.book.now a R b s.at k x)

pub returns-then-t-eq0-clause-reads : goal.returns-then-t-eq0-clause-reads
returns-then-t-eq0-clause-reads c =
    let s = c.args in
    λ a h R b.
    let g = number_got (arg_at s.book.now a R (used types) b s.at) c.in_ok-t.t c.in_ok-t.next (c.in_ok-t.ensures.reads a h R b) in
    rw (type_got s.book.now a R b s.at c.in_ok-t.t c.in_ok-t.next g, eq-eqb c.in_ok-t.t 0 c.if-t-eq0.true)

pub returns : goal.returns
returns c =
    let s = c.args in
    record {
      reads = λ a h R b.
          let g = number_got (arg_at s.book.now a R (used types) b s.at) c.in_ok-t.t c.in_ok-t.next (c.in_ok-t.ensures.reads a h R b) in
          rw (type_got s.book.now a R b s.at c.in_ok-t.t c.in_ok-t.next g, ne_eqb c.in_ok-t.t 0 c.if-t-eq0.false);
      below = c.in_ok-t.ensures.below;
    }
