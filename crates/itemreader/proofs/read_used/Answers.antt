use mathlib.Core.Path.{sym, ◌∙◌}
use Prim.Native.Nat.{◌+◌}
use borrow.Author.Tests.{eq-eqb, ne_eqb, not-true, not-false}
use lib.Seq.{slice}
use Rattle.grammar.specs.Reading.{arg_at}
use Rattle.encoding.specs.Encode.{pool_base}
use Rattle.std.proofs.lemmas.Result.{err_from_is_err_and}
use Rattle.itemreader.specs.Answers.{pool_of}
use Rattle.itemreader.specs.Held.{count_of}
use Rattle.itemreader.proofs.Items.{named-short, found_below, used_ill, used_unknown, used_known}
use Rattle.itemreader.proofs.read_used.Goals as goal

pub returns-in_err-end-clause-reads : goal.returns-in_err-end-clause-reads
unfolding arg_at
returns-in_err-end-clause-reads c =
    let p = err_from_is_err_and c.from_residual.result c.from_residual.ensures.1 in
    let e = c.in_err-end.ensures in
    λ a h R b. rw (p.1, p.2, e.1, ne_eqb _ 32 e.0)

pub returns-then-not-is_well_named : goal.returns-then-not-is_well_named
unfolding arg_at
returns-then-not-is_well_named c =
    let s = c.args in
    let (z, q, f, l) = c.in_ok-end.ensures in
    record { reads = λ a h R b. rw (eq-eqb _ 32 z, used_ill s.book.now a (s.at + 1) c.in_ok-end.end q (pool_of s.pool) (sym c.is_well_named.ensures ∙ not-true _ c.if-not-is_well_named.true-raw)); below = tt }

pub look_up-requires : goal.look_up-requires
look_up-requires c =
    let s = c.args in
    let (z, q, f, l) = c.in_ok-end.ensures in
    (f, l, named-short (pool_of s.pool) s.book.now (s.at + 1) c.in_ok-end.end l (sym c.is_well_named.ensures ∙ not-false _ c.if-not-is_well_named.false-raw))

pub returns-in-Some : goal.returns-in-Some
unfolding arg_at
returns-in-Some c =
    let s = c.args in
    let (z, q, f, l) = c.in_ok-end.ensures in
    let w = slice (s.at + 1) c.in_ok-end.end s.book.now in
    let n = sym c.is_well_named.ensures ∙ not-false _ c.if-not-is_well_named.false-raw in
    let e = sym c.look_up.ensures ∙ c.in-Some.is in record {
      reads = λ a h R b. rw (eq-eqb _ 32 z, used_known s.book.now a (s.at + 1) c.in_ok-end.end q (pool_of s.pool) n c.in-Some.k (sym (h.finds (pool_of s.pool) w n) ∙ e));
      below = (found_below s.pools.names.now (pool_base (pool_of s.pool)) (count_of s.pools.counts (pool_of s.pool)) w c.in-Some.k e, l);
    }

pub returns-in-None-clause-reads : goal.returns-in-None-clause-reads
unfolding arg_at
returns-in-None-clause-reads c =
    let s = c.args in
    let (z, q, f, l) = c.in_ok-end.ensures in
    let w = slice (s.at + 1) c.in_ok-end.end s.book.now in
    let n = sym c.is_well_named.ensures ∙ not-false _ c.if-not-is_well_named.false-raw in
    λ a h R b. rw (eq-eqb _ 32 z, used_unknown s.book.now a (s.at + 1) c.in_ok-end.end q (pool_of s.pool) n (sym (h.finds (pool_of s.pool) w n) ∙ (sym c.look_up.ensures ∙ c.in-None.is)))
