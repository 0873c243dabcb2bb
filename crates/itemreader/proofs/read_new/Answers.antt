use Prim.Native.Nat.{◌+◌, ◌<◌, ◌≤◌}
use mathlib.Core.Path.{sym, ◌∙◌}
use native.Mathlib.Omega.{arith}
use borrow.Author.Tests.{eq-eqb, ne_eqb, not-true, not-false}
use lib.Seq.{slice, length-slice}
use Rattle.std.proofs.lemmas.Result.{err_from_is_err_and}
use Rattle.model.specs.Valid.{capacity}
use Rattle.grammar.specs.Reading.{arg_at}
use Rattle.itemreader.specs.Answers.{pool_of}
use Rattle.itemreader.specs.Held.{count_of}
use Rattle.itemreader.proofs.Items.{named-short, new_ill, new_known, new_full, new_free, room-none, room-some}
use Rattle.itemreader.proofs.read_new.Goals as goal

pub returns-in_err-end-clause-reads : goal.returns-in_err-end-clause-reads
unfolding arg_at
returns-in_err-end-clause-reads c =
    let p = err_from_is_err_and c.from_residual.result c.from_residual.ensures.1 in
    let e = c.in_err-end.ensures in
    λ a h R b. rw (p.1, p.2, e.1, ne_eqb _ 32 e.0)

pub returns-then-not-is_well_named : goal.returns-then-not-is_well_named
unfolding arg_at
returns-then-not-is_well_named c =
    let s = c.args in
    let (z, q, f, l) = c.in_ok-end.ensures in
    record { reads = λ a h R b. rw (eq-eqb _ 32 z, new_ill s.book.now a (s.at + 1) c.in_ok-end.end q (pool_of s.pool) (sym c.is_well_named.ensures ∙ not-true _ c.if-not-is_well_named.true-raw)); below = tt }

pub look_up-requires : goal.look_up-requires
look_up-requires c =
    let s = c.args in
    let (z, q, f, l) = c.in_ok-end.ensures in
    (f, l, named-short (pool_of s.pool) s.book.now (s.at + 1) c.in_ok-end.end l (sym c.is_well_named.ensures ∙ not-false _ c.if-not-is_well_named.false-raw))

pub returns-in-Some-clause-reads : goal.returns-in-Some-clause-reads
unfolding arg_at
returns-in-Some-clause-reads c =
    let s = c.args in
    let (z, q, f, l) = c.in_ok-end.ensures in
    let w = slice (s.at + 1) c.in_ok-end.end s.book.now in
    let n = sym c.is_well_named.ensures ∙ not-false _ c.if-not-is_well_named.false-raw in
    λ a h R b. rw (eq-eqb _ 32 z, new_known s.book.now a (s.at + 1) c.in_ok-end.end q (pool_of s.pool) n c.in-Some.field-0 (sym (h.finds (pool_of s.pool) w n) ∙ (sym c.look_up.ensures ∙ c.in-Some.is)))

pub returns-then-most-count : goal.returns-then-most-count
unfolding arg_at
returns-then-most-count c =
    let s = c.args in
    let n = s.pools.counts in
    let p = pool_of s.pool in
    let (z, q, f, l) = c.in_ok-end.ensures in
    let w = slice (s.at + 1) c.in_ok-end.end s.book.now in
    let e = sym c.is_well_named.ensures ∙ not-false _ c.if-not-is_well_named.false-raw in
    let u = sym c.look_up.ensures ∙ c.in_default.is in
    let m : capacity p ≤ count_of n p = omega (arith, c.most.ensures, c.count.ensures, c.if-most-count.true) in
    record { reads = λ a h R b. rw (eq-eqb _ 32 z, new_full s.book.now a (s.at + 1) c.in_ok-end.end q p e (sym (h.finds p w e) ∙ u) (room-none a p (count_of n p) (h.names_counted p) m)); below = tt }

pub overflow_sub-result : goal.overflow_sub-result
overflow_sub-result c = let (z, q, f, l) = c.in_ok-end.ensures in omega arith

pub returns : goal.returns
unfolding arg_at
returns c =
    let s = c.args in
    let n = s.pools.counts in
    let p = pool_of s.pool in
    let (z, q, f, l) = c.in_ok-end.ensures in
    let w = slice (s.at + 1) c.in_ok-end.end s.book.now in
    let e = sym c.is_well_named.ensures ∙ not-false _ c.if-not-is_well_named.false-raw in
    let u = sym c.look_up.ensures ∙ c.in_default.is in
    let m : count_of n p < capacity p = omega (arith, c.most.ensures, c.count.ensures, c.if-most-count.false) in
    record {
      reads = λ a h R b. rw (eq-eqb _ 32 z, new_free s.book.now a (s.at + 1) c.in_ok-end.end q p e (sym (h.finds p w e) ∙ u) (room-some a p (count_of n p) (h.names_counted p) m), length-slice (s.at + 1) c.in_ok-end.end s.book.now l);
      below = (omega (arith, named-short p s.book.now (s.at + 1) c.in_ok-end.end l e), l);
    }
