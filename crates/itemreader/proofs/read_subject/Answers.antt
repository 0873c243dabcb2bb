use Prim.Native.Nat.{◌+◌}
use mathlib.Core.Path.{sym, ◌∙◌}
use native.Mathlib.Omega.{arith}
use borrow.Author.Tests.{le-leb, lt-leb}
use lib.ListN.{get_or}
use Rattle.std.proofs.lemmas.Result.{err_from_is_err_and}
use Rattle.tables.specs.Layout.{node_kinds}
use Rattle.grammar.specs.Syntax.{used}
use Rattle.model.specs.Books.{nodes}
use Rattle.grammar.specs.Reading.{arg_at}
use Rattle.itemreader.specs.Answers.{same}
use Rattle.itemreader.proofs.Items.{number_got, item_refused, subject_refused, subject_got, used_below}
use Rattle.itemreader.proofs.read_subject.Goals as goal

pub returns-in_err-v-clause-reads : goal.returns-in_err-v-clause-reads
returns-in_err-v-clause-reads c =
    let s = c.args in
    let p = err_from_is_err_and c.from_residual.result c.from_residual.ensures.1 in
    λ a h kinds R b.
    let (k, x, e) = item_refused same (arg_at s.book.now a R (used nodes) b s.at) c.in_err-v.field-0.0 (c.in_err-v.ensures.reads a h R b) in
    rw (p.1, p.2, e, subject_refused s.book.now a R b s.at k x)

pub overflow_add-v : goal.overflow_add-v
overflow_add-v c =
    let b = c.in_ok-v.ensures.below.0 in
    let n = c.args.pools.limits.node_limit in
    omega arith

pub offset_bounds-cells-v : goal.offset_bounds-cells-v
offset_bounds-cells-v c =
    let b = c.in_ok-v.ensures.below.0 in
    let n = c.args.pools.limits.node_limit in
    omega arith

pub bounds-cells-v : goal.bounds-cells-v
bounds-cells-v c =
    let b = c.in_ok-v.ensures.below.0 in
    let n = c.args.pools.limits.node_limit in
    omega arith

pub returns-then-cells-v-gt-NODE_BLANK-clause-reads : goal.returns-then-cells-v-gt-NODE_BLANK-clause-reads
returns-then-cells-v-gt-NODE_BLANK-clause-reads c =
    let s = c.args in
    let v = c.in_ok-v.v in
    let next = c.in_ok-v.next in
    λ a h kinds R b.
    let g = number_got (arg_at s.book.now a R (used nodes) b s.at) v next (c.in_ok-v.ensures.reads a h R b) in
    let k = sym (kinds v (used_below s.book.now a R b nodes s.at v next g)) ∙ lt-leb (get_or s.cells.now (node_kinds + v) 0) 1 c.if-cells-v-gt-NODE_BLANK.true in
    rw (subject_got s.book.now a R b s.at v next g, k)

pub returns : goal.returns
returns c =
    let s = c.args in
    let v = c.in_ok-v.v in
    let next = c.in_ok-v.next in
    record {
      reads = λ a h kinds R b.
          let g = number_got (arg_at s.book.now a R (used nodes) b s.at) v next (c.in_ok-v.ensures.reads a h R b) in
          let k = sym (kinds v (used_below s.book.now a R b nodes s.at v next g)) ∙ le-leb (get_or s.cells.now (node_kinds + v) 0) 1 c.if-cells-v-gt-NODE_BLANK.false in
          rw (subject_got s.book.now a R b s.at v next g, k);
      below = c.in_ok-v.ensures.below;
    }
