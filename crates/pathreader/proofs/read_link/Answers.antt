use Prim.Native.Nat.{◌+◌}
use mathlib.Core.Path.{refl, ap, ◌∙◌}
use native.Mathlib.Omega.{arith}
use borrow.Author.Tests.{le-leb, lt-leb}
use lib.Dec.{leb}
use lib.ListN.{drop}
use Rattle.model.specs.Books.{links}
use Rattle.model.specs.Limits.{max_paths}
use Rattle.grammar.specs.Syntax.{used}
use Rattle.grammar.specs.Reading.{Begun, no_readers, arg_at}
use Rattle.tables.specs.Layout.{cell_count}
use Rattle.itemreader.specs.Answers.{same}
use Rattle.itemreader.proofs.Items.{passed_on, number_got}
use Rattle.pathreader.proofs.Paths.{done_no, done_passed, link_refused, link-full, link-free, link_read, path_drop}
use Rattle.pathreader.proofs.read_link.Goals as goal

abbrev none : Begun
none = record { forms = 0; paths = 0; items = 0 }

pub returns-in_err-p-clause-path_read : goal.returns-in_err-p-clause-path_read
returns-in_err-p-clause-path_read c =
    let s = c.args in
    λ a h. done_passed same (c.in_err-p.ensures.reads a h (no_readers s.book.now a) none) (passed_on c.from_residual.result _ c.from_residual.ensures.1) (link_refused s.book.now a (no_readers s.book.now a) none s.at (leb max_paths (s.n + s.up)))

pub returns-then-n-up-ge-MAX_PATHS-clause-path_read : goal.returns-then-n-up-ge-MAX_PATHS-clause-path_read
returns-then-n-up-ge-MAX_PATHS-clause-path_read c =
    let s = c.args in
    λ a h. done_no 7 (link-full s.book.now a (no_readers s.book.now a) none s.at (leb max_paths (s.n + s.up)) c.in_ok-p.p c.in_ok-p.next (number_got (arg_at s.book.now a (no_readers s.book.now a) (used links) none s.at) c.in_ok-p.p c.in_ok-p.next (c.in_ok-p.ensures.reads a h (no_readers s.book.now a) none)) (le-leb max_paths (s.n + s.up) c.if-n-up-ge-MAX_PATHS.true)) refl

pub returns : goal.returns
returns c =
    let s = c.args in
    let p = c.put_path.ensures in
    let b = c.in_ok-p.ensures.below in
    let f = c.if-n-up-ge-MAX_PATHS.false in
    record {
      path_read = λ a h. link_read s.n c.in_ok-p.p c.in_ok-p.next s.cells.now (link-free s.book.now a (no_readers s.book.now a) none s.at (leb max_paths (s.n + s.up)) c.in_ok-p.p c.in_ok-p.next (number_got (arg_at s.book.now a (no_readers s.book.now a) (used links) none s.at) c.in_ok-p.p c.in_ok-p.next (c.in_ok-p.ensures.reads a h (no_readers s.book.now a) none)) (lt-leb max_paths (s.n + s.up) f)) p;
      grown = (omega arith, omega arith, b.1);
      cells_unchanged = ap (drop cell_count) p ∙ path_drop s.n 0 c.in_ok-p.p 0 s.cells.now (omega arith);
    }
