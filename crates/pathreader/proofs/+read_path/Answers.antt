use Prim.Native.Nat.{◌+◌, ◌-◌, ℕ}
use mathlib.Core.Path.{refl, sym, ap, ◌∙◌}
use mathlib.Core.List.{List}
use native.Mathlib.Omega.{arith}
use Rattle.std.specs.Prelude.{Ok, Err}
use Rattle.grammar.specs.Syntax.{path}
use Rattle.grammar.specs.Reading.{path_begun, after, readers_at}
use Rattle.stores.specs.Entries.{put_path}
use Rattle.itemreader.proofs.Items.{passed_on}
use Rattle.pathreader.specs.Paths.{paths_after}
use Rattle.pathreader.proofs.Paths.{done_no, done_is, done_passed, path_got, path_unspaced, path_bare, path_head_refused, path_word_lem, one_path, two_paths, body_refused, body_one, body_second_refused, body_joined, begun_first, begun_second, one-count, one-stored, joined_count, joined_stored, closed_read, closed-grown}
use Rattle.pathreader.proofs.+read_path.Goals as goal

pub returns-then-byte-ne32-clause-path_read : goal.returns-then-byte-ne32-clause-path_read
returns-then-byte-ne32-clause-path_read t c =
    let s = c.args in
    λ a h b q. done_no 2 (path_unspaced s.book.now a b s.at (s.n + s.up) q s.left (λ e. c.if-byte-ne32.true (c.byte.ensures ∙ e))) refl

pub returns-in_err-code-clause-path_read : goal.returns-in_err-code-clause-path_read
returns-in_err-code-clause-path_read t c =
    let s = c.args in
    let z = sym c.byte.ensures ∙ c.if-byte-ne32.false in
    λ a h b q.
    let (k, x, e) = path_head_refused s.book.now a b s.at (s.n + s.up) q z s.left c.in_err-code.field-0.0 c.in_err-code.ensures.value in
    done_no k x (passed_on c.from_residual.result _ c.from_residual.ensures.1 ∙ ap Err e)

pub returns-in_default-clause-path_read : goal.returns-in_default-clause-path_read
returns-in_default-clause-path_read t c =
    let s = c.args in
    let z = sym c.byte.ensures ∙ c.if-byte-ne32.false in
    λ a h b q. done_is (path_bare s.book.now a b s.at (s.n + s.up) q z s.left (ap Ok (sym c.in_default.is) ∙ c.in_ok-code.ensures.value)) (c.read_link.ensures.path_read a h)

pub returns-in_err-m-clause-path_read : goal.returns-in_err-m-clause-path_read
returns-in_err-m-clause-path_read t c =
    let s = c.args in
    let z = sym c.byte.ensures ∙ c.if-byte-ne32.false in
    let v = ap Ok (sym c.in-Some.is) ∙ c.in_ok-code.ensures.value in
    λ a h b q.
    done_passed (paths_after s.n) (c.in_err-m.ensures.path_read a h (path_begun b) (begun_first b s.n s.up q)).answer (passed_on c.from_residual-in_err-m.result _ c.from_residual-in_err-m.ensures.1)
    (λ k x. path_word_lem s.book.now a b s.at (s.n + s.up) q z s.left c.in-Some.code c.in-Some.end v ∙ body_refused s.book.now a (readers_at s.book.now a (s.left - 1)) (path_begun b) c.in-Some.end c.in-Some.code k x)

pub returns-then-code : goal.returns-then-code
returns-then-code t c =
    let s = c.args in
    let z = sym c.byte.ensures ∙ c.if-byte-ne32.false in
    let v = ap Ok (sym c.in-Some.is) ∙ c.in_ok-code.ensures.value in
    let l = c.in_ok-m.ensures.grown in
    let g0 = l.0 in
    let g1 = l.1 in
    let hw = (rw c.in-Some.is at c.in_ok-code.ensures.headed).0 in
    let one = c.if-code.true in
    let mid : List ℕ = c.read_path.new.cells in
    let code : ℕ = c.in-Some.code in
    let m : ℕ = c.in_ok-m.m in
    let next : ℕ = c.in_ok-m.next in record {
      path_read = λ a h b q.
          let g = path_got m next (c.in_ok-m.ensures.path_read a h (path_begun b) (begun_first b s.n s.up q)) in
          done_is (path_word_lem s.book.now a b s.at (s.n + s.up) q z s.left code c.in-Some.end v ∙ body_one s.book.now a (readers_at s.book.now a (s.left - 1)) (path_begun b) c.in-Some.end g.tree next g.is code one hw)
          (closed_read s.book.now next m a (one_path code g.tree) s.n s.cells.now (put_path m (code + 1) (m - 1) 0 mid) mid c.close_path.new.cells c.close_path.result (one-count s.n m g.tree s.cells.now mid g.count g.cells code one hw) (one-stored s.n m g.tree s.cells.now mid g.count g.cells code one hw) c.close_path.ensures.value c.close_path.ensures.new_cells);
      grown = rw c.close_path.ensures.value (closed-grown s.book.now next m (s.n + 1) s.up (omega arith) (omega arith));
      cells_unchanged = c.close_path.ensures.cells_unchanged ∙ c.in_ok-m.ensures.cells_unchanged;
    }

pub returns-in_err-l-clause-path_read : goal.returns-in_err-l-clause-path_read
returns-in_err-l-clause-path_read t c =
    let s = c.args in
    let z = sym c.byte.ensures ∙ c.if-byte-ne32.false in
    let v = ap Ok (sym c.in-Some.is) ∙ c.in_ok-code.ensures.value in
    let m : ℕ = c.in_ok-m.m in
    let next : ℕ = c.in_ok-m.next in
    λ a h b q.
    let g = path_got m next (c.in_ok-m.ensures.path_read a h (path_begun b) (begun_first b s.n s.up q)) in
    done_passed (paths_after m) (c.in_err-l.ensures.path_read a h (after path g.tree (path_begun b)) (begun_second b s.n s.up m g.tree q g.count)).answer (passed_on c.from_residual-in_err-l.result _ c.from_residual-in_err-l.ensures.1)
    (λ k x. path_word_lem s.book.now a b s.at (s.n + s.up) q z s.left c.in-Some.code c.in-Some.end v ∙ body_second_refused s.book.now a (readers_at s.book.now a (s.left - 1)) (path_begun b) c.in-Some.end g.tree next g.is c.in-Some.code k c.if-code.false x)

pub returns : goal.returns
returns t c =
    let s = c.args in
    let z = sym c.byte.ensures ∙ c.if-byte-ne32.false in
    let v = ap Ok (sym c.in-Some.is) ∙ c.in_ok-code.ensures.value in
    let two = c.if-code.false in
    let l1 = c.in_ok-m.ensures.grown in
    let l2 = c.in_ok-l.ensures.grown in
    let b1 = l1.0 in
    let b2 = l2.0 in
    let b3 = l2.1 in
    let mid : List ℕ = c.read_path.new.cells in
    let last : List ℕ = c.read_path-2.new.cells in
    let code : ℕ = c.in-Some.code in
    let m : ℕ = c.in_ok-m.m in
    let next : ℕ = c.in_ok-m.next in
    let l : ℕ = c.in_ok-l.l in
    let stop : ℕ = c.in_ok-l.last in record {
      path_read = λ a h b q.
          let g = path_got m next (c.in_ok-m.ensures.path_read a h (path_begun b) (begun_first b s.n s.up q)) in
          let g2 = path_got l stop (c.in_ok-l.ensures.path_read a h (after path g.tree (path_begun b)) (begun_second b s.n s.up m g.tree q g.count)) in
          done_is (path_word_lem s.book.now a b s.at (s.n + s.up) q z s.left code c.in-Some.end v ∙ body_joined s.book.now a (readers_at s.book.now a (s.left - 1)) (path_begun b) c.in-Some.end g.tree next g.is code g2.tree stop two g2.is)
          (closed_read s.book.now stop l a (two_paths code g.tree g2.tree) s.n s.cells.now (put_path l (code + 1) (m - 1) (l - 1) last) last c.close_path-2.new.cells c.close_path-2.result (joined_count s.n m g.tree s.cells.now mid g.count g.cells l g2.tree last g2.count g2.cells code) (joined_stored s.n m g.tree s.cells.now mid g.count g.cells l g2.tree last g2.count g2.cells code two) c.close_path-2.ensures.value c.close_path-2.ensures.new_cells);
      grown = rw c.close_path-2.ensures.value (closed-grown s.book.now stop l (s.n + 1) s.up (omega arith) (omega arith));
      cells_unchanged = c.close_path-2.ensures.cells_unchanged ∙ (c.in_ok-l.ensures.cells_unchanged ∙ c.in_ok-m.ensures.cells_unchanged);
    }
