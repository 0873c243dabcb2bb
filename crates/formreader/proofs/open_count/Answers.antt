use Prim.Native.Nat.{ℕ, ◌-◌}
use mathlib.Core.Path.{refl, sym, ap, ◌∙◌}
use Rattle.std.specs.Prelude.{Err}
use Rattle.encoding.specs.Flatten.{upper_number}
use Rattle.grammar.specs.Syntax.{low, high}
use Rattle.grammar.specs.Reading.{arg_at, readers_at}
use Rattle.itemreader.specs.Answers.{same}
use Rattle.itemreader.proofs.Items.{passed_on, item_got, item_refused, number_got}
use Rattle.formreader.specs.Frames.{times}
use Rattle.formreader.proofs.Frames.{fault_read, low_refused, high_refused, count-rest}
use Rattle.formreader.proofs.open_count.Goals as goal

pub returns-in_err-low-clause-open_read : goal.returns-in_err-low-clause-open_read
returns-in_err-low-clause-open_read c =
    let s = c.args in
    λ a h b e vs.
    let R = readers_at s.book.now a (s.left - 1) in
    let (k, x, w) = item_refused same (arg_at s.book.now a R low b s.at) c.in_err-low.field-0.0 (c.in_err-low.ensures.reads a R b) in
    fault_read s.book.now a R b _ _ _ _ _ k (low_refused s.book.now a (s.left - 1) b s.at k x) (passed_on c.from_residual.result _ c.from_residual.ensures.1 ∙ ap Err w)

pub returns-in_err-high-clause-open_read : goal.returns-in_err-high-clause-open_read
returns-in_err-high-clause-open_read c =
    let s = c.args in
    let lo : ℕ = c.in_ok-low.low in
    let mid : ℕ = c.in_ok-low.mid in
    λ a h b e vs.
    let R = readers_at s.book.now a (s.left - 1) in
    let l = number_got (arg_at s.book.now a R low b s.at) lo mid (c.in_ok-low.ensures.reads a R b) in
    let (k, x, w) = item_refused upper_number (arg_at s.book.now a R high b mid) c.in_err-high.field-0.0 (c.in_err-high.ensures.reads a R b) in
    fault_read s.book.now a R b _ _ _ _ _ k (high_refused s.book.now a (s.left - 1) b s.at lo mid l k x) (passed_on c.from_residual-in_err-high.result _ c.from_residual-in_err-high.ensures.1 ∙ ap Err w)

pub returns-clause-open_read : goal.returns-clause-open_read
returns-clause-open_read c =
    let s = c.args in
    let lo : ℕ = c.in_ok-low.low in
    let mid : ℕ = c.in_ok-low.mid in
    let next : ℕ = c.in_ok-high.next in
    λ a h b e vs.
    let R = readers_at s.book.now a (s.left - 1) in
    let y = item_got upper_number (arg_at s.book.now a R high b mid) c.in_ok-high.high next (c.in_ok-high.ensures.reads a R b) in
    rw (count-rest s.book.now a (s.left - 1) b s.at lo mid (number_got (arg_at s.book.now a R low b s.at) lo mid (c.in_ok-low.ensures.reads a R b)) y.0 next y.1)
    (c.open_path.ensures.open_read a h b e (times lo y.0) refl refl (sym y.2) vs)
