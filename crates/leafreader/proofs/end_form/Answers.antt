use Prim.Native.Nat.{ℕ}
use mathlib.Core.Path.{ap, ◌∙◌}
use mathlib.Core.List.{List, [], ◌∷◌}
use mathlib.Core.Bool.{true}
use Rattle.std.specs.Prelude.{Err}
use Rattle.model.specs.Books.{links}
use Rattle.grammar.specs.Syntax.{used, end}
use Rattle.grammar.specs.Reading.{after, readers_at}
use Rattle.itemreader.specs.Answers.{same}
use Rattle.itemreader.proofs.Items.{passed_on}
use Rattle.itemreader.proofs.Heads.{rest_refused, rest_got}
use Rattle.pathreader.proofs.Paths.{done_refused, end_got}
use Rattle.leafreader.proofs.Forms.{form_no, form_is_lem, end_closes}
use Rattle.leafreader.specs.Forms.{begun_of}
use Rattle.leafreader.proofs.end_form.Goals as goal

pub returns-in_err-m-clause-form_read : goal.returns-in_err-m-clause-form_read
returns-in_err-m-clause-form_read c =
    let s = c.args in
    λ a h b q f sh vs.
    let (k, x, e) = done_refused (c.in_err-m.ensures.end_read a h b q) in
    form_no k (rest_refused s.book.now a (readers_at s.book.now a s.left) true end (used links ∷ []) (λ xs. f xs.0 xs.1.0) b s.at k x) (passed_on c.from_residual.result _ c.from_residual.ensures.1 ∙ ap Err e)

pub returns-clause-form_read : goal.returns-clause-form_read
returns-clause-form_read c =
    let s = c.args in
    let m : ℕ = c.in_ok-m.m in
    let next : ℕ = c.in_ok-m.next in
    let mid : List ℕ = c.read_end.new.cells in
    λ a h b q f sh vs.
    let g = end_got m next (c.in_ok-m.ensures.end_read a h b q) in
    let b' = after end g.tree b in
    form_is_lem (rest_got s.book.now a (readers_at s.book.now a s.left) true end (used links ∷ []) (λ xs. f xs.0 xs.1.0) b s.at g.tree next g.is)
    (c.item_form.ensures.item_form a (readers_at s.book.now a s.left) b' (used links) same next (c.read_used-item.ensures.reads a h (readers_at s.book.now a s.left) b') (begun_of s.n) s.cells.now vs vs (λ p. f g.tree p) (λ p. end_closes s.n m p s.cells.now mid vs f s.code sh g.tree c.end_number.result g.count g.cells c.end_number.ensures))
