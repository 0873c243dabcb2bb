use Prim.Native.Nat.{ℕ, ◌-◌}
use mathlib.Core.Path.{sym, ap, ◌∙◌}
use mathlib.Core.List.{[], ◌∷◌}
use mathlib.Core.Bool.{true}
use native.Mathlib.Nat.{add-zero}
use Rattle.std.specs.Prelude.{Err}
use Rattle.grammar.specs.Syntax.{path, form}
use Rattle.grammar.specs.Reading.{readers_at}
use Rattle.itemreader.proofs.Items.{passed_on}
use Rattle.itemreader.proofs.Heads.{rest_refused}
use Rattle.pathreader.proofs.Paths.{done_refused, path_got}
use Rattle.formreader.specs.Frames.{quantify}
use Rattle.formreader.proofs.Frames.{fault_read, path_fronted}
use Rattle.formreader.proofs.open_path.Goals as goal

pub returns-in_err-m-clause-open_read : goal.returns-in_err-m-clause-open_read
returns-in_err-m-clause-open_read c =
    let s = c.args in
    λ a h b e q f g i vs.
    let (k, x, w) = done_refused (c.in_err-m.ensures.path_read a h b (e ∙ sym (add-zero s.n.paths))) in
    fault_read s.book.now a (readers_at s.book.now a (s.left - 1)) b _ _ _ _ _ k (rest_refused s.book.now a (readers_at s.book.now a (s.left - 1)) true path (form ∷ []) (λ xs. quantify q xs.0 xs.1.0) b s.at k x) (passed_on c.from_residual.result _ c.from_residual.ensures.1 ∙ ap Err w)

pub returns-clause-open_read : goal.returns-clause-open_read
returns-clause-open_read c =
    let s = c.args in
    let m : ℕ = c.in_ok-m.m in
    let next : ℕ = c.in_ok-m.next in
    λ a h b e q f g i vs. path_fronted s.book.now a (readers_at s.book.now a (s.left - 1)) b s.at s.n.paths m next s.cells.now c.read_path.new.cells vs q s.code s.low s.high f g i (path_got m next (c.in_ok-m.ensures.path_read a h b (e ∙ sym (add-zero s.n.paths))))
