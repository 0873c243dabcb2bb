use Prim.Native.Nat.{ℕ, ◌-◌, ◌≤◌, ◌<◌}
use mathlib.Core.Path.{◌≡◌, refl, ap, ◌∙◌}
use native.Mathlib.Omega.{arith}
use Rattle.std.specs.Prelude.{Err}
use Rattle.grammar.specs.Reading.{readers_at}
use Rattle.itemreader.proofs.Items.{passed_on}
use Rattle.leafreader.proofs.Forms.{body_is, form_refused}
use Rattle.formreader.specs.Frames.{every}
use Rattle.formreader.proofs.Frames.{fault_read, word_fronted, all_rest, leaf_code}
use Rattle.formreader.proofs.open_word.Goals as goal
use Rattle.formreader.proofs.open_word.Goals.{in_default-via-then-code-lt2, in_default-via-else-code-lt2+else-code-lt5}

pub read_leaf-requires : goal.read_leaf-requires
read_leaf-requires c =
    let s = c.args in
    let p = c.requires in
    let n = c.in_default-1.rest in
    let none : (k : ℕ) → 2 ≤ k → k < 5 → s.code ≡ k → ⊥ = λ k l h e. elim c.in_default.branch [ in_default-via-then-code-lt2 x ↦ omega arith | in_default-via-else-code-lt2+else-code-lt5 x ↦ omega arith ] in
    (p.0, p.1, p.2, p.4, p.5, p.6, p.7, leaf_code s.code p.7 (none 2 (omega arith) (omega arith)) (none 3 (omega arith) (omega arith)) (none 4 (omega arith) (omega arith)) n.0.1 n.1)

pub returns-in-12 : goal.returns-in-12
returns-in-12 c =
    let s = c.args in
    record { open_read = λ a h b e i. rw (body_is s.book.now a (s.left - 1) s.code 12 b s.at c.in-12.is) (c.open_count.ensures.open_read a h b e s.values.now); opened = c.open_count.ensures.opened; cells_unchanged = c.open_count.ensures.cells_unchanged; values_unchanged = refl }

pub returns-in-13 : goal.returns-in-13
returns-in-13 c =
    let s = c.args in
    record { open_read = λ a h b e i. rw (all_rest s.book.now a (s.left - 1) s.code b s.at c.in-13.is) (c.open_path.ensures.open_read a h b e every refl refl refl s.values.now); opened = c.open_path.ensures.opened; cells_unchanged = c.open_path.ensures.cells_unchanged; values_unchanged = refl }

pub returns-in-2-to-4 : goal.returns-in-2-to-4
returns-in-2-to-4 c =
    let s = c.args in
    let p = c.requires in
    record { open_read = λ a h b e i. word_fronted s.book.now a (s.left - 1) s.code s.n.paths b s.at s.cells.now s.values.now c.in-2-to-4.if-code-lt2-own.false c.in-2-to-4.if-code-lt5-own.true; opened = (p.3, p.4, p.5, p.0); cells_unchanged = refl; values_unchanged = refl }

pub returns-in_err-m-in_default-clause-open_read : goal.returns-in_err-m-in_default-clause-open_read
returns-in_err-m-in_default-clause-open_read c =
    let s = c.args in
    λ a h b e i.
    let (k, x, w) = form_refused (c.in_err-m-in_default.ensures.form_read a h b e i) in
    fault_read s.book.now a (readers_at s.book.now a (s.left - 1)) b _ _ _ _ _ k x (passed_on c.from_residual.result _ c.from_residual.ensures.1 ∙ ap Err w)
