use Prim.Native.Nat.{ℕ}
use mathlib.Core.List.{[], ◌∷◌}
use mathlib.Core.Path.{◌≡◌, ap₂, ◌∙◌}
use Rattle.tables.specs.Layout.{form_first_at, form_second_at}
use Rattle.compiler.proofs.Laws.{two_as}
use Rattle.compiler.proofs.Plan.link_steps.Goals as goal

pub returns-clause-added : goal.returns-clause-added
returns-clause-added c =
    let a = c.args in
    let cs = a.cells.now in
    let read : (k : ℕ) → (k ∷ c.form_first-p.result ∷ c.form_link-l.result.0 ∷ 0 ∷ 0 ∷ []) ≡ (k ∷ form_first_at cs a.e ∷ form_second_at cs a.e ∷ 0 ∷ 0 ∷ []) = λ k. ap₂ (λ (x y : ℕ). k ∷ x ∷ y ∷ 0 ∷ 0 ∷ []) c.form_first-p.ensures c.form_link-l.ensures in
    two_as (c.step.ensures ∙ read a.keeping) (c.step-2.ensures ∙ read a.breaking) c.two.ensures.added
