use Prim.Native.Nat.{ℕ}
use mathlib.Core.List.{[], ◌∷◌}
use mathlib.Core.Path.{ap, ap₂, ◌∙◌}
use Rattle.compiler.specs.Stores.{keep_of, break_of}
use Rattle.compiler.proofs.Laws.{two_as}
use Rattle.compiler.proofs.Plan.parts_steps.Goals as goal

pub returns-clause-added : goal.returns-clause-added
returns-clause-added c =
    let a = c.args in
    let ps = a.pairs.now in
    two_as
    (c.step.ensures ∙ ap₂ (λ (x y : ℕ). a.keeping ∷ x ∷ y ∷ 0 ∷ 0 ∷ []) (c.pair_of-a.ensures.0 ∙ ap (keep_of ps) c.form_first.ensures) (c.pair_of-b.ensures.0 ∙ ap (keep_of ps) c.form_second.ensures))
    (c.step-2.ensures ∙ ap₂ (λ (x y : ℕ). a.breaking ∷ x ∷ y ∷ 0 ∷ 0 ∷ []) (c.pair_of-a.ensures.1 ∙ ap (break_of ps) c.form_first.ensures) (c.pair_of-b.ensures.1 ∙ ap (break_of ps) c.form_second.ensures))
    c.two.ensures.added
