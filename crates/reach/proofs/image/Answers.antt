-- `image` meets its contract. The invariant: the rows of the members before the next have joined.
use native.Mathlib.Omega.{arith}
use mathlib.Core.List.{List}
use mathlib.Core.Path.{refl, sym, ap, ap₂, subst, ◌∙◌}
use Prim.Native.Nat.{ℕ, ◌+◌}
use Rattle.base.specs.Least.{next_from}
use Rattle.nodeset.specs.Words.{has}
use Rattle.nodeset.specs.declared.Iter.{Iter}
use Rattle.closure.proofs.Rows.{lent_row}
use Rattle.reach.proofs.Levels.{Joined, joined_none, joined_more}
use Rattle.reach.proofs.image.Goals as goal

pub loop-u-init : goal.loop-u-init
loop-u-init c =
    let a = c.args in
    let made = c.below-u-items.ensures in
    let same = c.into_iter-u-iterator.ensures.into_iter_gives in
    (ap (λ (s : Iter). s.n) same ∙ made.bound, ap (λ (s : Iter). s.words.now) same ∙ made.set, joined_none a.rows.now a.n a.set.words (ap (λ (s : Iter). s.next) same ∙ made.first))

pub loop-u-preserved : goal.loop-u-preserved
loop-u-preserved c =
    let a = c.args in
    let s = c.loop-u.u-iterator in
    let (same, ends, joined) = c.loop-u.invariant in
    let step = c.in-Some.ensures.steps in
    let u : ℕ = c.in-Some.u in
    let before = subst (λ (u : ℕ). Joined a.rows.now a.n a.set.words c.loop-u.words u) (sym step.0) joined in
    let next = step.2 ∙ ap₂ (λ (ws : List ℕ) (m : ℕ). next_from (has ws) (u + 1) m) ends same in
    (step.4 ∙ same, step.3 ∙ ends, joined_more a.rows.now a.n a.set.words _ before (omega (arith, step.1, same)) c.take_row.ensures (lent_row a.rows.now u _ refl) next)
