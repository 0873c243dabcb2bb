use Prim.Native.Nat.{ℕ, ◌+◌}
use mathlib.Core.List.{List}
use mathlib.Core.Path.{sym, ap, ap₂, subst, ◌∙◌}
use native.Mathlib.Omega.{arith}
use Rattle.base.specs.Least.{next_from}
use Rattle.nodeset.specs.Words.{has}
use Rattle.nodeset.specs.declared.Iter.{Iter}
use Rattle.lists.proofs.Rows.{Listing, listing_start, listing_more, listing_end}
use Rattle.lists.proofs.list_set.Goals as goal

pub loop-v-init : goal.loop-v-init
loop-v-init c =
    let a = c.args in
    let made = c.below-v-items.ensures in
    let same = c.into_iter-v-iterator.ensures.into_iter_gives in
    (ap (λ (s : Iter). s.n) same ∙ made.bound, ap (λ (s : Iter). s.words.now) same ∙ made.set, listing_start (has a.words.now) a.n a.row.now _ (ap (λ (s : Iter). s.next) same ∙ made.first))

pub loop-v-preserved : goal.loop-v-preserved
loop-v-preserved c =
    let a = c.args in
    let l = c.loop-v in
    let (same, ends, listing) = l.invariant in
    let step = c.in-Some.ensures.steps in
    let v : ℕ = c.in-Some.v in
    let before = subst (λ (k : ℕ). Listing (has a.words.now) a.n a.row.now k l.count l.row) (sym step.0) listing in
    let next = step.2 ∙ ap₂ (λ (ws : List ℕ) (m : ℕ). next_from (has ws) (v + 1) m) ends same in
    (step.4 ∙ same, step.3 ∙ ends, listing_more (has a.words.now) a.n a.row.now v l.count l.row before (omega (arith, step.1, same)) c.requires.1 _ next)

pub returns : goal.returns
returns c =
    let a = c.args in
    let l = c.loop-v in
    let both = listing_end (has a.words.now) a.n a.row.now _ l.count l.row l.invariant.2 (omega (arith, l.invariant.0, c.in-None.ensures.steps)) in
    record { value = both.0; new_row = both.1 }
