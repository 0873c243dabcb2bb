-- `breaks_order` meets its contract: where both have a number, by the order.
use mathlib.Core.Bool.{Bool, true, not, ◌||◌}
use mathlib.Core.Path.{◌≡◌, refl, sym, ap, ◌∙◌}
use lib.Signed.{lt_z, le_z}
use borrow.Author.Tests.{not-false}
use Rattle.base.proofs.Bools.{never_both}
use Rattle.tables.specs.Layout.{number_at}
use Rattle.conditions.specs.Pairs.{comes_back}
use Rattle.conditions.specs.declared.Order.{Order}
use Rattle.conditions.proofs.Terms.{read_back}
use Rattle.conditions.proofs.breaks_order.Goals as goal
use Rattle.conditions.proofs.breaks_order.Goals.{then-not-known, else-not-known}

-- both have a number
settled : {k h : Bool} (b : Bool) → k ≡ true → h ≡ true → b ≡ (not k || (not h || b))
settled b e f = sym (λ i. not (e i) || (not (f i) || b))

pub returns-in-Less : goal.returns-in-Less
unfolding comes_back
returns-in-Less c =
    let a = c.args in
    let cs = a.cells.now in
    let y = number_at a.values.now a.y.0 in
    (λ i. le_z (read_back c.number.result c.number.type_inv c.number.ensures i) (read_back a.value c.ranges.value.sfits refl i))
    ∙ ap (λ (o : Order). comes_back o a.value y) (sym c.in-Less.is)
    ∙ elim c.if-not-known.branch [
      | then-not-known w ↦ absurd (never_both (w.value-is ∙ ap not w.if-not-known.true) c.if-not-has_number.false)
      | else-not-known w ↦ settled (comes_back a.order a.value y) w.if-not-known.false (sym w.has_number.ensures ∙ not-false w.has_number.result (sym w.value-is ∙ c.if-not-has_number.false))
    ]

pub returns-in-LessEq : goal.returns-in-LessEq
unfolding comes_back
returns-in-LessEq c =
    let a = c.args in
    let cs = a.cells.now in
    let y = number_at a.values.now a.y.0 in
    (λ i. lt_z (read_back c.number-in-LessEq.result c.number-in-LessEq.type_inv c.number-in-LessEq.ensures i) (read_back a.value c.ranges.value.sfits refl i))
    ∙ ap (λ (o : Order). comes_back o a.value y) (sym c.in-LessEq.is)
    ∙ elim c.if-not-known.branch [
      | then-not-known w ↦ absurd (never_both (w.value-is ∙ ap not w.if-not-known.true) c.if-not-has_number.false)
      | else-not-known w ↦ settled (comes_back a.order a.value y) w.if-not-known.false (sym w.has_number.ensures ∙ not-false w.has_number.result (sym w.value-is ∙ c.if-not-has_number.false))
    ]
