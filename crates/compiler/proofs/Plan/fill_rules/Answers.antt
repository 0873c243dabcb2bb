use Prim.Native.Nat.{ℕ, zero-le}
use mathlib.Core.List.{[]}
use mathlib.Core.Path.{◌≡◌, refl, ap, ◌∙◌}
use native.Mathlib.Omega.{arith}
use lib.ListN.{length}
use Rattle.base.specs.Lists.{values, values_from}
use Rattle.tables.specs.Layout.{rule_count, root_at, rule_shape_at}
use Rattle.plan.specs.Layout.{laid}
use Rattle.translation.specs.Compile.{steps_to, rule_step}
use Rattle.compiler.specs.Stores.{break_of}
use Rattle.compiler.proofs.Loops.{rule_next, rule_more}
use Rattle.translation.proofs.WellMade.{steps-few}
use Rattle.compiler.proofs.Plan.fill_rules.Goals as goal

pub loop-r-init : goal.loop-r-init
unfolding steps_to values_from
loop-r-init c = (refl, zero-le, c.rule_count-rules.ensures, c.requires.1, λ t e. e)

pub rule_steps-requires : goal.rule_steps-requires
rule_steps-requires c = (omega (arith, c.requires.0.rules), omega (arith, c.requires.0.rules, c.requires.0.forms, c.loop-r.invariant.3, steps-few c.args.cells.now c.loop-r.r))

pub loop-r-preserved : goal.loop-r-preserved
loop-r-preserved c =
    let a = c.args in
    let cs = a.cells.now in
    let l = c.loop-r in
    let o = c.rule_steps in
    let shape = root_at cs (rule_shape_at cs l.r) in
    (o.ensures.same_reference ∙ l.invariant.0, omega arith, l.invariant.2, o.ensures.next ∙ rule_next cs l.r l.self.next l.invariant.3, λ t e. rule_more cs t l.self.cells.now o.new.self.cells.now l.r l.self.next (break_of a.pairs.now shape) (omega (arith, c.requires.0.rules)) (omega (arith, c.requires.0.rules, c.requires.0.forms, l.invariant.3, steps-few cs l.r)) l.invariant.3 (c.requires.2 shape) o.ensures.stored (l.invariant.4 t e))

pub returns-clause-next : goal.returns-clause-next
returns-clause-next c =
    let cs = c.args.cells.now in
    let q : c.loop-r.r ≡ rule_count cs = omega arith in
    c.loop-r.invariant.3 ∙ ap (λ (m : ℕ). length (steps_to cs m)) q

pub returns-clause-filled : goal.returns-clause-filled
returns-clause-filled c =
    let cs = c.args.cells.now in
    let q : c.loop-r.r ≡ rule_count cs = omega arith in
    λ t e. c.loop-r.invariant.4 t e ∙ ap (λ (m : ℕ). laid t [] (values (rule_step cs) m) (steps_to cs m)) q
