use Prim.Native.Nat.{ℕ}
use mathlib.Core.Path.{ap, ◌∙◌}
use Rattle.tables.specs.Layout.{root_at, rule_shape_at}
use Rattle.plan.specs.Steps.{numbers_of}
use Rattle.compiler.specs.Stores.{break_of, rule_stored}
use Rattle.compiler.proofs.Laws.{put_as}
use Rattle.compiler.proofs.Loops.{rule_law}
use Rattle.compiler.proofs.Plan.rule_steps.Goals as goal

pub returns-clause-stored : goal.returns-clause-stored
unfolding numbers_of
returns-clause-stored c =
    let p = c.args.self.now in
    let cs = c.args.cells.now in
    let ps = c.args.pairs.now in
    let k = c.wide-k.result in
    let t = c.push-target in
    let o = c.push-own in
    rule_law cs p.cells.now t.new.self.cells.now o.new.self.cells.now k p.next t.new.self.next t.result c.of-b.result.breaking (break_of ps (root_at cs (rule_shape_at cs k))) o.result (put_as _ _ t.ensures.stored c.target_step.ensures) (put_as _ _ o.ensures.stored c.step.ensures) t.ensures.next t.ensures.number (c.of-b.ensures.1 ∙ ap (break_of ps) (c.root.ensures ∙ ap (root_at cs) c.rule_shape.ensures)) o.ensures.number
    ∙ ap (λ (i : ℕ). rule_stored cs p.cells.now i p.next (break_of ps (root_at cs (rule_shape_at cs i)))) c.wide-k.ensures
