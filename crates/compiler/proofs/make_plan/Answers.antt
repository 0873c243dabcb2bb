use Prim.Native.Nat.{ℕ}
use mathlib.Core.List.{List, ◌++◌}
use mathlib.Core.Path.{◌≡◌, ◌∙◌}
use native.Mathlib.Omega.{arith}
use lib.ListN.{drop}
use borrow.Author.Rules.{rules}
use Rattle.tables.specs.Layout.{form_count, rule_count}
use Rattle.plan.specs.Layout.{plan_count}
use Rattle.translation.specs.Compile.{steps_of, plan_of}
use Rattle.translation.proofs.WellMade.{start_four, steps-few}
use Rattle.compiler.proofs.Loops.{forms-laid, plan-laid}
use Rattle.compiler.proofs.make_plan.Goals as goal

pub close-requires : goal.close-requires
close-requires c = omega (arith, c.fill_rules.ensures.next, steps-few c.args.cells.now (rule_count c.args.cells.now), c.requires.forms, c.requires.rules)

pub returns-clause-value : goal.returns-clause-value
unfolding steps_of
returns-clause-value c = c.close.ensures.number ∙ c.fill_rules.ensures.next

pub returns-clause-new_plan : goal.returns-clause-new_plan
unfolding steps_of
returns-clause-new_plan c =
    let cs : List ℕ = c.args.cells.now in
    let ps : List ℕ = c.args.plan.now in
    let t : List ℕ = drop plan_count ps in
    let f = c.fill_forms in
    let r = c.fill_rules in
    let forms = forms-laid cs ps c.clear_plan.new.plan f.new.self.cells.now c.requires.plan (omega (arith, start_four cs (form_count cs), c.requires.forms)) c.clear_plan.ensures f.ensures.added.stored in
    let made : c.close.new.self.cells.now ≡ plan_of cs ++ t = c.close.ensures.counted ∙ plan-laid cs t r.new.self.cells.now r.new.self.next (r.ensures.filled t forms) r.ensures.next in
    search rules
