use mathlib.Core.Bool.{true}
use mathlib.Core.Path.{◌≡◌, sym, ap, ◌∙◌}
use native.Mathlib.Omega.{arith}
use lib.Dec.{ltb}
use lib.ListN.{take}
use lib.Seq.{length-take-le}
use borrow.Author.Tests.{le-ltb, lt-ltb}
use Rattle.model.specs.Limits.{max_nodes}
use Rattle.model.proofs.Answers.{short, malformed, absent, done}
use Rattle.tables.specs.Layout.{cell_count}
use Rattle.tables.proofs.Beside.{Beside}
use Rattle.plan.specs.Layout.{plan_count}
use Rattle.plancheck.specs.Both.{both_well_formed}
use Rattle.plancheck.proofs.Both.{tables_formed, plan_formed}
use Rattle.runner.specs.Run.{work_count}
use Rattle.lists.specs.Answers.{list_long}
use Rattle.lists.proofs.Rows.{few-nodes, step_in}
use Rattle.lists.proofs.Answers.{list_answers, list_room}
use Rattle.lists.proofs.list.Goals as goal
use Rattle.lists.proofs.list.Goals.{Else-not-long_enough, Else-not-both_well_formed}

-- past the first test; past the second
is-long : (c : Else-not-long_enough) → let a = c.args in list_long a.names.now a.cells.now a.values.now a.plan.now a.work.now a.row.now ≡ true
is-long c = sym c.long_enough.ensures ∙ c.if-not-long_enough.false

room : (c : Else-not-long_enough) → let a = c.args in Beside a.names.now a.cells.now a.values.now plan_count work_count max_nodes a.plan.now a.work.now a.row.now
room c = let a = c.args in list_room a.names.now a.cells.now a.values.now a.plan.now a.work.now a.row.now (is-long c)

are_formed : (c : Else-not-both_well_formed) → both_well_formed (take cell_count c.args.cells.now) (take plan_count c.args.plan.now) ≡ true
are_formed c = sym c.both_well_formed.ensures ∙ c.if-not-both_well_formed.false

pub returns-then-not-long_enough : goal.returns-then-not-long_enough
returns-then-not-long_enough c =
    let a = c.args in
    let both = short (list_answers a.names.now a.cells.now a.values.now a.plan.now a.work.now a.rule a.row.now) (sym c.long_enough.ensures ∙ c.if-not-long_enough.true) in
    record { result_value = both.0; new_row = both.1 }

pub slice_bounds-cs-end : goal.slice_bounds-cs-end
slice_bounds-cs-end c = sym (length-take-le cell_count c.args.cells.now (room (goal.at.slice_bounds-cs-end c).Else-not-long_enough).tables.cells)

pub slice_bounds-ps-end : goal.slice_bounds-ps-end
slice_bounds-ps-end c = sym (length-take-le plan_count c.args.plan.now (room (goal.at.slice_bounds-ps-end c).Else-not-long_enough).first)

pub returns-then-not-both_well_formed : goal.returns-then-not-both_well_formed
returns-then-not-both_well_formed c =
    let a = c.args in
    let long = is-long (goal.at.returns-then-not-both_well_formed c).Else-not-long_enough in
    let both = malformed (list_answers a.names.now a.cells.now a.values.now a.plan.now a.work.now a.rule a.row.now) long (sym c.both_well_formed.ensures ∙ c.if-not-both_well_formed.true) in
    record { result_value = both.0; new_row = both.1 }

pub returns-then-rule_count-rule : goal.returns-then-rule_count-rule
returns-then-rule_count-rule c =
    let a = c.args in
    let at = goal.at.returns-then-rule_count-rule c in
    let none = ap (ltb a.rule) (sym c.rule_count.ensures) ∙ le-ltb a.rule c.rule_count.result c.if-rule_count-rule.true in
    let both = absent (list_answers a.names.now a.cells.now a.values.now a.plan.now a.work.now a.rule a.row.now) (is-long at.Else-not-long_enough) (are_formed at.Else-not-both_well_formed) none in
    record { result_value = both.0; new_row = both.1 }

pub list_rule-requires : goal.list_rule-requires
list_rule-requires c =
    let at = goal.at.list_rule-requires c in
    let l = room at.Else-not-long_enough in
    let w = are_formed at.Else-not-both_well_formed in
    let cs = take cell_count c.args.cells.now in
    let ps = take plan_count c.args.plan.now in
    let e = tables_formed cs ps w in
    let f = plan_formed cs ps w in
    (few-nodes cs ps e f, l.third, omega (arith, step_in cs ps e f c.args.rule (omega (arith, c.if-rule_count-rule.false, c.rule_count.ensures)), l.second))

pub returns : goal.returns
returns c =
    let a = c.args in
    let at = goal.at.returns c in
    let there = ap (ltb a.rule) (sym c.rule_count.ensures) ∙ lt-ltb a.rule c.rule_count.result c.if-rule_count-rule.false in
    let both = done (list_answers a.names.now a.cells.now a.values.now a.plan.now a.work.now a.rule a.row.now) (is-long at.Else-not-long_enough) (are_formed at.Else-not-both_well_formed) there c.list_rule.ensures.value c.list_rule.ensures.new_row in
    record { result_value = both.0; new_row = both.1 }
