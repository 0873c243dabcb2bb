-- `run` meets its contract: the tests in their order, then all steps.
use mathlib.Core.Bool.{true}
use mathlib.Core.Path.{◌≡◌, refl, sym, ◌∙◌}
use native.Mathlib.Nat.{le_of_eq}
use lib.ListN.{take}
use lib.Seq.{length-take-le}
use borrow.Author.Tests.{not-true, not-false}
use Rattle.model.proofs.Answers.{short, malformed, done}
use Rattle.tables.specs.Layout.{name_count, cell_count, value_count}
use Rattle.plan.specs.Layout.{plan_count}
use Rattle.plancheck.specs.Both.{both_well_formed}
use Rattle.plancheck.proofs.Both.{tables_formed, plan_formed}
use Rattle.runner.specs.Run.{run_long}
use Rattle.runner.proofs.Answers.{run-answers, RunRoom, run_room}
use Rattle.runner.proofs.run.Goals as goal
use Rattle.runner.proofs.run.Goals.{Else-not-both_well_formed, Else-not-lent_long}

-- past the first test; past the second
is-long : (c : Else-not-lent_long) → run_long c.args.names.now c.args.cells.now c.args.values.now c.args.plan.now c.args.work.now ≡ true
is-long c = sym c.lent_long.ensures ∙ not-false c.lent_long.result c.if-not-lent_long.false-raw

room : (c : Else-not-lent_long) → RunRoom c.args.names.now c.args.cells.now c.args.values.now c.args.plan.now c.args.work.now
room c = run_room c.args.names.now c.args.cells.now c.args.values.now c.args.plan.now c.args.work.now (is-long c)

are_formed : (c : Else-not-both_well_formed) → both_well_formed (take cell_count c.args.cells.now) (take plan_count c.args.plan.now) ≡ true
are_formed c = sym c.both_well_formed.ensures ∙ not-false c.both_well_formed.result c.if-not-both_well_formed.false-raw

pub returns-then-not-lent_long : goal.returns-then-not-lent_long
returns-then-not-lent_long c = let both = short (run-answers c.args.names.now c.args.cells.now c.args.values.now c.args.plan.now c.args.work.now) (sym c.lent_long.ensures ∙ not-true c.lent_long.result c.if-not-lent_long.true-raw) in record { result_value = both.0; new_work = both.1 }

pub slice_bounds-cs-end : goal.slice_bounds-cs-end
slice_bounds-cs-end c = sym (length-take-le cell_count c.args.cells.now (room (goal.at.slice_bounds-cs-end c).Else-not-lent_long).tables.cells)

pub slice_bounds-ps-end : goal.slice_bounds-ps-end
slice_bounds-ps-end c = sym (length-take-le plan_count c.args.plan.now (room (goal.at.slice_bounds-ps-end c).Else-not-lent_long).plan)

pub returns-then-not-both_well_formed : goal.returns-then-not-both_well_formed
returns-then-not-both_well_formed c = let both = malformed (run-answers c.args.names.now c.args.cells.now c.args.values.now c.args.plan.now c.args.work.now) (is-long (goal.at.returns-then-not-both_well_formed c).Else-not-lent_long) (sym c.both_well_formed.ensures ∙ not-true c.both_well_formed.result c.if-not-both_well_formed.true-raw) in record { result_value = both.0; new_work = both.1 }

pub slice_bounds-run_steps-end : goal.slice_bounds-run_steps-end
slice_bounds-run_steps-end c = sym (length-take-le name_count c.args.names.now (room (goal.at.slice_bounds-run_steps-end c).Else-not-lent_long).tables.names)

pub slice_bounds-run_steps-end-2 : goal.slice_bounds-run_steps-end-2
slice_bounds-run_steps-end-2 c = sym (length-take-le value_count c.args.values.now (room (goal.at.slice_bounds-run_steps-end-2 c).Else-not-lent_long).tables.values)

pub run_steps-requires : goal.run_steps-requires
run_steps-requires c = (le_of_eq (sym (length-take-le name_count c.args.names.now (room (goal.at.run_steps-requires c).Else-not-lent_long).tables.names)), le_of_eq (sym (length-take-le cell_count c.args.cells.now (room (goal.at.run_steps-requires c).Else-not-lent_long).tables.cells)), tables_formed (take cell_count c.args.cells.now) (take plan_count c.args.plan.now) (are_formed (goal.at.run_steps-requires c).Else-not-both_well_formed), plan_formed (take cell_count c.args.cells.now) (take plan_count c.args.plan.now) (are_formed (goal.at.run_steps-requires c).Else-not-both_well_formed), (room (goal.at.run_steps-requires c).Else-not-lent_long).work)

pub returns : goal.returns
returns c = let both = done (run-answers c.args.names.now c.args.cells.now c.args.values.now c.args.plan.now c.args.work.now) (is-long (goal.at.returns c).Else-not-lent_long) (are_formed (goal.at.returns c).Else-not-both_well_formed) refl refl c.run_steps.ensures in record { result_value = both.0; new_work = both.1 }
