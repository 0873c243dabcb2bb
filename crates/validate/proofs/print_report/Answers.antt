use mathlib.Core.Path.{refl, ◌∙◌}
use native.Mathlib.Omega.{arith}
use borrow.Author.Rules.{rules}
use Rattle.validate.proofs.print_report.Goals as goal

pub overflow_add-parts : goal.overflow_add-parts
overflow_add-parts g c = search (rules, (c.type_inv.cells 9).fits, c.rule_count-parts.ensures)

pub loop-k-init : goal.loop-k-init
loop-k-init g c = (omega arith, refl)

pub print-requires : goal.print-requires
print-requires g c = omega (arith, c.report_part-written.ensures.result_in_bounds, c.report_part-written.auto.page)

pub overflow_step-k : goal.overflow_step-k
overflow_step-k g c = search (rules, c.loop-k-test.true, (c.type_inv.cells 9).fits, c.rule_count-parts.ensures)

pub loop-k-preserved : goal.loop-k-preserved
loop-k-preserved g c = (omega arith, c.report_part-written.auto.page ∙ c.loop-k.invariant.1)

pub shape_of-page : goal.shape_of-page
shape_of-page g c = c.loop-k.invariant.1
