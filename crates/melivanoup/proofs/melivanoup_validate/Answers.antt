use mathlib.Core.Path.{sym, ap, ◌∙◌}
use Rattle.validation.specs.Lent.{lent}
use Rattle.model.specs.Answers.{answer_of, refusal_number, refusal_line, value_or}
use Rattle.melivanoup.proofs.Whole.{by_steps, by_refusal}
use Rattle.melivanoup.proofs.melivanoup_validate.Goals as goal

pub returns-in-Ok : goal.returns-in-Ok
returns-in-Ok c =
    let q = ap answer_of (sym c.in-Ok.is) ∙ c.validate.ensures.result_value in
    let a = c.args in
    let demand3 = by_steps a.book.now (lent a.names.now a.cells.now a.values.now a.plan.now a.work.now a.lists.now a.lengths.now) (lent c.validate.new.names c.validate.new.cells c.validate.new.values c.validate.new.plan c.validate.new.work c.validate.new.lists c.validate.new.lengths) c.validate.result c.validate.ensures.demand3 c.in-Ok.n c.in-Ok.is in
    record { demand3 = demand3; value = ap refusal_number q; new_line = ap refusal_line q; new_steps = ap (value_or 0) q; new_lent = c.validate.ensures.new_lent }

pub returns-in-Err : goal.returns-in-Err
returns-in-Err c =
    let q = ap answer_of (sym c.in-Err.is) ∙ c.validate.ensures.result_value in
    let a = c.args in
    let demand3 = by_refusal a.book.now (lent a.names.now a.cells.now a.values.now a.plan.now a.work.now a.lists.now a.lengths.now) (lent c.validate.new.names c.validate.new.cells c.validate.new.values c.validate.new.plan c.validate.new.work c.validate.new.lists c.validate.new.lengths) c.validate.result c.validate.ensures.demand3 c.in-Err.r c.with_line.result c.with_line.new.line c.in-Err.is c.with_line.ensures.value c.with_line.ensures.new_line in
    record { demand3 = demand3; value = c.with_line.ensures.value ∙ ap refusal_number q; new_line = c.with_line.ensures.new_line ∙ ap refusal_line q; new_steps = ap (value_or 0) q; new_lent = c.validate.ensures.new_lent }
