use mathlib.Core.Path.{sym, ap, ◌∙◌}
use Rattle.model.specs.Answers.{answer_of, refusal_number}
use Rattle.melivanoup.proofs.melivanoup_run.Goals as goal

pub returns-in-Ok : goal.returns-in-Ok
returns-in-Ok c =
    record { value = ap refusal_number (ap answer_of (sym c.in-Ok.is) ∙ c.run.ensures.result_value); new_work = c.run.ensures.new_work }

pub returns-in-Err : goal.returns-in-Err
returns-in-Err c =
    record { value = c.number.ensures ∙ ap refusal_number (ap answer_of (sym c.in-Err.is) ∙ c.run.ensures.result_value); new_work = c.run.ensures.new_work }
