use mathlib.Core.Path.{sym, ap, ◌∙◌}
use Rattle.model.specs.Answers.{answer_of, refusal_number, value_or}
use Rattle.melivanoup.proofs.melivanoup_report.Goals as goal

pub returns-in-Ok : goal.returns-in-Ok
returns-in-Ok c =
    let q = ap answer_of (sym c.in-Ok.is) ∙ c.report_part.ensures.result_value in
    record { value = ap refusal_number q; new_bytes = ap (value_or 0) q; new_page = c.report_part.ensures.new_page }

pub returns-in-Err : goal.returns-in-Err
returns-in-Err c =
    let q = ap answer_of (sym c.in-Err.is) ∙ c.report_part.ensures.result_value in
    record { value = c.number.ensures ∙ ap refusal_number q; new_bytes = ap (value_or 0) q; new_page = c.report_part.ensures.new_page }
