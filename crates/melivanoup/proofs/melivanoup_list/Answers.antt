use mathlib.Core.Path.{sym, ap, ◌∙◌}
use Rattle.model.specs.Answers.{answer_of, refusal_number, value_or}
use Rattle.melivanoup.proofs.melivanoup_list.Goals as goal

pub returns-in-Ok : goal.returns-in-Ok
returns-in-Ok c =
    let q = ap answer_of (sym c.in-Ok.is) ∙ c.list.ensures.result_value in
    record { value = ap refusal_number q; new_nodes = ap (value_or 0) q; new_row = c.list.ensures.new_row }

pub returns-in-Err : goal.returns-in-Err
returns-in-Err c =
    let q = ap answer_of (sym c.in-Err.is) ∙ c.list.ensures.result_value in
    record { value = c.number.ensures ∙ ap refusal_number q; new_nodes = ap (value_or 0) q; new_row = c.list.ensures.new_row }
