use mathlib.Core.Path.{sym, ap, ◌∙◌}
use Rattle.model.specs.Answers.{answer_of, Answer, refusal_number, refusal_line, value_or}
use Rattle.model.specs.declared.Counts.{Counts}
use Rattle.reader.specs.Answers.{no_counts}
use Rattle.melivanoup.proofs.melivanoup_read.Goals as goal

pub returns-in-Ok : goal.returns-in-Ok
returns-in-Ok c =
    let q = ap answer_of (sym c.in-Ok.is) ∙ c.read.ensures.result_value in
    record { value = ap refusal_number q; new_line = ap refusal_line q; new_nodes = ap (λ (a : Answer Counts). (value_or no_counts a).nodes) q; new_facts = ap (λ (a : Answer Counts). (value_or no_counts a).facts) q; new_rules = ap (λ (a : Answer Counts). (value_or no_counts a).rules) q; new_names = c.read.ensures.new_names; new_cells = c.read.ensures.new_cells; new_values = c.read.ensures.new_values }

pub returns-in-Err : goal.returns-in-Err
returns-in-Err c =
    let q = ap answer_of (sym c.in-Err.is) ∙ c.read.ensures.result_value in
    record { value = c.with_line.ensures.value ∙ ap refusal_number q; new_line = c.with_line.ensures.new_line ∙ ap refusal_line q; new_nodes = ap (λ (a : Answer Counts). (value_or no_counts a).nodes) q; new_facts = ap (λ (a : Answer Counts). (value_or no_counts a).facts) q; new_rules = ap (λ (a : Answer Counts). (value_or no_counts a).rules) q; new_names = c.read.ensures.new_names; new_cells = c.read.ensures.new_cells; new_values = c.read.ensures.new_values }
