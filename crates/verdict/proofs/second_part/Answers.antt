-- `second_part` meets its contract, which has the same test.
use mathlib.Core.Path.{◌∙◌}
use Rattle.verdict.specs.Parts.{second_by, second_part}
use Rattle.verdict.proofs.second_part.Goals as goal

pub returns : goal.returns
unfolding second_part
returns c = c.pick.ensures ∙ (λ i. second_by (c.form_code-code.ensures i) (c.first_part.ensures i) ((c.wide-b.ensures ∙ c.form_second.ensures) i))
