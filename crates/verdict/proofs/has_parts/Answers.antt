-- `has_parts` meets its contract, which has the same test.
use mathlib.Core.Bool.{◌&&◌, ◌||◌}
use lib.Dec.{leb}
use Rattle.verdict.specs.Parts.{looks_at_ends, has_parts}
use Rattle.verdict.proofs.has_parts.Goals as goal

pub returns : goal.returns
unfolding has_parts looks_at_ends
returns c = (λ i. (leb 2 (c.form_code-code.ensures i) && leb (c.form_code-code.ensures i) 5) || c.looks_at_ends.ensures i)
