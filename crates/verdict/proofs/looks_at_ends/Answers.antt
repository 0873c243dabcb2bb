-- `looks_at_ends` meets its contract, which has the same test.
use mathlib.Core.Path.{ap}
use Rattle.verdict.specs.Parts.{ends_code, looks_at_ends}
use Rattle.verdict.proofs.looks_at_ends.Goals as goal

pub returns : goal.returns
unfolding looks_at_ends
returns c = ap ends_code c.form_code-code.ensures
