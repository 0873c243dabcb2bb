-- `between` meets its contract: 65,535 is `*`.
use mathlib.Core.Path.{◌∙◌}
use mathlib.Core.Bool.{◌&&◌, ◌||◌}
use lib.Dec.{eqb, leb}
use Rattle.entries.proofs.Ends.{between_law}
use Rattle.entries.proofs.between.Goals as goal

pub returns : goal.returns
returns c = let a = c.args in (λ i. leb a.lo a.k && (eqb a.hi (c.wide.ensures i) || leb a.k a.hi)) ∙ between_law a.lo a.hi a.k
