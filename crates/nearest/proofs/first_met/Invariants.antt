use Prim.Native.Nat.{ℕ, ◌-◌, ◌<◌}
use mathlib.Core.Bool.{false}
use mathlib.Core.Path.{◌≡◌}
use Rattle.nodeset.specs.Words.{has}
use Rattle.closure.specs.Rows.{leads}
use Rattle.model.specs.Nearest.{spare_within}
use Rattle.reach.proofs.Levels.{After}
use Rattle.nearest.proofs.first_met.Given as goal

abbrev pub invariant-loop-wanted : goal.invariant-loop-wanted
invariant-loop-wanted l = After (leads l.relation.rows.now) l.relation.n l.v l.hops l.level.reached.words l.level.frontier.words × ((j : ℕ) → j < l.hops → spare_within (leads l.relation.rows.now) (has l.wanted) l.relation.n l.v j ≡ false)

abbrev pub decreases-loop-wanted : goal.decreases-loop-wanted
decreases-loop-wanted l = l.relation.n - l.hops
