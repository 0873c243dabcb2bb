use Prim.Native.Nat.{ℕ, ◌-◌, ◌<◌}
use mathlib.Core.Bool.{false}
use mathlib.Core.Path.{◌≡◌}
use Rattle.closure.specs.Rows.{leads}
use Rattle.model.specs.Rounds.{settled}
use Rattle.reach.proofs.Levels.{After}
use Rattle.reach.proofs.search.Given as goal

abbrev pub invariant-loop-nodes : goal.invariant-loop-nodes
invariant-loop-nodes l = After (leads l.relation.rows.now) l.relation.n l.v l.count l.level.reached.words l.level.frontier.words × ((j : ℕ) → j < l.count → settled (leads l.relation.rows.now) l.relation.n l.v j ≡ false)

abbrev pub decreases-loop-nodes : goal.decreases-loop-nodes
decreases-loop-nodes l = l.relation.n - l.count
