use Prim.Native.Nat.{ℕ, ◌≤◌, ◌<◌, ◌-◌}
use mathlib.Core.Bool.{Bool}
use mathlib.Core.Path.{◌≡◌}
use lib.ListN.{length}
use Rattle.model.specs.declared.NodeNo.{NodeNo}
use Rattle.nodeset.specs.Words.{nodes_of}
use Rattle.stepsets.proofs.nodes_where.Given as goal

abbrev pub invariant-loop-x : goal.invariant-loop-x
invariant-loop-x g l = (l.x ≤ l.n) × (16 ≡ length l.words) × ((p : ℕ → Bool) → ((v : NodeNo) (yes : Bool) → v.0 < l.n → goal.F-post g l.test v yes → yes ≡ p v.0) → l.words ≡ nodes_of p l.x)

abbrev pub decreases-loop-x : goal.decreases-loop-x
decreases-loop-x g l = l.n - l.x
