use Prim.Native.Nat.{◌≤◌, ◌-◌}
use mathlib.Core.Path.{◌≡◌}
use lib.ListN.{length}
use Rattle.paths.specs.Images.{with_images, set_count, start_of}
use Rattle.paths.proofs.Joins.{itself}
use Rattle.paths.proofs.join_itself.Given as goal

abbrev pub invariant-loop-x : goal.invariant-loop-x
invariant-loop-x l = (l.x ≤ l.n) × (length l.into ≡ length l.initial.into) × (l.into ≡ with_images (set_count l.sets) l.n (itself l.x) (start_of l.sets l.from) l.initial.into)

abbrev pub decreases-loop-x : goal.decreases-loop-x
decreases-loop-x l = l.n - l.x
