use Prim.Native.Nat.{◌≤◌, ◌-◌}
use mathlib.Core.Path.{◌≡◌}
use lib.ListN.{length}
use Rattle.nodeset.specs.Words.{words_of}
use Rattle.paths.proofs.Repeats.{gained_to}
use Rattle.paths.proofs.add_image.Given as goal

abbrev pub invariant-loop-w : goal.invariant-loop-w
invariant-loop-w l = (l.w ≤ l.relation.n) × (length l.into ≡ length l.initial.into) × (l.into ≡ words_of (gained_to l.initial.into l.from l.relation.rows.now l.relation.n l.w) (length l.initial.into))

abbrev pub decreases-loop-w : goal.decreases-loop-w
decreases-loop-w l = l.relation.n - l.w
