use Prim.Native.Nat.{◌-◌}
use mathlib.Core.Bool.{◌&&◌}
use mathlib.Core.Path.{◌≡◌}
use lib.ListN.{length}
use Rattle.nodeset.specs.Words.{has}
use Rattle.conditions.proofs.Listing.{Gathering}
use Rattle.conditions.proofs.gather.Given as goal

abbrev pub invariant-loop-x : goal.invariant-loop-x
invariant-loop-x l = (length l.into ≡ length l.initial.into) × Gathering (λ m. has l.a m && has l.b m) l.n l.into l.count l.x

abbrev pub decreases-loop-x : goal.decreases-loop-x
decreases-loop-x l = l.n - l.x
