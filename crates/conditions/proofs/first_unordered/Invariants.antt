use Prim.Native.Nat.{◌-◌}
use lib.ListN.{length}
use mathlib.Core.Bool.{true}
use mathlib.Core.Path.{◌≡◌}
use Rattle.nodeset.specs.Words.{has}
use Rattle.tables.specs.Layout.{node_count}
use Rattle.tables.specs.Decode.{term_at}
use Rattle.conditions.specs.Pairs.{unordered}
use Rattle.conditions.specs.Searches.{MembersListed}
use Rattle.std.specs.Prelude.{None}
use Rattle.conditions.proofs.Members.{Passed}
use Rattle.conditions.proofs.Listing.{quiet, passed_by}
use Rattle.conditions.proofs.first_unordered.Given as goal

abbrev pub invariant-loop-y : goal.invariant-loop-y
invariant-loop-y l = (l.answer ≡ None) × (passed_by (λ x' y'. unordered l.order (term_at l.cells l.values x') (term_at l.cells l.values y')) l.x l.seconds l.y-index ≡ true)

abbrev pub invariant-search : goal.invariant-search
invariant-search l = (l.answer ≡ None) × (l.n ≡ node_count l.cells) × MembersListed (has l.b) l.n l.seconds (length l.seconds) × Passed (has l.a) (quiet (has l.b) (λ x' y'. unordered l.order (term_at l.cells l.values x') (term_at l.cells l.values y')) l.n) l.n l.x

abbrev pub decreases-search : goal.decreases-search
decreases-search l = l.n - l.x
