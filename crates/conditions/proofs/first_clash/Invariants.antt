use lib.ListN.{length}
use mathlib.Core.Bool.{true, ◌&&◌}
use mathlib.Core.List.{List}
use mathlib.Core.Path.{◌≡◌}
use lib.IntN.{ℤ}
use Rattle.base.specs.Bounded.{every}
use Rattle.nodeset.specs.Words.{has}
use Rattle.tables.specs.Layout.{node_count}
use Rattle.conditions.specs.Searches.{MembersListed}
use Rattle.std.specs.Prelude.{None}
use Rattle.conditions.proofs.Listing.{clear_of}
use Rattle.conditions.proofs.Langs.{alike}
use Rattle.conditions.proofs.first_clash.Given as goal

abbrev pub invariant-loop-k : goal.invariant-loop-k
invariant-loop-k l = (l.answer ≡ None) × ((vs : List ℤ) → clear_of (alike l.cells vs) l.ends l.i l.k ≡ true)

abbrev pub invariant-search : goal.invariant-search
invariant-search l = (l.answer ≡ None) × (l.n ≡ node_count l.cells) × MembersListed (λ w. has l.a w && has l.b w) l.n l.ends (length l.ends) × ((vs : List ℤ) → every (λ j. clear_of (alike l.cells vs) l.ends j (length l.ends)) l.i ≡ true)
