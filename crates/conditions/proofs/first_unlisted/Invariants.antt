use Prim.Native.Nat.{ℕ}
use mathlib.Core.Path.{◌≡◌}
use Rattle.nodeset.specs.Words.{has}
use Rattle.conditions.specs.Searches.{before}
use Rattle.conditions.proofs.Items.{chain_of, Sought}
use Rattle.conditions.proofs.first_unlisted.Given as goal

abbrev pub invariant-loop-next : goal.invariant-loop-next
invariant-loop-next l = (v : ℕ) → l.initial.next ≡ chain_of l.tables.index.now v → Sought l.cells (has l.links) v l.next (before l.lowest)

abbrev pub decreases-loop-next : goal.decreases-loop-next
decreases-loop-next l = l.next
