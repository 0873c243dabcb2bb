use mathlib.Core.Path.{◌≡◌}
use Rattle.nodeset.specs.Words.{has}
use Rattle.lists.proofs.Rows.{Listing}
use Rattle.lists.proofs.list_set.Given as goal

abbrev pub invariant-loop-v : goal.invariant-loop-v
invariant-loop-v l = (l.v-iterator.n ≡ l.n) × (l.v-iterator.words.now ≡ l.words) × Listing (has l.words) l.n l.initial.row l.v-iterator.next l.count l.row
