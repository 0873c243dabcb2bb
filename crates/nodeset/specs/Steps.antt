-- The steps of the iterator over the members of a set, lowest first.
use Rattle.std.specs.Prelude.{ℕ, ◌+◌, ◌≤◌, ◌<◌, ◌≡◌, Option, Some, None}
use Rattle.base.specs.Least.{next_from}
use Rattle.nodeset.specs.Words.{has}
use Rattle.nodeset.specs.declared.Iter.{Iter}

-- a step from s gives the member that comes next and leaves those above it; none where all were given, and leaves none
abbrev pub Gives : Iter → Option ℕ → Iter → Type 0
Gives s (Some v) t = (v ≡ s.next) × (v < s.n) × (t.next ≡ next_from (has s.words.now) (v + 1) s.n) × (t.words.now ≡ s.words.now) × (t.n ≡ s.n)
Gives s None t = s.n ≤ s.next
