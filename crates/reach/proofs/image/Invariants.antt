use mathlib.Core.Path.{◌≡◌}
use Rattle.reach.proofs.Levels.{Joined}
use Rattle.reach.proofs.image.Given as goal

abbrev pub invariant-loop-u : goal.invariant-loop-u
invariant-loop-u l = (l.u-iterator.n ≡ l.n) × (l.u-iterator.words.now ≡ l.fn.set.words) × Joined l.rows l.n l.fn.set.words l.words l.u-iterator.next
