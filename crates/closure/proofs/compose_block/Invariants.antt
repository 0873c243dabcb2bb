use Prim.Native.Nat.{◌≤◌, ◌-◌}
use mathlib.Core.Path.{◌≡◌}
use lib.ListN.{length}
use Rattle.nodeset.specs.Words.{words_of}
use Rattle.closure.specs.Closing.{gained, union_of, by_word, in_first}
use Rattle.closure.proofs.compose_block.Given as goal

abbrev pub invariant-loop-v : goal.invariant-loop-v
invariant-loop-v l = (l.v ≤ l.n) × (length l.into ≡ length l.initial.into) × (l.sum.words ≡ words_of (union_of l.from l.j l.last) 16) × (l.into ≡ gained l.initial.into (in_first l.v (by_word l.rows l.from l.j l.mask)))

abbrev pub decreases-loop-v : goal.decreases-loop-v
decreases-loop-v l = l.n - l.v
