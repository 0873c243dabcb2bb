use mathlib.Core.Path.{◌≡◌}
use lib.ListN.{length}
use Rattle.base.specs.Bounded.{size}
use Rattle.nodeset.specs.Words.{bit}
use Rattle.closure.proofs.Blocks.{Left}
use Rattle.closure.proofs.take_block.Given as goal

abbrev pub invariant-loop-left : goal.invariant-loop-left
invariant-loop-left l = (length l.rows ≡ length l.initial.rows) × Left l.initial.rows l.v l.block.number l.block.end l.left l.rows

abbrev pub decreases-loop-left : goal.decreases-loop-left
decreases-loop-left l = size (bit l.left) 64
