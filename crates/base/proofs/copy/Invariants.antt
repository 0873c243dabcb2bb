use mathlib.Core.Path.{◌≡◌}
use lib.ListN.{take}
use Rattle.base.proofs.Copies.{over}
use Rattle.base.proofs.copy.Given as goal

abbrev pub invariant-loop-i : goal.invariant-loop-i
invariant-loop-i g l = l.into ≡ over l.initial.into (take l.i l.x-items)
