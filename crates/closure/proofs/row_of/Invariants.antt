use Prim.Native.Nat.{◌≤◌, ◌-◌}
use mathlib.Core.Bool.{false}
use mathlib.Core.Path.{◌≡◌}
use Rattle.nodeset.specs.Words.{words_of}
use Rattle.nodeset.proofs.Sets.{up_to}
use Rattle.closure.specs.Rows.{leads}
use Rattle.closure.proofs.row_of.Given as goal

abbrev pub invariant-loop-i : goal.invariant-loop-i
invariant-loop-i l = (l.i ≤ 16) × (l.words ≡ words_of (up_to (leads l.rows l.v) (λ m. false) l.i) 16)

abbrev pub decreases-loop-i : goal.decreases-loop-i
decreases-loop-i l = 16 - l.i
