use Prim.Native.Nat.{◌-◌, ◌<◌}
use mathlib.Core.Bool.{Bool}
use mathlib.Core.Path.{◌≡◌}
use Rattle.base.specs.Least.{next_from}
use Rattle.nodeset.specs.Words.{has}
use Rattle.nodeset.specs.Operations.{DigitByDigit}
use Rattle.nodeset.proofs.next_kept.Given as goal

abbrev pub invariant-loop-skip : goal.invariant-loop-skip
invariant-loop-skip g l = (l.at < l.n) × ((keeps : Bool → Bool → Bool) → DigitByDigit keeps (goal.F-post g l.op) → next_from (λ m. keeps (has l.a m) (has l.b m)) l.at l.n ≡ next_from (λ m. keeps (has l.a m) (has l.b m)) l.from l.n)

abbrev pub decreases-loop-skip : goal.decreases-loop-skip
decreases-loop-skip g l = l.n - l.at
