use mathlib.Core.Bool.{Bool}
use mathlib.Core.Path.{◌≡◌}
use lib.ListN.{length}
use Rattle.nodeset.specs.Words.{has, words_of}
use Rattle.nodeset.specs.Operations.{DigitByDigit}
use Rattle.nodeset.proofs.Sets.{up_to}
use Rattle.nodeset.proofs.combine_into.Given as goal

abbrev pub invariant-loop-i : goal.invariant-loop-i
invariant-loop-i g l = (keeps : Bool → Bool → Bool) → DigitByDigit keeps (goal.F-post g l.op) → l.into ≡ words_of (up_to (λ m. keeps (has l.initial.into m) (has l.from m)) (has l.initial.into) l.i) (length l.initial.into)
