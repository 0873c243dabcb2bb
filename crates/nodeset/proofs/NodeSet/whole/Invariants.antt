use mathlib.Core.Bool.{false}
use mathlib.Core.Path.{◌≡◌}
use lib.Dec.{ltb}
use Rattle.nodeset.specs.Words.{words_of}
use Rattle.nodeset.proofs.Sets.{up_to}
use Rattle.nodeset.proofs.NodeSet.whole.Given as goal

abbrev pub invariant-loop-j : goal.invariant-loop-j
invariant-loop-j l = l.word-items ≡ words_of (up_to (λ m. ltb m l.n) (λ m. false) l.j) 16
