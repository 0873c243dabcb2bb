use mathlib.Core.Path.{◌≡◌}
use lib.Dec.{eqb}
use Rattle.nodeset.specs.Words.{nodes_of}
use Rattle.tables.specs.Codes as codes
use Rattle.tables.specs.Layout.{kind_at}
use Rattle.conditions.proofs.languages.Given as goal

abbrev pub invariant-loop-x : goal.invariant-loop-x
invariant-loop-x l = l.words ≡ nodes_of (λ m. eqb (kind_at l.cells m) codes.node_words) l.x
