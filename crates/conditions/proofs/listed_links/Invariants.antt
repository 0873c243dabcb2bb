use Prim.Native.Nat.{◌-◌}
use mathlib.Core.Path.{◌≡◌}
use Rattle.nodeset.specs.Words.{words_of}
use Rattle.tables.specs.Layout.{form_first_at}
use Rattle.conditions.specs.Pairs.{link_words}
use Rattle.conditions.proofs.Items.{begun}
use Rattle.conditions.proofs.listed_links.Given as goal

abbrev pub invariant-loop-i : goal.invariant-loop-i
invariant-loop-i l = (l.from ≡ form_first_at l.cells l.e) × (l.words ≡ words_of (begun l.cells (form_first_at l.cells l.e) (l.i - l.from)) link_words)
