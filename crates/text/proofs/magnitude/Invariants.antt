use Prim.Native.Nat.{◌<◌}
use mathlib.Core.Path.{◌≡◌}
use mathlib.Core.Bool.{true}
use lib.ListN.{drop}
use Rattle.base.specs.Lists.{allb}
use Rattle.text.specs.Decimals.{digit, is_mag, value_from}
use Rattle.text.proofs.magnitude.Given as goal

abbrev pub invariant-loop-b : goal.invariant-loop-b
invariant-loop-b l = (l.v < 10000000000000000000) × (allb digit (drop l.b-index l.b-items) ≡ true) × (value_from 0 l.b-items ≡ value_from l.v (drop l.b-index l.b-items)) × (is_mag l.b-items ≡ true)
