use Prim.Native.Nat.{◌-◌}
use mathlib.Core.Path.{◌≡◌}
use lib.ListN.{length}
use Rattle.itemreader.specs.Held.{Indexed}
use Rattle.reader.proofs.Runs.{Runs}
use Rattle.reader.proofs.read_from.Given as goal

abbrev pub invariant-loop-at : goal.invariant-loop-at
invariant-loop-at l = (length l.names ≡ length l.initial.names) × (length l.cells ≡ length l.initial.cells) × (length l.values ≡ length l.initial.values) × Runs l.book l.initial.names l.initial.cells l.initial.values l.names l.cells l.values l.counts l.at l.line × (length l.index ≡ length l.initial.index) × Indexed l.names l.counts l.index

abbrev pub decreases-loop-at : goal.decreases-loop-at
decreases-loop-at l = length l.book - l.at
