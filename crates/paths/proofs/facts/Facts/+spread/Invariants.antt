use Prim.Native.Nat.{◌+◌, ◌*◌}
use Rattle.paths.proofs.facts.Facts.+spread.Given as goal

abbrev pub decreases-repeat : goal.decreases-repeat
decreases-repeat l = 4 * l.e

abbrev pub decreases-seq : goal.decreases-seq
decreases-seq l = 4 * l.e + 2

abbrev pub decreases-seq_by : goal.decreases-seq_by
decreases-seq_by l = 4 * l.e

abbrev pub decreases-seq_few : goal.decreases-seq_few
decreases-seq_few l = 4 * l.e + 1

abbrev pub decreases-seq_many : goal.decreases-seq_many
decreases-seq_many l = 4 * l.e + 1

abbrev pub decreases-spread : goal.decreases-spread
decreases-spread l = 4 * l.e + 3
