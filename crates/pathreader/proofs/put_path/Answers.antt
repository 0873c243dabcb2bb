use mathlib.Core.Path.{refl}
use native.Mathlib.Omega.{arith}
use lib.ListN.{length-set}
use Rattle.stores.specs.Entries.{put_path}
use Rattle.pathreader.proofs.put_path.Goals as goal

pub bounds-cells-e-2 : goal.bounds-cells-e-2
bounds-cells-e-2 c = simp length-set (omega arith)

pub bounds-cells-e-3 : goal.bounds-cells-e-3
bounds-cells-e-3 c = simp length-set (omega arith)

pub returns : goal.returns
unfolding put_path
returns c = refl
