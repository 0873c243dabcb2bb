use mathlib.Core.Path.{refl}
use native.Mathlib.Omega.{arith}
use lib.ListN.{length-set}
use Rattle.stores.specs.Entries.{put_form}
use Rattle.leafreader.proofs.put_form.Goals as goal

pub bounds-cells-e-2 : goal.bounds-cells-e-2
bounds-cells-e-2 c = simp length-set (omega arith)

pub bounds-cells-e-3 : goal.bounds-cells-e-3
bounds-cells-e-3 c = simp length-set (omega arith)

pub bounds-cells-e-4 : goal.bounds-cells-e-4
bounds-cells-e-4 c = simp length-set (omega arith)

pub bounds-cells-e-5 : goal.bounds-cells-e-5
bounds-cells-e-5 c = simp length-set (omega arith)

pub returns : goal.returns
unfolding put_form
returns c = refl
