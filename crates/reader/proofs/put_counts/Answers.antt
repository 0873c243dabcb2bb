use mathlib.Core.Path.{refl}
use native.Mathlib.Omega.{arith}
use lib.ListN.{length-set}
use Rattle.stores.specs.Lines.{put_counts}
use Rattle.reader.proofs.put_counts.Goals as goal

pub bounds-cells-1 : goal.bounds-cells-1
bounds-cells-1 c = simp length-set (omega arith)

pub bounds-cells-2 : goal.bounds-cells-2
bounds-cells-2 c = simp length-set (omega arith)

pub bounds-cells-3 : goal.bounds-cells-3
bounds-cells-3 c = simp length-set (omega arith)

pub bounds-cells-4 : goal.bounds-cells-4
bounds-cells-4 c = simp length-set (omega arith)

pub bounds-cells-5 : goal.bounds-cells-5
bounds-cells-5 c = simp length-set (omega arith)

pub bounds-cells-6 : goal.bounds-cells-6
bounds-cells-6 c = simp length-set (omega arith)

pub bounds-cells-7 : goal.bounds-cells-7
bounds-cells-7 c = simp length-set (omega arith)

pub bounds-cells-8 : goal.bounds-cells-8
bounds-cells-8 c = simp length-set (omega arith)

pub overflow_cast-cells-10 : goal.overflow_cast-cells-10
overflow_cast-cells-10 c = omega (arith, c.requires.2.rule_limit)

pub bounds-cells-9 : goal.bounds-cells-9
bounds-cells-9 c = simp length-set (omega arith)

pub returns : goal.returns
unfolding put_counts
returns c = refl
