-- The five stores are those of the definition, in its order.
use mathlib.Core.Path.{refl}
use native.Mathlib.Omega.{arith}
use lib.ListN.{length-set}
use Rattle.plan.specs.Layout.{with_numbers}
use Rattle.plan.proofs.put_step.Goals as goal

pub bounds-plan-k-2 : goal.bounds-plan-k-2
bounds-plan-k-2 c = simp length-set (omega arith)

pub bounds-plan-k-3 : goal.bounds-plan-k-3
bounds-plan-k-3 c = simp length-set (omega arith)

pub bounds-plan-k-4 : goal.bounds-plan-k-4
bounds-plan-k-4 c = simp length-set (omega arith)

pub bounds-plan-k-5 : goal.bounds-plan-k-5
bounds-plan-k-5 c = simp length-set (omega arith)

pub returns : goal.returns
unfolding with_numbers
returns c = refl
