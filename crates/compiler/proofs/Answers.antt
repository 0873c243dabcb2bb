-- The answers, each with the plan that it leaves; and how many cells a plan needs.
use Prim.Native.Nat.{ℕ, ◌≤◌, ◌<◌}
use mathlib.Core.List.{List, ◌++◌}
use mathlib.Core.Bool.{Bool, true, false, ◌&&◌, and-false}
use mathlib.Core.Path.{◌≡◌, refl, ap, ◌∙◌}
use lib.Dec.{leb}
use lib.IntN.{ℤ}
use lib.ListN.{length, take, drop}
use borrow.Author.Tests.{le-leb, lt-leb}
use Rattle.base.proofs.Bools.{and_both}
use Rattle.model.proofs.Answers.{Answering}
use Rattle.tables.specs.Layout.{cell_count}
use Rattle.tables.specs.Sizes.{long_enough}
use Rattle.tables.specs.WellFormed.{well_formed}
use Rattle.tables.proofs.WellFormed.{sound}
use Rattle.plan.specs.Layout.{plan_count}
use Rattle.translation.specs.Compile.{steps_of, plan_of}
use Rattle.compiler.specs.Stores.{RoomForPlan}
use Rattle.compiler.specs.Answers.{compile_long, compile_answer, plan_after}

module _ (ns cs : List ℕ) (vs : List ℤ) (ps : List ℕ) where
  pub compile_answers : Answering (compile_long ns cs vs ps) (well_formed (take cell_count cs)) true (length (steps_of (take cell_count cs))) (plan_of (take cell_count cs) ++ drop plan_count ps) ps (compile_answer ns cs vs ps) (plan_after ns cs vs ps)
  unfolding compile_answer plan_after
  compile_answers = record { answer = refl; left = refl }

  -- the ground for 8
  pub short-tables : long_enough ns cs vs ≡ false → compile_long ns cs vs ps ≡ false
  short-tables e = ap (λ (b : Bool). b && leb plan_count (length ps)) e

  pub short-plan : length ps < plan_count → compile_long ns cs vs ps ≡ false
  short-plan l = ap (λ (b : Bool). long_enough ns cs vs && b) (lt-leb plan_count (length ps) l) ∙ and-false (long_enough ns cs vs)

  pub long-both : long_enough ns cs vs ≡ true → plan_count ≤ length ps → compile_long ns cs vs ps ≡ true
  long-both e l = and_both (long_enough ns cs vs) (leb plan_count (length ps)) e (le-leb plan_count (length ps) l)

-- a plan for well_formed_lem tables
pub fits : (cs ps : List ℕ) → well_formed cs ≡ true → plan_count ≤ length ps → RoomForPlan cs ps
fits cs ps w l = record { plan = l; forms = (sound cs w).forms; rules = (sound cs w).rules }
