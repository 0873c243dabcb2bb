-- The answers, each with the work space that it leaves; and what slices that are as_long enough give.
use Prim.Native.Nat.{ℕ, ◌≤◌}
use mathlib.Core.List.{List}
use mathlib.Core.Bool.{true, ◌&&◌}
use mathlib.Core.Path.{◌≡◌, refl}
use lib.Dec.{leb}
use lib.IntN.{ℤ}
use lib.ListN.{length, take}
use borrow.Author.Tests.{leb-true}
use Rattle.base.proofs.Bools.{and_left, and_right}
use Rattle.model.proofs.Answers.{Answering}
use Rattle.tables.specs.Layout.{name_count, cell_count, value_count}
use Rattle.tables.specs.Names.{sub_class_at}
use Rattle.tables.specs.Sizes.{long_enough}
use Rattle.tables.proofs.Sizes.{Long, as_long}
use Rattle.plan.specs.Layout.{plan_count}
use Rattle.plancheck.specs.Both.{both_well_formed}
use Rattle.runner.specs.Run.{work_count, filled, run_long, run_answer, work_after}

module _ (ns cs : List ℕ) (vs : List ℤ) (ps ws : List ℕ) where
  pub run-answers : Answering (run_long ns cs vs ps ws) (both_well_formed (take cell_count cs) (take plan_count ps)) true tt (filled (sub_class_at (take name_count ns) (take cell_count cs)) (take cell_count cs) (take value_count vs) (take plan_count ps) ws) ws (run_answer ns cs vs ps ws) (work_after ns cs vs ps ws)
  unfolding run_answer work_after
  run-answers = record { answer = refl; left = refl }

  -- the slices are as as_long as the limits
  pub record RunRoom : Type 0 where
    pub tables : Long ns cs vs
    pub plan : plan_count ≤ length ps
    pub work : work_count ≤ length ws

  pub run_room : run_long ns cs vs ps ws ≡ true → RunRoom
  unfolding run_long
  run_room e =
      let rest : (leb plan_count (length ps) && leb work_count (length ws)) ≡ true = and_right (long_enough ns cs vs) (leb plan_count (length ps) && leb work_count (length ws)) e in
      record {
        tables = as_long ns cs vs (and_left (long_enough ns cs vs) (leb plan_count (length ps) && leb work_count (length ws)) e);
        plan = leb-true plan_count (length ps) (and_left (leb plan_count (length ps)) (leb work_count (length ws)) rest);
        work = leb-true work_count (length ws) (and_right (leb plan_count (length ps)) (leb work_count (length ws)) rest);
      }
