use Prim.Native.Nat.{◌*◌, ◌-◌, ◌≤◌}
use mathlib.Core.List.{◌++◌}
use mathlib.Core.Path.{◌≡◌}
use lib.ListN.{length, drop}
use Rattle.targets.specs.Classes.{sub_of}
use Rattle.runner.specs.Run.{step_words}
use Rattle.runner.proofs.run_all.Given as goal

abbrev pub invariant-loop-k : goal.invariant-loop-k
invariant-loop-k g l = (l.k ≤ l.count) × (length l.work ≡ length l.initial.work) × (l.rows.tables ≡ l.initial.rows.tables)
    × (l.work ≡ step_words (sub_of l.sub) l.initial.rows.tables.cells.now l.initial.rows.tables.values.now l.plan l.k ++ drop (16 * l.k) l.initial.work)

abbrev pub decreases-loop-k : goal.decreases-loop-k
decreases-loop-k g l = l.count - l.k
