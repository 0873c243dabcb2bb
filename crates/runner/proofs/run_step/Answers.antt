-- `run_step` meets its contract: the step's words are stored from 16 times its number on.
use Prim.Native.Nat.{ℕ, ◌*◌, ◌-◌}
use mathlib.Core.List.{List}
use mathlib.Core.Path.{refl, ap, ◌∙◌}
use native.Mathlib.Omega.{arith}
use lib.ListN.{length}
use Rattle.runner.specs.Steps.{put}
use Rattle.runner.proofs.Work.{put-tail, length-step}
use Rattle.targets.specs.Classes.{sub_of}
use Rattle.runner.proofs.run_step.Goals as goal

pub returns-clause-new_work : goal.returns-clause-new_work
returns-clause-new_work g c =
    let a = c.args in
    let t = a.rows.now.tables in
    let ws : List ℕ = a.work.now in
    put-tail ws c.step_set-set.result.words a.k (length ws - 16 * a.k) (length-step (sub_of a.sub) t.cells.now t.values.now a.plan.now ws a.k c.step_set-set.ensures.words_value) (omega (arith, c.requires.0, c.requires.2)) refl c.store.ensures
    ∙ ap (put ws a.k) c.step_set-set.ensures.words_value
