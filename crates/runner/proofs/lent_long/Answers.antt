use mathlib.Core.Bool.{Bool, ◌&&◌}
use mathlib.Core.Path.{ap}
use lib.Dec.{leb}
use lib.ListN.{length}
use Rattle.plan.specs.Layout.{plan_count}
use Rattle.runner.specs.Run.{work_count, run_long}
use Rattle.runner.proofs.lent_long.Goals as goal

pub returns : goal.returns
unfolding run_long
returns c = ap (λ (x : Bool). x && (leb plan_count (length c.args.plan.now) && leb work_count (length c.args.work.now))) c.enough.ensures
