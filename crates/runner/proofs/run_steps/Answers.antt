-- `run_steps` meets its contract: the link `under` is that of the names.
use Prim.Native.Nat.{ℕ}
use mathlib.Core.Option.{Option}
use mathlib.Core.Path.{ap, ◌∙◌}
use native.Mathlib.Omega.{arith}
use Rattle.tables.proofs.WellFormed.{sound}
use Rattle.runner.specs.Run.{filled}
use Rattle.runner.proofs.run_steps.Goals as goal

pub returns-then-node_count-le-FEW_NODES : goal.returns-then-node_count-le-FEW_NODES
returns-then-node_count-le-FEW_NODES c = let a = c.args in c.run_within.ensures ∙ ap (λ (sub : Option ℕ). filled sub a.cells.now a.values.now a.plan.now a.work.now) c.sub_class_link-sub.ensures

pub returns-else-node_count-le-FEW_NODES : goal.returns-else-node_count-le-FEW_NODES
returns-else-node_count-le-FEW_NODES c = let a = c.args in c.run_within-else-node_count-le-FEW_NODES.ensures ∙ ap (λ (sub : Option ℕ). filled sub a.cells.now a.values.now a.plan.now a.work.now) c.sub_class_link-sub.ensures

pub run_within-requires-else-node_count-le-FEW_NODES : goal.run_within-requires-else-node_count-le-FEW_NODES
run_within-requires-else-node_count-le-FEW_NODES c = let pre = c.requires in (pre.3, pre.4, omega (arith, (sound c.args.cells.now pre.2).nodes), omega arith)
