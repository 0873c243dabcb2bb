use Prim.Native.Nat.{zero-le}
use Rattle.tables.specs.Codes as codes
use Rattle.plan.specs.Steps.{numbers_of}
use Rattle.base.proofs.Codes.{nots_past}
use Rattle.compiler.proofs.Loops.{target-node, target-subjects, target-objects, target_class_lem}
use Rattle.compiler.proofs.target_step.Goals as goal

pub returns-in-0 : goal.returns-in-0
unfolding numbers_of
returns-in-0 c = let a = c.args in target-node a.cells.now a.r c.rule_target-code.result c.rule_node-c.result.0 c.rule_target-code.ensures c.rule_node-c.ensures _ c.in-0.is c.step.ensures

pub returns-in-1 : goal.returns-in-1
unfolding numbers_of
returns-in-1 c = let a = c.args in target-subjects a.cells.now a.r c.rule_target-code.result c.rule_link-l.result.0 c.rule_target-code.ensures c.rule_link-l.ensures _ c.in-1.is c.step-in-1.ensures

pub returns-in-2 : goal.returns-in-2
unfolding numbers_of
returns-in-2 c = let a = c.args in target-objects a.cells.now a.r c.rule_target-code.result c.rule_link-l.result.0 c.rule_target-code.ensures c.rule_link-l.ensures _ c.in-2.is c.step-in-2.ensures

pub returns-in-3-to-65535 : goal.returns-in-3-to-65535
unfolding numbers_of
returns-in-3-to-65535 c = let a = c.args in target_class_lem a.cells.now a.r c.rule_target-code.result c.rule_node-c.result.0 c.rule_target-code.ensures c.rule_node-c.ensures _ (nots_past _ c.rule_target-code.result 0 codes.target_class zero-le c.in-3-to-65535.in-3-to-65535-own.rest) c.step-in-3-to-65535.ensures
