use mathlib.Core.Path.{ap, ◌∙◌}
use Prim.Native.Nat.{◌-◌, ◌*◌}
use native.Mathlib.Omega.{arith}
use lib.ListN.{length, take, drop}
use Rattle.nodeset.specs.Words.{has}
use Rattle.lists.specs.Rows.{over}
use Rattle.lists.proofs.Rows.{rule_listed, few}
use Rattle.lists.proofs.list_rule.Goals as goal

pub returns : goal.returns
returns c =
    let a = c.args in
    let e = rule_listed a.cells.now a.plan.now a.work.now a.r c.rule_step-at.result c.node_count.result c.rule_step-at.ensures c.node_count.ensures in
    let small = few (has (take (length a.work.now - 16 * c.rule_step-at.result) (drop (16 * c.rule_step-at.result) a.work.now))) c.node_count.result in
    record { value = c.list_set.ensures.value ∙ ap length e; new_row = c.list_set.ensures.new_row ∙ ap (λ xs. over xs a.row.now) e; upper_bound = omega (arith, c.list_set.ensures.value, small, c.node_count.ensures, c.requires.0) }
