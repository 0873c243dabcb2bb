use Prim.Native.Nat.{suc, ◌+◌, ◌-◌, ◌≤◌}
use mathlib.Core.Bool.{Bool, true, ◌&&◌}
use mathlib.Core.Path.{◌≡◌, sym, ap, ◌∙◌}
use native.Mathlib.Omega.{arith}
use lib.Dec.{ltb}
use lib.ListN.{take}
use lib.Seq.{length-take-le}
use Rattle.base.specs.Bounded.{every}
use Rattle.model.specs.Limits.{max_nodes, max_rules}
use Rattle.tables.specs.Layout.{rule_count}
use Rattle.tables.specs.WellFormed.{well_formed}
use Rattle.tables.proofs.WellFormed as tables
use Rattle.report.specs.Pages.{length_ok, report_part_ok}
use Rattle.report.specs.Answers.{part_formed}
use Rattle.report.proofs.Parts.{all_is, lengths_below, ok-head, ok_rule, ok-last, ok-past}
use Rattle.report.proofs.Lists.part_ok.Goals as goal
use Rattle.report.proofs.Lists.part_ok.Goals.{Else-not-well_formed, Then-not-well_formed}

-- past the test of the tables what is left to test is the part's; there are few rules
is-formed : (c : Else-not-well_formed) → well_formed c.args.cells.now ≡ true
is-formed c = sym c.well_formed-2.ensures ∙ c.if-not-well_formed.false

rest : (c : Else-not-well_formed) → let a = c.args in part_formed a.cells.now a.self.rows.now a.self.lengths.now a.part ≡ report_part_ok a.cells.now a.self.rows.now a.self.lengths.now a.part
rest c = let a = c.args in ap (λ (t : Bool). t && report_part_ok a.cells.now a.self.rows.now a.self.lengths.now a.part) (is-formed c)

few : (c : Else-not-well_formed) → rule_count c.args.cells.now ≤ max_rules
few c = (tables.sound c.args.cells.now (is-formed c)).rules

pub returns-then-not-well_formed : goal.returns-then-not-well_formed
returns-then-not-well_formed c =
    let a = c.args in
    sym (ap (λ (t : Bool). t && report_part_ok a.cells.now a.self.rows.now a.self.lengths.now a.part) (sym c.well_formed-2.ensures ∙ c.if-not-well_formed.true))

pub returns-then-part-eq0 : goal.returns-then-part-eq0
returns-then-part-eq0 c =
    let a = c.args in
    sym (rest (goal.at.returns-then-part-eq0 c).Else-not-well_formed ∙ ok-head a.cells.now a.self.rows.now a.self.lengths.now a.part c.if-part-eq0.true)

pub row_ok-requires : goal.row_ok-requires
row_ok-requires c = omega (arith, few (goal.at.row_ok-requires c).Else-not-well_formed, c.if-part-eq0.false, c.if-part-rules.true, c.rule_count-rules.ensures)

pub returns-then-part-rules : goal.returns-then-part-rules
returns-then-part-rules c =
    let a = c.args in
    let next : a.part ≡ suc (a.part - 1) = omega (arith, c.if-part-eq0.false) in
    c.row_ok.ensures ∙ sym (rest (goal.at.returns-then-part-rules c).Else-not-well_formed ∙ ok_rule a.cells.now a.self.rows.now a.self.lengths.now a.part (a.part - 1) next (omega (arith, c.if-part-rules.true, next, c.rule_count-rules.ensures)))

pub overflow_add-rules : goal.overflow_add-rules
overflow_add-rules c = omega (arith, few (goal.at.overflow_add-rules c).Else-not-well_formed, c.rule_count-rules.ensures)

pub returns-then-rules-part : goal.returns-then-rules-part
returns-then-rules-part c =
    let a = c.args in
    sym (rest (goal.at.returns-then-rules-part c).Else-not-well_formed ∙ ok-past a.cells.now a.self.rows.now a.self.lengths.now a.part (omega (arith, c.if-rules-part.true, c.rule_count-rules.ensures)))

pub slice_bounds-all_below-end : goal.slice_bounds-all_below-end
slice_bounds-all_below-end c = sym (length-take-le _ c.args.self.lengths.now (omega (arith, few (goal.at.slice_bounds-all_below-end c).Else-not-well_formed, c.rule_count-rules.ensures, c.args.self.lengths_long)))

pub returns : goal.returns
returns c =
    let a = c.args in
    let n = c.rule_count-rules in
    let at = (goal.at.returns c).Else-not-well_formed in
    c.all_below.ensures ∙ all_is (λ k. ltb k (max_nodes + 1)) (take n.result a.self.lengths.now)
    ∙ lengths_below a.self.lengths.now n.result (omega (arith, few at, n.ensures, c.args.self.lengths_long))
    ∙ ap (every (length_ok a.self.lengths.now)) n.ensures
    ∙ sym (rest at ∙ ok-last a.cells.now a.self.rows.now a.self.lengths.now a.part (omega (arith, c.if-rules-part.false, c.if-part-rules.false, n.ensures)))
