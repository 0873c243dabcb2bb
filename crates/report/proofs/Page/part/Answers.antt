use Prim.Native.Nat.{ℕ, suc, ◌-◌, ◌<◌, ◌≤◌}
use mathlib.Core.Bool.{true}
use mathlib.Core.List.{List, map}
use mathlib.Core.Path.{◌≡◌, sym, ap, ◌∙◌}
use native.Mathlib.Omega.{arith}
use lib.Dec.{ltb}
use lib.ListN.{length, get_or}
use Rattle.base.specs.Lists.{allb}
use Rattle.model.specs.Limits.{max_nodes, max_rules}
use Rattle.tables.specs.Layout.{node_count, fact_count, rule_count}
use Rattle.tables.specs.Names.{node_name_at}
use Rattle.tables.proofs.WellFormed as tables
use Rattle.lists.specs.Rows.{row_in}
use Rattle.report.specs.Report.{head_line, break_lines, found_line}
use Rattle.report.specs.Pages.{found_in, row_ok}
use Rattle.report.proofs.Writing.{put_as, head_fits, found_fits}
use Rattle.report.proofs.Parts.{part-head, part_rule, part-last, ok_rule, row-short, row_below, row_few}
use Rattle.report.proofs.Page.part.Goals as goal
use Rattle.report.proofs.Page.part.Goals.{After-rule_count-rules, Else-rules-part}

pub line-requires : goal.line-requires
line-requires c =
    let n = c.node_count in
    let f = c.fact_count in
    let r = c.rule_count-rules in
    omega (arith, head_fits n.result f.result r.result (omega (arith, n.type_inv)) (omega (arith, f.type_inv)) (omega (arith, r.type_inv)), c.requires.0)

pub returns-then-part-eq0-clause-put : goal.returns-then-part-eq0-clause-put
returns-then-part-eq0-clause-put c =
    let a = c.args in
    let n = c.node_count in
    let f = c.fact_count in
    let r = c.rule_count-rules in
    let head : head_line n.result f.result r.result ≡ head_line (node_count a.cells.now) (fact_count a.cells.now) (rule_count a.cells.now) = (λ i. head_line (n.ensures i) (f.ensures i) (r.ensures i)) in
    put_as (head ∙ part-head a.names.now a.cells.now a.lists.rows.now a.lists.lengths.now a.part c.if-part-eq0.true) c.line.ensures.put

-- there are few rules
few : (c : After-rule_count-rules) → c.rule_count-rules.result ≤ max_rules
few c = omega (arith, (tables.sound c.args.cells.now c.requires.2).rules, c.rule_count-rules.ensures)

pub total-requires : goal.total-requires
total-requires c = omega (arith, few (goal.at.total-requires c).After-rule_count-rules)

pub line-requires-then-rules-part : goal.line-requires-then-rules-part
line-requires-then-rules-part c = omega (arith, found_fits c.total.result (omega (arith, c.total.type_inv)), c.requires.0)

pub returns-then-rules-part-clause-put : goal.returns-then-rules-part-clause-put
returns-then-rules-part-clause-put c =
    let a = c.args in
    let r = c.rule_count-rules in
    let count : c.total.result ≡ found_in a.lists.lengths.now (rule_count a.cells.now) = c.total.ensures ∙ ap (found_in a.lists.lengths.now) r.ensures in
    put_as (ap found_line count ∙ part-last a.names.now a.cells.now a.lists.rows.now a.lists.lengths.now a.part (omega (arith, c.if-rules-part.true, r.ensures))) c.line-then-rules-part.ensures.put

-- a rule's part: the rule is one of the tables, and its row has no ground for refusal 9
record Ruled (cs ls ks : List ℕ) (k : ℕ) : Type 0 where
  next : k ≡ suc (k - 1)
  low : k - 1 < max_rules
  short : get_or ks (k - 1) 0 ≤ max_nodes
  nodes : allb (λ v. ltb v max_nodes) (row_in ls ks (k - 1)) ≡ true

ruled : (c : Else-rules-part) → Ruled c.args.cells.now c.args.lists.rows.now c.args.lists.lengths.now c.args.part
ruled c =
    let cs = c.args.cells.now in
    let ls = c.args.lists.rows.now in
    let ks = c.args.lists.lengths.now in
    let k = c.args.part in
    let wf = tables.sound cs c.requires.2 in
    let next : k ≡ suc (k - 1) = omega (arith, c.if-part-eq0.false) in
    let low : k - 1 < rule_count cs = omega (arith, next, c.if-rules-part.false, c.rule_count-rules.ensures) in
    let ok : row_ok cs ls ks (k - 1) ≡ true = sym (ok_rule cs ls ks k (k - 1) next low) ∙ c.requires.3 in
    record { next = next; low = omega (arith, low, wf.rules); short = row-short cs ls ks (k - 1) ok; nodes = row_below cs ls ks (k - 1) ok wf.nodes }

pub row-requires : goal.row-requires
row-requires c = let r = ruled (goal.at.row-requires c).Else-rules-part in (r.low, r.short)

pub break_lines-requires : goal.break_lines-requires
break_lines-requires c =
    let r = ruled (goal.at.break_lines-requires c).Else-rules-part in
    let same = c.row.ensures in
    (c.requires.0, c.requires.1, omega (arith, ap length same, row_few c.args.lists.rows.now c.args.lists.lengths.now (c.args.part - 1), r.short), ap (allb (λ v. ltb v max_nodes)) same ∙ r.nodes, omega (arith, r.low))

pub returns-clause-put : goal.returns-clause-put
returns-clause-put c =
    let a = c.args in
    let k = a.part in
    let next : k ≡ suc (k - 1) = omega (arith, c.if-part-eq0.false) in
    put_as (ap (λ (t : List ℕ). break_lines (k - 1) (map (node_name_at a.names.now) t)) c.row.ensures ∙ part_rule a.names.now a.cells.now a.lists.rows.now a.lists.lengths.now k (k - 1) next (omega (arith, next, c.if-rules-part.false, c.rule_count-rules.ensures))) c.break_lines.ensures.put
