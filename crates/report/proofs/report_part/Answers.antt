use Prim.Native.Nat.{ℕ, ◌+◌, ◌≤◌}
use mathlib.Core.Bool.{true}
use mathlib.Core.Path.{◌≡◌, sym, ap, ◌∙◌}
use native.Mathlib.Omega.{arith}
use lib.Dec.{leb}
use lib.ListN.{take}
use lib.Seq.{length-take-le}
use borrow.Author.Rules.{rules}
use borrow.Author.Tests.{le-leb, lt-leb}
use Rattle.base.proofs.Bools.{and_left, and_right}
use Rattle.model.specs.Limits.{max_rules}
use Rattle.model.proofs.Answers.{short, malformed, absent}
use Rattle.tables.specs.Layout.{rule_count, cell_count}
use Rattle.tables.specs.WellFormed.{well_formed}
use Rattle.tables.proofs.Beside.{Beside}
use Rattle.tables.proofs.WellFormed as tables
use Rattle.lists.specs.Rows.{list_count, length_count}
use Rattle.report.specs.Pages.{page_count, report_part_ok}
use Rattle.report.specs.Answers.{part_long, part_formed}
use Rattle.report.proofs.Answers.{part-answers, part_room, refused_on, written_on}
use Rattle.report.proofs.report_part.Goals as goal
use Rattle.report.proofs.report_part.Goals.{Else-not-long_enough, Else-not-part_ok}

-- past the first test; past the second
is-long : (c : Else-not-long_enough) → let a = c.args in part_long a.names.now a.cells.now a.values.now a.lists.now a.lengths.now a.page.now ≡ true
is-long c = sym c.long_enough.ensures ∙ c.if-not-long_enough.false

room : (c : Else-not-long_enough) → let a = c.args in Beside a.names.now a.cells.now a.values.now list_count length_count page_count a.lists.now a.lengths.now a.page.now
room c = let a = c.args in part_room a.names.now a.cells.now a.values.now a.lists.now a.lengths.now a.page.now (is-long c)

is-formed : (c : Else-not-part_ok) → let a = c.args in part_formed (take cell_count a.cells.now) a.lists.now a.lengths.now a.part ≡ true
is-formed c = sym c.part_ok.ensures ∙ c.if-not-part_ok.false

tables-formed : (c : Else-not-part_ok) → well_formed (take cell_count c.args.cells.now) ≡ true
tables-formed c = let cs = take cell_count c.args.cells.now in and_left (well_formed cs) (report_part_ok cs c.args.lists.now c.args.lengths.now c.args.part) (is-formed c)

pub returns-then-not-long_enough : goal.returns-then-not-long_enough
returns-then-not-long_enough c =
    let a = c.args in
    let r = refused_on (short (part-answers a.names.now a.cells.now a.values.now a.lists.now a.lengths.now a.part a.page.now) (sym c.long_enough.ensures ∙ c.if-not-long_enough.true)) in
    record { result_value = r.0; new_page = r.1.0; result_in_bounds = r.1.1 }

pub slice_bounds-cs-end : goal.slice_bounds-cs-end
slice_bounds-cs-end c = sym (length-take-le cell_count c.args.cells.now (room (goal.at.slice_bounds-cs-end c).Else-not-long_enough).tables.cells)

pub invariant_of-held : goal.invariant_of-held
invariant_of-held c = let l = room (goal.at.invariant_of-held c).Else-not-long_enough in record { rows_long = l.first; lengths_long = l.second }

pub returns-then-not-part_ok : goal.returns-then-not-part_ok
returns-then-not-part_ok c =
    let a = c.args in
    let long = is-long (goal.at.returns-then-not-part_ok c).Else-not-long_enough in
    let r = refused_on (malformed (part-answers a.names.now a.cells.now a.values.now a.lists.now a.lengths.now a.part a.page.now) long (sym c.part_ok.ensures ∙ c.if-not-part_ok.true)) in
    record { result_value = r.0; new_page = r.1.0; result_in_bounds = r.1.1 }

pub overflow_add-rule_count : goal.overflow_add-rule_count
overflow_add-rule_count c =
    let few : rule_count (take cell_count c.args.cells.now) ≤ max_rules = (tables.sound (take cell_count c.args.cells.now) (tables-formed (goal.at.overflow_add-rule_count c).Else-not-part_ok)).rules in
    omega (arith, few, c.rule_count.ensures)

pub returns-then-rule_count-part : goal.returns-then-rule_count-part
returns-then-rule_count-part c =
    let a = c.args in
    let at = goal.at.returns-then-rule_count-part c in
    let none = ap (λ (n : ℕ). leb a.part (n + 1)) (sym c.rule_count.ensures) ∙ lt-leb a.part (c.rule_count.result + 1) c.if-rule_count-part.true in
    let r = refused_on (absent (part-answers a.names.now a.cells.now a.values.now a.lists.now a.lengths.now a.part a.page.now) (is-long at.Else-not-long_enough) (is-formed at.Else-not-part_ok) none) in
    record { result_value = r.0; new_page = r.1.0; result_in_bounds = r.1.1 }

pub part-requires : goal.part-requires
part-requires c =
    let at = goal.at.part-requires c in
    let l = room at.Else-not-long_enough in
    let cs = take cell_count c.args.cells.now in
    (l.third, l.tables.names, tables-formed at.Else-not-part_ok, and_right (well_formed cs) (report_part_ok cs c.args.lists.now c.args.lengths.now c.args.part) (is-formed at.Else-not-part_ok))

pub returns : goal.returns
returns c =
    let a = c.args in
    let at = goal.at.returns c in
    let there = ap (λ (n : ℕ). leb a.part (n + 1)) (sym c.rule_count.ensures) ∙ le-leb a.part (c.rule_count.result + 1) c.if-rule_count-part.false in
    let r = written_on (part-answers a.names.now a.cells.now a.values.now a.lists.now a.lengths.now a.part a.page.now) (is-long at.Else-not-long_enough) (is-formed at.Else-not-part_ok) there c.part.ensures.put in
    let page = r.1.0 in
    record { result_value = r.0; new_page = search rules; result_in_bounds = r.1.1 }
