-- `verdict` meets its contract: 8 comes first; past their limits the tables are not looked at.
use mathlib.Core.Bool.{Bool, true}
use mathlib.Core.Path.{◌≡◌, sym, ap, ◌∙◌}
use native.Mathlib.Omega.{arith}
use lib.ListN.{length}
use lib.Seq.{length-take-le}
use borrow.Author.Tests.{not-true, not-false}
use Rattle.tables.specs.Sizes.{long_enough}
use Rattle.tables.proofs.Sizes.{as_long}
use Rattle.consoles.specs.Tallies.{console_count}
use Rattle.model.specs.Answers.{Answer}
use Rattle.verdict.specs.Answers.{question, replied}
use Rattle.verdict.proofs.Answers.{verdict_short, verdict_long}
use Rattle.tables.specs.Layout.{cell_count, value_count}
use borrow.Author.Rules.{rules}
use Rattle.verdict.proofs.verdict.Goals as goal

pub returns-then-not-enough : goal.returns-then-not-enough
returns-then-not-enough c =
    let a = c.args in
    c.with_tallies.ensures
    ∙ ap (λ (x : Answer Bool). replied x a.console a.tallies.counts) (verdict_short a.names.now a.cells.now a.values.now a.tallies.counts (question a.console a.node a.shape) (sym c.enough.ensures ∙ not-true c.enough.result c.if-not-enough.true-raw))

pub slice_bounds-answer_on-end : goal.slice_bounds-answer_on-end
slice_bounds-answer_on-end c =
    let a = c.args in
    let e : long_enough a.names.now a.cells.now a.values.now ≡ true = sym c.enough.ensures ∙ not-false c.enough.result c.if-not-enough.false-raw in
    sym (length-take-le cell_count a.cells.now (as_long a.names.now a.cells.now a.values.now e).cells)

pub slice_bounds-answer_on-end-2 : goal.slice_bounds-answer_on-end-2
slice_bounds-answer_on-end-2 c =
    let a = c.args in
    let e : long_enough a.names.now a.cells.now a.values.now ≡ true = sym c.enough.ensures ∙ not-false c.enough.result c.if-not-enough.false-raw in
    sym (length-take-le value_count a.values.now (as_long a.names.now a.cells.now a.values.now e).values)

pub answer_on-requires : goal.answer_on-requires
answer_on-requires c =
    let a = c.args in
    let e : long_enough a.names.now a.cells.now a.values.now ≡ true = sym c.enough.ensures ∙ not-false c.enough.result c.if-not-enough.false-raw in
    omega (arith, length-take-le cell_count a.cells.now (as_long a.names.now a.cells.now a.values.now e).cells)

pub returns : goal.returns
returns c =
    let a = c.args in
    let e : long_enough a.names.now a.cells.now a.values.now ≡ true = sym c.enough.ensures ∙ not-false c.enough.result c.if-not-enough.false-raw in
    let l : length a.tallies.counts ≡ console_count = search rules in
    c.with_tallies-2.ensures
    ∙ ap (λ (x : Answer Bool). replied x a.console a.tallies.counts) (c.answer_on.ensures ∙ verdict_long a.names.now a.cells.now a.values.now a.tallies.counts (question a.console a.node a.shape) e (omega (arith, l)))
