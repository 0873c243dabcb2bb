-- `answer_on` meets its contract: 9, then 10, then 11, then the verdict.
use Prim.Native.Nat.{ℕ, ◌<◌}
use mathlib.Core.Bool.{Bool, true, ◌&&◌}
use mathlib.Core.Path.{◌≡◌, refl, sym, ◌∙◌, subst}
use native.Mathlib.Omega.{arith}
use lib.Dec.{ltb}
use borrow.Author.Tests.{not-true, not-false}
use Rattle.model.specs.Answers.{value}
use Rattle.model.specs.Shapes.{conforms}
use Rattle.tables.specs.Layout.{node_count, shape_count, form_count}
use Rattle.tables.specs.Decode.{graph_at, shape_at}
use Rattle.tables.specs.WellFormed.{well_formed}
use Rattle.tables.proofs.WellFormed.{sound}
use Rattle.verdict.specs.Answers.{question, has_both, answer_on}
use Rattle.verdict.proofs.Answers.{on_malformed, places_there, on_absent, on-no-console, on_given}
use Rattle.verdict.proofs.answer_on.Goals as goal
use Rattle.verdict.proofs.answer_on.Goals.{After-is_console, After-root}

pub returns-then-not-ok : goal.returns-then-not-ok
returns-then-not-ok c = let a = c.args in on_malformed a.cells.now a.values.now (question a.console a.node a.shape) (sym c.well_formed-ok.ensures ∙ not-true c.well_formed-ok.result c.if-not-ok.true-raw)

pub returns-then-not-there : goal.returns-then-not-there
returns-then-not-there c =
    let a = c.args in
    on_absent a.cells.now a.values.now (question a.console a.node a.shape) (sym c.well_formed-ok.ensures ∙ not-false c.well_formed-ok.result c.if-not-ok.false-raw) (λ i. ltb a.node (sym c.node_count.ensures i) && ltb a.shape (sym c.shape_count.ensures i)) (not-true _ c.if-not-there.true-raw)

-- the tables are well formed, and have the node and the shape
well : (c : After-is_console) → well_formed c.args.cells.now ≡ true
well c = sym c.well_formed-ok.ensures ∙ not-false c.well_formed-ok.result c.if-not-ok.false-raw

both : (c : After-is_console) → let a = c.args in has_both a.cells.now (question a.console a.node a.shape) ≡ true
both c =
    let a = c.args in
    (λ i. ltb a.node (sym c.node_count.ensures i) && ltb a.shape (sym c.shape_count.ensures i)) ∙ not-false _ c.if-not-there.false-raw

pub returns-then-not-is_console : goal.returns-then-not-is_console
returns-then-not-is_console c =
    let a = c.args in
    on-no-console a.cells.now a.values.now (question a.console a.node a.shape) (well (goal.at.returns-then-not-is_console c).After-is_console) (both (goal.at.returns-then-not-is_console c).After-is_console) refl (sym c.is_console.ensures ∙ not-true _ c.if-not-is_console.true-raw)

there : (c : After-root) → let a = c.args in (a.node < node_count a.cells.now) × (a.shape < shape_count a.cells.now)
there c =
    let a = c.args in
    places_there a.cells.now a.values.now (question a.console a.node a.shape) (well (goal.at.After-root c).After-is_console) (both (goal.at.After-root c).After-is_console) refl

pub overflow_cast-node : goal.overflow_cast-node
overflow_cast-node c = omega (arith, (there (goal.at.overflow_cast-node c).After-root).0, (sound c.args.cells.now (well (goal.at.overflow_cast-node c).After-is_console)).nodes)

pub conforming-requires : goal.conforming-requires
conforming-requires c =
    let a = c.args in
    (c.requires, well (goal.at.conforming-requires c).After-is_console, subst (λ (e : ℕ). e < form_count a.cells.now) (sym c.root.ensures) ((sound a.cells.now (well (goal.at.conforming-requires c).After-is_console)).root a.shape (there (goal.at.conforming-requires c).After-root).1), (there (goal.at.conforming-requires c).After-root).0)

-- nothing is refused
given : (c : After-root) {b : Bool} → let a = c.args in conforms (graph_at a.cells.now a.values.now) (shape_at a.cells.now a.values.now c.root.result) a.node ≡ b → value b ≡ answer_on a.cells.now a.values.now (question a.console a.node a.shape)
given c =
    let a = c.args in
    on_given a.cells.now a.values.now (question a.console a.node a.shape) (well (goal.at.After-root c).After-is_console) (both (goal.at.After-root c).After-is_console) refl (sym c.is_console.ensures ∙ not-false _ c.if-not-is_console.false-raw) c.root.result c.root.ensures

pub returns-then-not-conforming : goal.returns-then-not-conforming
returns-then-not-conforming c = given (goal.at.returns-then-not-conforming c).After-root (sym c.conforming.ensures ∙ not-true _ c.if-not-conforming.true-raw)

pub returns : goal.returns
returns c = given (goal.at.returns c).After-root (sym c.conforming.ensures ∙ not-false _ c.if-not-conforming.false-raw)
