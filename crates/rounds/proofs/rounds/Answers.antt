-- `rounds` meets its contract: 8, then 9, then 10, then the rounds.
use Prim.Native.Nat.{◌<◌}
use mathlib.Core.Bool.{true, ◌&&◌}
use mathlib.Core.Path.{◌≡◌, sym, ◌∙◌}
use native.Mathlib.Nat.{le_of_eq}
use native.Mathlib.Omega.{arith}
use lib.Dec.{ltb}
use lib.ListN.{take}
use lib.Seq.{length-take-le}
use borrow.Author.Tests.{not-true, not-false}
use Rattle.base.proofs.Bools.{two-below}
use Rattle.model.proofs.Answers.{is-short, is_malformed, is_absent, is_done}
use Rattle.tables.specs.Layout.{cell_count, node_count, path_count}
use Rattle.tables.specs.Sizes.{long_enough}
use Rattle.tables.specs.WellFormed.{well_formed}
use Rattle.tables.proofs.Sizes.{as_long}
use Rattle.tables.proofs.WellFormed.{sound}
use Rattle.rounds.specs.Answers.{has_both}
use Rattle.rounds.proofs.Answers.{rounds-checked}
use Rattle.rounds.proofs.rounds.Goals as goal
use Rattle.rounds.proofs.rounds.Goals.{Else-not-enough, Else-not-node-node_count, Else-not-well_formed}

pub returns-then-not-enough : goal.returns-then-not-enough
returns-then-not-enough c = let a = c.args in is-short (rounds-checked a.names.now a.cells.now a.values.now a.node a.path) (sym c.enough.ensures ∙ not-true _ c.if-not-enough.true-raw)

-- what the tests have shown, each for what comes after it
long : (c : Else-not-enough) → let a = c.args in long_enough a.names.now a.cells.now a.values.now ≡ true
long c = sym c.enough.ensures ∙ not-false _ c.if-not-enough.false-raw

pub slice_bounds-cs-end : goal.slice_bounds-cs-end
slice_bounds-cs-end c = let a = c.args in sym (length-take-le cell_count a.cells.now (as_long a.names.now a.cells.now a.values.now (long (goal.at.slice_bounds-cs-end c).Else-not-enough)).cells)

pub returns-then-not-well_formed : goal.returns-then-not-well_formed
returns-then-not-well_formed c = let a = c.args in is_malformed (rounds-checked a.names.now a.cells.now a.values.now a.node a.path) (long (goal.at.returns-then-not-well_formed c).Else-not-enough) (sym c.well_formed-2.ensures ∙ not-true _ c.if-not-well_formed.true-raw)

well : (c : Else-not-well_formed) → well_formed (take cell_count c.args.cells.now) ≡ true
well c = sym c.well_formed-2.ensures ∙ not-false _ c.if-not-well_formed.false-raw

pub returns-then-not-node-node_count : goal.returns-then-not-node-node_count
returns-then-not-node-node_count c =
    let a = c.args in
    is_absent (rounds-checked a.names.now a.cells.now a.values.now a.node a.path) (long (goal.at.returns-then-not-node-node_count c).Else-not-enough) (well (goal.at.returns-then-not-node-node_count c).Else-not-well_formed)
    ((λ i. ltb a.node (sym c.node_count.ensures i) && ltb a.path (sym c.path_count.ensures i)) ∙ not-true _ c.if-not-node-node_count.true-raw)

both : (c : Else-not-node-node_count) → let a = c.args in has_both (take cell_count a.cells.now) a.node a.path ≡ true
both c = let a = c.args in (λ i. ltb a.node (sym c.node_count.ensures i) && ltb a.path (sym c.path_count.ensures i)) ∙ not-false _ c.if-not-node-node_count.false-raw

there : (c : Else-not-node-node_count) → let a = c.args in let cs = take cell_count a.cells.now in (a.node < node_count cs) × (a.path < path_count cs)
there c = let a = c.args in let cs = take cell_count a.cells.now in two-below a.node (node_count cs) a.path (path_count cs) (both c)

pub overflow_cast-node : goal.overflow_cast-node
overflow_cast-node c = let cs = take cell_count c.args.cells.now in omega (arith, (there (goal.at.overflow_cast-node c).Else-not-node-node_count).0, (sound cs (well (goal.at.overflow_cast-node c).Else-not-well_formed)).nodes)

pub path_rounds-requires : goal.path_rounds-requires
path_rounds-requires c = let a = c.args in (le_of_eq (sym (length-take-le cell_count a.cells.now (as_long a.names.now a.cells.now a.values.now (long (goal.at.path_rounds-requires c).Else-not-enough)).cells)), well (goal.at.path_rounds-requires c).Else-not-well_formed, (there (goal.at.path_rounds-requires c).Else-not-node-node_count).0, (there (goal.at.path_rounds-requires c).Else-not-node-node_count).1)

pub returns : goal.returns
returns c = let a = c.args in is_done (rounds-checked a.names.now a.cells.now a.values.now a.node a.path) (long (goal.at.returns c).Else-not-enough) (well (goal.at.returns c).Else-not-well_formed) (both (goal.at.returns c).Else-not-node-node_count) c.path_rounds.ensures
