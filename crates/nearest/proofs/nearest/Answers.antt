-- `nearest` meets its contract: 8, then 9, then 10, then the nearest.
use Prim.Native.Nat.{ℕ, ◌<◌}
use mathlib.Core.Bool.{true, ◌&&◌}
use mathlib.Core.Path.{◌≡◌, sym, ap, ◌∙◌, subst}
use native.Mathlib.Nat.{le_of_eq}
use native.Mathlib.Omega.{arith}
use lib.Dec.{ltb}
use lib.ListN.{take}
use lib.Seq.{length-take-le}
use borrow.Author.Tests.{not-true, not-false}
use Rattle.model.proofs.Answers.{is-short, is_malformed, is_absent, is_done}
use Rattle.tables.specs.Layout.{cell_count, value_count, node_count, path_count, shape_count, form_count}
use Rattle.tables.specs.Sizes.{long_enough}
use Rattle.tables.specs.WellFormed.{well_formed}
use Rattle.tables.proofs.Sizes.{as_long}
use Rattle.tables.proofs.WellFormed.{sound}
use Rattle.nearest.specs.Answers.{has_all, nearest_to}
use Rattle.nearest.proofs.Answers.{nearest-checked, all_there}
use Rattle.nearest.proofs.nearest.Goals as goal
use Rattle.nearest.proofs.nearest.Goals.{Else-not-enough, Else-not-there, Else-not-well_formed}

pub returns-then-not-enough : goal.returns-then-not-enough
returns-then-not-enough c = let a = c.args in is-short (nearest-checked a.names.now a.cells.now a.values.now a.node a.path a.shape) (sym c.enough.ensures ∙ not-true _ c.if-not-enough.true-raw)

-- what the tests have shown, each for what comes after it
long : (c : Else-not-enough) → let a = c.args in long_enough a.names.now a.cells.now a.values.now ≡ true
long c = sym c.enough.ensures ∙ not-false _ c.if-not-enough.false-raw

pub slice_bounds-cs-end : goal.slice_bounds-cs-end
slice_bounds-cs-end c = let a = c.args in sym (length-take-le cell_count a.cells.now (as_long a.names.now a.cells.now a.values.now (long (goal.at.slice_bounds-cs-end c).Else-not-enough)).cells)

pub returns-then-not-well_formed : goal.returns-then-not-well_formed
returns-then-not-well_formed c = let a = c.args in is_malformed (nearest-checked a.names.now a.cells.now a.values.now a.node a.path a.shape) (long (goal.at.returns-then-not-well_formed c).Else-not-enough) (sym c.well_formed-2.ensures ∙ not-true _ c.if-not-well_formed.true-raw)

well : (c : Else-not-well_formed) → well_formed (take cell_count c.args.cells.now) ≡ true
well c = sym c.well_formed-2.ensures ∙ not-false _ c.if-not-well_formed.false-raw

pub returns-then-not-there : goal.returns-then-not-there
returns-then-not-there c =
    let a = c.args in
    is_absent (nearest-checked a.names.now a.cells.now a.values.now a.node a.path a.shape) (long (goal.at.returns-then-not-there c).Else-not-enough) (well (goal.at.returns-then-not-there c).Else-not-well_formed)
    ((λ i. (ltb a.node (sym c.node_count.ensures i) && ltb a.path (sym c.path_count.ensures i)) && ltb a.shape (sym c.shape_count.ensures i)) ∙ not-true _ c.if-not-there.true-raw)

all : (c : Else-not-there) → let a = c.args in has_all (take cell_count a.cells.now) a.node a.path a.shape ≡ true
all c =
    let a = c.args in
    (λ i. (ltb a.node (sym c.node_count.ensures i) && ltb a.path (sym c.path_count.ensures i)) && ltb a.shape (sym c.shape_count.ensures i)) ∙ not-false _ c.if-not-there.false-raw

there : (c : Else-not-there) → let a = c.args in let cs = take cell_count a.cells.now in (a.node < node_count cs) × (a.path < path_count cs) × (a.shape < shape_count cs)
there c = let a = c.args in all_there (take cell_count a.cells.now) a.node a.path a.shape (all c)

pub slice_bounds-spare_from-end : goal.slice_bounds-spare_from-end
slice_bounds-spare_from-end c = let a = c.args in sym (length-take-le value_count a.values.now (as_long a.names.now a.cells.now a.values.now (long (goal.at.slice_bounds-spare_from-end c).Else-not-enough)).values)

pub overflow_cast-node : goal.overflow_cast-node
overflow_cast-node c = let cs = take cell_count c.args.cells.now in omega (arith, (there (goal.at.overflow_cast-node c).Else-not-there).0, (sound cs (well (goal.at.overflow_cast-node c).Else-not-well_formed)).nodes)

pub spare_from-requires : goal.spare_from-requires
spare_from-requires c =
    let a = c.args in
    let cs = take cell_count a.cells.now in
    let ok = well (goal.at.spare_from-requires c).Else-not-well_formed in
    let here = there (goal.at.spare_from-requires c).Else-not-there in
    (le_of_eq (sym (length-take-le cell_count a.cells.now (as_long a.names.now a.cells.now a.values.now (long (goal.at.spare_from-requires c).Else-not-enough)).cells)), ok, here.0, here.1, subst (λ (e : ℕ). e < form_count cs) (sym c.root.ensures) ((sound cs ok).root a.shape here.2))

pub returns : goal.returns
returns c =
    let a = c.args in
    let given = c.spare_from.ensures ∙ ap (λ (e : ℕ). nearest_to (take cell_count a.cells.now) (take value_count a.values.now) a.node a.path e) c.root.ensures in
    is_done (nearest-checked a.names.now a.cells.now a.values.now a.node a.path a.shape) (long (goal.at.returns c).Else-not-enough) (well (goal.at.returns c).Else-not-well_formed) (all (goal.at.returns c).Else-not-there) given
