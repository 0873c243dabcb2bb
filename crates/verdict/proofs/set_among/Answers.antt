-- `set_among` meets its contract. The invariant: the set has the nodes before the next that conform.
use Prim.Native.Nat.{ℕ, ◌+◌, ◌<◌}
use mathlib.Core.Bool.{Bool, ◌&&◌}
use mathlib.Core.List.{List}
use mathlib.Core.Path.{refl, sym, ap, ap₂, ◌∙◌, subst}
use native.Mathlib.Omega.{arith}
use lib.Dec.{ltb}
use borrow.Author.Tests.{lt-ltb}
use Rattle.base.specs.Least.{next_from}
use Rattle.nodeset.specs.Words.{has}
use Rattle.nodeset.specs.declared.Iter.{Iter}
use Rattle.nodeset.proofs.Sets.{has_of}
use Rattle.model.specs.Shapes.{conforms}
use Rattle.tables.specs.Layout.{node_count}
use Rattle.tables.specs.Decode.{graph_at, shape_at}
use Rattle.conditions.proofs.Members.{Gathered, gathered_none, gathered-more, gathered-length, gathered-all}
use Rattle.entries.proofs.Codes.{nodes_le}
use Rattle.verdict.proofs.set_among.Goals as goal
use Rattle.verdict.proofs.set_among.Goals.{In-Some}

pub loop-x-init : goal.loop-x-init
loop-x-init c =
    let t = c.args.memo.now.tables in
    let made = c.below-x-items.ensures in
    let same = c.into_iter-x-iterator.ensures.into_iter_gives in (
      ap (λ (s : Iter). s.n) same ∙ made.bound ∙ c.node_count-n.ensures,
      ap (λ (s : Iter). s.words.now) same ∙ made.set,
      gathered_none (has c.args.nodes.words) (conforms (graph_at t.cells.now t.values.now) (shape_at t.cells.now t.values.now c.args.e)) (node_count t.cells.now) (ap (λ (s : Iter). s.next) same ∙ made.first ∙ ap (next_from (has c.args.nodes.words) 0) c.node_count-n.ensures),
    )

-- what has been gathered where x comes next
gathered : (c : In-Some) → let t = c.args.memo.now.tables in Gathered (has c.args.nodes.words) (conforms (graph_at t.cells.now t.values.now) (shape_at t.cells.now t.values.now c.args.e)) (node_count t.cells.now) c.loop-x.words c.in-Some.x
gathered c =
    let t = c.args.memo.now.tables in
    subst (λ (u : ℕ). Gathered (has c.args.nodes.words) (conforms (graph_at t.cells.now t.values.now) (shape_at t.cells.now t.values.now c.args.e)) (node_count t.cells.now) c.loop-x.words u) (sym c.in-Some.ensures.steps.0) c.loop-x.invariant.2

low : (c : In-Some) → c.in-Some.x < node_count c.args.memo.now.tables.cells.now
low c = omega (arith, c.in-Some.ensures.steps.1, c.loop-x.invariant.0)

pub overflow_cast-v : goal.overflow_cast-v
overflow_cast-v c = let t = c.args.memo.now.tables in omega (arith, c.in-Some.ensures.steps.1, c.loop-x.invariant.0, nodes_le t.cells.now t.made)

pub entry_holds-requires : goal.entry_holds-requires
entry_holds-requires c =
    let i = (goal.at.entry_holds-requires c).In-Some in
    (c.requires.0, low i, c.requires.1 c.in-Some.x (low i) ((gathered i).hit (low i)))

pub slice_bounds-insert_if-end : goal.slice_bounds-insert_if-end
slice_bounds-insert_if-end c =
    let t = c.args.memo.now.tables in
    gathered-length (has c.args.nodes.words) (conforms (graph_at t.cells.now t.values.now) (shape_at t.cells.now t.values.now c.args.e)) (node_count t.cells.now) c.loop-x.invariant.2

pub loop-x-preserved : goal.loop-x-preserved
loop-x-preserved c =
    let i = (goal.at.loop-x-preserved c).In-Some in
    let t = c.args.memo.now.tables in
    let (same, ends, all) = c.loop-x.invariant in
    let step = c.in-Some.ensures.steps in
    let next = step.2 ∙ ap₂ (λ (ws : List ℕ) (m : ℕ). next_from (has ws) (c.in-Some.x + 1) m) ends same in
    (step.4 ∙ same, step.3 ∙ ends, gathered-more (has c.args.nodes.words) (conforms (graph_at t.cells.now t.values.now) (shape_at t.cells.now t.values.now c.args.e)) (node_count t.cells.now) (gathered i) (low i) c.entry_holds.ensures next c.insert_if.ensures)

pub returns : goal.returns
returns c v l h =
    let t = c.args.memo.now.tables in
    let n = node_count t.cells.now in
    let p : ℕ → Bool = conforms (graph_at t.cells.now t.values.now) (shape_at t.cells.now t.values.now c.args.e) in
    has_of (λ m. ltb m n && (has c.args.nodes.words m && p m)) 16 (gathered-all (has c.args.nodes.words) p n c.loop-x.invariant.2 (omega (arith, c.in-None.ensures.steps, c.loop-x.invariant.0))) v (omega (arith, nodes_le t.cells.now t.made))
    ∙ ap₂ (λ (s t : Bool). s && (t && p v)) (lt-ltb v n l) h
