use mathlib.Core.Path.{◌≡◌}
use Rattle.nodeset.specs.Words.{has}
use Rattle.model.specs.Shapes.{conforms}
use Rattle.tables.specs.Layout.{node_count}
use Rattle.tables.specs.Decode.{graph_at, shape_at}
use Rattle.conditions.proofs.Members.{Gathered}
use Rattle.verdict.proofs.set_among.Given as goal

abbrev pub invariant-loop-x : goal.invariant-loop-x
invariant-loop-x l =
    let t = l.memo.tables in
    (l.x-iterator.n ≡ node_count t.cells.now) × (l.x-iterator.words.now ≡ l.fn.nodes.words) × Gathered (has l.fn.nodes.words) (conforms (graph_at t.cells.now t.values.now) (shape_at t.cells.now t.values.now l.e)) (node_count t.cells.now) l.words l.x-iterator.next
