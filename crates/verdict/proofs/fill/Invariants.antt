use mathlib.Core.Path.{◌≡◌}
use lib.ListN.{length}
use Rattle.tables.specs.Layout.{node_count}
use Rattle.verdict.proofs.Settling.{Filling}
use Rattle.verdict.proofs.fill.Given as goal

abbrev pub invariant-loop-x : goal.invariant-loop-x
invariant-loop-x l =
    let m = l.initial.memo in
    (l.x-iterator.n ≡ node_count m.tables.cells.now) × (l.x-iterator.words.now ≡ l.fn.nodes.words) × (l.memo.tables ≡ m.tables) × Filling m.tables.cells.now m.tables.values.now m.words l.memo.words l.e l.fn.nodes.words (node_count m.tables.cells.now) l.x-iterator.next
