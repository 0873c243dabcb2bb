-- `all_ends` meets its contract: from each node alone, the rows become the ends.
use Prim.Native.Nat.{ℕ}
use mathlib.Core.Bool.{Bool, not}
use mathlib.Core.List.{List, []}
use mathlib.Core.Path.{ap, ◌∙◌}
use lib.ListN.{length}
use native.Mathlib.Omega.{arith}
use Rattle.closure.specs.Rows.{rows_of}
use Rattle.model.specs.Limits.{max_nodes}
use Rattle.model.specs.Paths.{ends_of}
use Rattle.paths.specs.Over.{triples_over}
use Rattle.paths.specs.Ends.{end_in}
use Rattle.paths.specs.Images.{converse_if, with_images, start_of}
use Rattle.paths.specs.declared.Sets.TheVariants.{Own}
use Rattle.paths.proofs.Nodes.{all-nodes}
use Rattle.paths.proofs.Repeats.{own_rows, either_nodes}
use Rattle.rows.proofs.Rows.{turned}
use Rattle.rows.proofs.all_ends.Goals as goal

pub clear-requires : goal.clear-requires
clear-requires c = (c.args.facts.made.nodes, c.requires.1, c.requires.2)

pub follow-requires : goal.follow-requires
follow-requires c = let pre = c.requires in (pre.0, (omega arith, omega (arith, pre.1, c.clear.auto.rows)))

pub returns : goal.returns
returns c = let a = c.args in let f = a.facts in let r = ends_of f.n (triples_over f) (end_in f.cells.now a.end) in
    c.follow.ensures ∙ ap (λ (m : List ℕ). with_images max_nodes f.n (converse_if (not a.back) r) (start_of Own []) m) c.clear.ensures
    ∙ own_rows f.n (converse_if (not a.back) r) [] (length a.rows.now) (either_nodes (not a.back) r f.n (all-nodes f.s.now f.p.now f.o.now f.index.now f.len f.n f.made (end_in f.cells.now a.end)))
    ∙ ap (λ (q : ℕ → ℕ → Bool). rows_of f.n q (length a.rows.now)) (turned a.back r)
