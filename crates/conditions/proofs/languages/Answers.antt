-- `languages` meets its contract. The invariant: the set has the nodes below x that have a language.
use mathlib.Core.Path.{◌≡◌, ◌∙◌}
use native.Mathlib.Omega.{arith}
use lib.Dec.{eqb}
use Rattle.nodeset.specs.Words.{nodes_of}
use Rattle.tables.specs.Codes as codes
use Rattle.tables.specs.Layout.{node_count, kind_at}
use Rattle.conditions.proofs.Members.{nodes-none, nodes-more, nodes_done}
use Rattle.conditions.proofs.languages.Goals as goal

pub loop-x-init : goal.loop-x-init
loop-x-init c = nodes-none (λ m. eqb (kind_at c.args.cells.now m) codes.node_words)

pub loop-x-preserved : goal.loop-x-preserved
loop-x-preserved c = let l = c.loop-x in c.insert_if.ensures ∙ nodes-more (λ m. eqb (kind_at c.args.cells.now m) codes.node_words) l.x c.has_language.result l.invariant c.has_language.ensures

pub returns : goal.returns
unfolding nodes_of
returns c =
    let cs = c.args.cells.now in
    let l = c.loop-x in
    let done : l.x ≡ node_count cs = omega (arith, c.loop-x-test, l.auto, c.node_count-x-end.ensures) in
    nodes_done (λ m. eqb (kind_at cs m) codes.node_words) l.x (node_count cs) done l.invariant
