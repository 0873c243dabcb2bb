-- `nodes_where` meets its contract. The invariant: the set has the nodes below x that pass the test.
use mathlib.Core.Path.{◌≡◌, refl, sym, ap, ◌∙◌}
use native.Mathlib.Omega.{arith}
use Rattle.nodeset.specs.Words.{nodes_of}
use Rattle.stepsets.proofs.Nodes.{nodes-none, nodes-more}
use Rattle.stepsets.proofs.nodes_where.Goals as goal

pub loop-x-init : goal.loop-x-init
loop-x-init g c = (omega arith, refl, λ p h. nodes-none p)

pub loop-x-preserved : goal.loop-x-preserved
loop-x-preserved g c =
    let t = c.loop-x in
    (omega arith, t.invariant.1 ∙ sym c.insert_if.auto.words, λ p h. c.insert_if.ensures ∙ nodes-more p t.x c.test.result (t.invariant.2 p h) (h _ c.test.result (omega arith) c.test.ensures))

pub returns : goal.returns
returns g c p h = let t = c.loop-x in t.invariant.2 p h ∙ ap (nodes_of p) (let z : t.x ≡ c.args.n = omega (arith, t.invariant.0, c.loop-x-test.false) in z)
