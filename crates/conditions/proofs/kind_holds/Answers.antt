-- `kind_holds` meets its contract, by the code of the kind that is asked for.
use native.Mathlib.Omega.{arith}
use Rattle.conditions.proofs.Terms.{kind_iri, kind_blank_lem, kind_literal_lem}
use Rattle.conditions.proofs.kind_holds.Goals as goal

pub returns-in-0 : goal.returns-in-0
returns-in-0 c = λ vs. let a = c.args in kind_iri a.cells.now vs a.v.0 c.requires c.node_kind-kind.result c.node_kind-kind.ensures c.in-0.is

pub returns-in-1 : goal.returns-in-1
returns-in-1 c = λ vs. let a = c.args in kind_blank_lem a.cells.now vs a.v.0 c.requires c.node_kind-kind.result c.node_kind-kind.ensures c.in-1.is

pub returns-in-2-to-65535 : goal.returns-in-2-to-65535
returns-in-2-to-65535 c = λ vs. let a = c.args in kind_literal_lem a.cells.now vs a.v.0 c.requires c.node_kind-kind.result c.node_kind-kind.ensures (omega (arith, c.in-2-to-65535.in-2-to-65535-own.rest))
