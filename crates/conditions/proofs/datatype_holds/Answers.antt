-- `datatype_holds` meets its contract, by the code of the kind of v.
use Rattle.conditions.proofs.Terms.{datatype_test}
use Rattle.conditions.proofs.datatype_holds.Goals as goal

pub returns : goal.returns
returns c = λ vs. let a = c.args in datatype_test a.cells.now vs a.v.0 c.requires a.t c.node_kind-kind.result c.node_type.result c.node_kind-kind.ensures c.node_type.ensures
