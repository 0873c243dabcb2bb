-- `Indexed::facts` meets its contract, by the laws of the tables' facts as lent parts.
use mathlib.Core.Path.{refl}
use Rattle.paths.proofs.Parts.{lent_ok, lent-triples}
use Rattle.paths.proofs.indexed.Indexed.facts.Goals as goal

pub invariant_of-result : goal.invariant_of-result
invariant_of-result c =
    let t = c.args.self in
    record { formed = t.made.ok; made = lent_ok t.cells.now t.made.ok t.made.room c.node_count.ensures c.fact_count.ensures t.made.indexed }

pub returns : goal.returns
returns c =
    let t = c.args.self in
    record { of_tables = (refl, c.node_count.ensures, lent-triples t.cells.now t.made.ok c.fact_count.ensures) }
