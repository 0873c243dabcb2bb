-- The facts that a value of `Facts` has.
use Rattle.std.specs.Prelude.{List}
use Rattle.model.specs.Graph.{Triple}
use Rattle.paths.specs.Facts.{triples_of}
use Rattle.paths.specs.declared.facts.Facts.{Facts}

abbrev pub triples_over : Facts → List Triple
triples_over f = triples_of f.s.now f.p.now f.o.now f.len
