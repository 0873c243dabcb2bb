-- The link that leads from a class to one that it is under, and the classes under a class.
use Rattle.std.specs.Prelude as rust
use Rattle.std.specs.Prelude.{ℕ, List, Bool, eqb, Some, None}
use Rattle.std.proofs.Math.Option.{Option}
use Rattle.model.specs.declared.LinkNo.{LinkNo}
use Rattle.model.specs.Paths.{ends, predicate, zero_or_more}
use Rattle.tables.specs.Layout.{node_count}
use Rattle.tables.specs.Decode.{triples_at}

-- its number, or none
abbrev pub sub_of : rust.Option LinkNo → Option ℕ
sub_of (Some l) = Option.some l.0
sub_of None = Option.none

-- d is class c or a class under it: the link leads from d to c, any number of times
unfoldable pub sub_classes : List ℕ → Option ℕ → ℕ → ℕ → Bool
sub_classes cs Option.none c d = eqb c d
sub_classes cs (Option.some l) c d = ends (node_count cs) (triples_at cs) (zero_or_more (predicate l)) d c
