-- The list of a rule, by what the tables say.
use Rattle.std.specs.Prelude.{ℕ, List, ℤ}
use Rattle.std.proofs.Math.Option.{Option}
use Rattle.model.specs.Rules.{violations}
use Rattle.tables.specs.Decode.{graph_at, schema_at, rule_at}

-- the nodes that violate rule r, lowest number first; sub: the link `under`, where the tables have it
unfoldable pub list_at : Option ℕ → List ℕ → List ℤ → ℕ → List ℕ
list_at sub cs vs r = violations sub (graph_at cs vs) (schema_at cs vs) (rule_at cs r)
