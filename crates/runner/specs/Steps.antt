-- One step: its words from the sets in the work space, and the work space with them.
use Rattle.std.specs.Prelude.{ℕ, ◌+◌, ◌*◌, List, ◌++◌, ℤ, take, drop}
use Rattle.std.proofs.Math.Option.{Option}
use Rattle.nodeset.specs.Words.{has, nodes_of}
use Rattle.tables.specs.Layout.{node_count}
use Rattle.plan.specs.Layout.{step_at}
use Rattle.plan.specs.Sets.{in_step}

-- step k's set, where the set of step j stands in the work space from word 16 * j on
unfoldable pub step_from : Option ℕ → List ℕ → List ℤ → List ℕ → List ℕ → ℕ → List ℕ
step_from sub cs vs ps ws k = nodes_of (in_step sub cs vs (step_at ps k) (λ j. has (drop (16 * j) ws))) (node_count cs)

-- the sixteen words of step k replaced
unfoldable pub put : List ℕ → ℕ → List ℕ → List ℕ
put ws k s = take (16 * k) ws ++ (s ++ drop (16 * k + 16) ws)
