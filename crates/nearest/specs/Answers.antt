-- What is answered to the question for the nearest spare: how far it is, and which; that there is none; or a refusal (document 02, Job 11).
use Rattle.std.specs.Prelude.{ℕ, Option, Some, None, Result, ◌<◌, ◌≤◌, List, Bool, ◌&&◌, ◌≡◌, ltb, ℤ, take}
use Rattle.model.specs.declared.NodeNo.{NodeNo}
use Rattle.model.specs.declared.Refusal.{Refusal}
use Rattle.model.specs.Answers.{Answer, checked, map_value, answer_of}
use Rattle.model.specs.Limits.{max_nodes}
use Rattle.model.specs.Paths.{ends}
use Rattle.model.specs.Shapes.{conforms}
use Rattle.model.specs.Rounds.{rounds}
use Rattle.model.specs.Nearest.{Nearest, at, no_spare, nearest, Says}
use Rattle.tables.specs.Layout.{cell_count, value_count, node_count, shape_count, root_at}
use Rattle.tables.specs.Decode.{triples_at, path_at, graph_at, shape_at}
use Rattle.tables.specs.WellFormed.{well_formed}
use Rattle.tables.specs.Sizes.{long_enough}
use Rattle.rounds.specs.Answers.{has_both}

-- each case of what is found: the repetitions and the node, or that there is no spare
abbrev pub spare_of : Option (ℕ × NodeNo) → Nearest
spare_of (Some found) = at found.0 found.1.0
spare_of None = no_spare

-- each case of the answer: what is found, or the refusal
abbrev pub spare_answer : Result (Option (ℕ × NodeNo)) Refusal → Answer Nearest
spare_answer x = map_value spare_of (answer_of x)

-- cells of tables in their limits: they have the node, the path entry and the shape
abbrev pub has_all : List ℕ → (node path shape : ℕ) → Bool
has_all cs node path shape = has_both cs node path && ltb shape (shape_count cs)

-- of the nodes that conform to a form entry, the nearest to the node along the path entry
abbrev pub nearest_to : List ℕ → List ℤ → (node path entry : ℕ) → Nearest
nearest_to cs vs node path entry = nearest (ends (node_count cs) (triples_at cs) (path_at cs path)) (conforms (graph_at cs vs) (shape_at cs vs entry)) (node_count cs) node

-- the same of a shape, by its root entry
abbrev pub nearest_at : List ℕ → List ℤ → (node path shape : ℕ) → Nearest
nearest_at cs vs node path shape = nearest_to cs vs node path (root_at cs shape)

-- on lent tables, which count up to their limits: 8, then 9, then 10, else the nearest
unfoldable pub nearest_answer : List ℕ → List ℕ → List ℤ → (node path shape : ℕ) → Answer Nearest
nearest_answer ns cs vs node path shape = checked (long_enough ns cs vs) (well_formed (take cell_count cs)) (has_all (take cell_count cs) node path shape) (nearest_at (take cell_count cs) (take value_count vs) node path shape)

-- document 02, Job 11, in words of logic, of an answer x: over what the tables say, it is what `Says` says of the path and the shape, and no
-- other answer is; the repetitions are no more than the rounds of the path's `star`, and below 1,024. The answer that is given is so
-- (`told`, proofs/Answers)
module _ (cs : List ℕ) (vs : List ℤ) (node path shape : ℕ) where
  abbrev step : ℕ → ℕ → Bool
  step = ends (node_count cs) (triples_at cs) (path_at cs path)

  abbrev meets : ℕ → Bool
  meets = conforms (graph_at cs vs) (shape_at cs vs (root_at cs shape))

  pub record Told (x : Nearest) : Type 0 where
    pub says : Says step meets (node_count cs) node x
    pub only : (y : Nearest) → Says step meets (node_count cs) node y → y ≡ x
    pub few : (hops w : ℕ) → x ≡ at hops w → (hops ≤ rounds step (node_count cs) node) × (hops < max_nodes)
