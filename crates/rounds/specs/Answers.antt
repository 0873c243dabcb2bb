-- What is answered to the question how many rounds a search takes: their number, or a refusal (document 02, Job 7).
use Rattle.std.specs.Prelude.{ℕ, suc, ◌<◌, List, Bool, true, false, ◌&&◌, ◌≡◌, ltb, ℤ, take}
use Rattle.base.specs.Bounded.{size}
use Rattle.model.specs.Answers.{Answer, checked}
use Rattle.model.specs.Limits.{max_nodes}
use Rattle.model.specs.Paths.{ends, zero_or_more}
use Rattle.model.specs.Repeats.{up_to}
use Rattle.model.specs.Rounds.{rounds, Settles}
use Rattle.tables.specs.Layout.{cell_count, node_count, path_count}
use Rattle.tables.specs.Decode.{triples_at, path_at}
use Rattle.tables.specs.WellFormed.{well_formed}
use Rattle.tables.specs.Sizes.{long_enough}

-- cells of tables in their limits: they have the node and the path entry
abbrev pub has_both : List ℕ → (node path : ℕ) → Bool
has_both cs node path = ltb node (node_count cs) && ltb path (path_count cs)

-- the rounds of the path entry's `star` from the node
abbrev pub rounds_at : List ℕ → (node path : ℕ) → ℕ
rounds_at cs node path = rounds (ends (node_count cs) (triples_at cs) (path_at cs path)) (node_count cs) node

-- on lent tables, which count up to their limits: 8, then 9, then 10, else the rounds
unfoldable pub rounds_answer : List ℕ → List ℕ → List ℤ → (node path : ℕ) → Answer ℕ
rounds_answer ns cs vs node path = checked (long_enough ns cs vs) (well_formed (take cell_count cs)) (has_both (take cell_count cs) node path) (rounds_at (take cell_count cs) node path)

-- document 02, Job 7, in words of logic, of a number k: over what the tables say, it is the least number of repetitions within which the
-- path leads to what it leads to within one more; it is below the number of nodes that its `star` leads to, and below 1,024; within so
-- many repetitions the path leads to all of them, and within one fewer not. The number that is given is so (`told`, proofs/Answers)
module _ (cs : List ℕ) (node path : ℕ) where
  abbrev n : ℕ
  n = node_count cs

  abbrev step : ℕ → ℕ → Bool
  step = ends n (triples_at cs) (path_at cs path)

  abbrev any : ℕ → ℕ → Bool
  any = ends n (triples_at cs) (zero_or_more (path_at cs path))

  pub record Told (k : ℕ) : Type 0 where
    pub least : Settles step n node k
    pub fewer : k < size (any node) n
    pub low : k < max_nodes
    pub all : (w : ℕ) → w < n → up_to step n k node w ≡ any node w
    pub needed : (j : ℕ) → k ≡ suc j → (w : ℕ) × (w < n) × (any node w ≡ true) × (up_to step n j node w ≡ false)
