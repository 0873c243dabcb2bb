-- How many rounds a search along a repeated relation takes until it finds nothing more (document 02, Job 7).
use Rattle.std.specs.Prelude.{ℕ, suc, ◌<◌, Bool, true, false, ◌≡◌, get_or}
use Rattle.base.specs.Least.{least}
use Rattle.model.specs.Graph.{Graph}
use Rattle.model.specs.Repeats.{up_to}
use Rattle.model.specs.Paths.{Path, predicate, ends}
use Rattle.model.specs.Shapes.{same_members}
use Rattle.model.specs.Books.{Book, graph_of}
use Rattle.model.specs.PathNumbers.{book_paths}

module _ (r : ℕ → ℕ → Bool) (n v : ℕ) where
  -- v leads to the same nodes by k repetitions or fewer as by k + 1 or fewer
  unfoldable pub settled : ℕ → Bool
  settled k = same_members n (up_to r n k v) (up_to r n (suc k) v)

  -- the rounds: the least such number. A node has one below n (`rounds-low`, proofs/Rounds)
  unfoldable pub rounds : ℕ
  rounds = least settled n

  -- the same in words of logic, with no way to find it: k + 1 repetitions lead nowhere that k or fewer do not, and each smaller
  -- number lacks a node that one more reaches
  pub record Settles (k : ℕ) : Type 0 where
    pub still : (w : ℕ) → w < n → up_to r n (suc k) v w ≡ up_to r n k v w
    pub grows : (j : ℕ) → j < k → (w : ℕ) × (w < n) × (up_to r n (suc j) v w ≡ true) × (up_to r n j v w ≡ false)

-- the rounds of a path's `star` from node v
abbrev pub rounds_of : Graph → Path → ℕ → ℕ
rounds_of g e v = rounds (ends g.nodes g.triples e) g.nodes v

-- the rounds of the `star` of a book's path e from its node v
unfoldable pub rounds_in : Book → ℕ → ℕ → ℕ
rounds_in b v e = rounds_of (graph_of b) (get_or (book_paths b) e (predicate 0)) v
