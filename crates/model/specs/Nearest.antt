-- The nearest node that has a property, along a repeated relation (document 02, Job 11).
use Rattle.std.specs.Prelude.{ℕ, ◌<◌, Bool, true, false, cond, ◌&&◌, ◌≡◌, get_or}
use Rattle.base.specs.Bounded.{some}
use Rattle.base.specs.Least.{least}
use Rattle.model.specs.Graph.{Graph}
use Rattle.model.specs.Repeats.{times, up_to, star}
use Rattle.model.specs.Paths.{Path, predicate, ends}
use Rattle.model.specs.Shapes.{Shape, conforms, def}
use Rattle.model.specs.Books.{Book, graph_of, schema}
use Rattle.model.specs.PathNumbers.{book_paths}

-- what a search finds: how many repetitions away the nearest is, and its number; or that there is none. Document 02: the spare, its hops,
-- 'no spare'
pub data Nearest : Type 0 where
  at : (hops node : ℕ) → Nearest
  no_spare : Nearest

-- from v, of the nodes below n that have p
module _ (r : ℕ → ℕ → Bool) (p : ℕ → Bool) (n v : ℕ) where
  -- v leads to w by k repetitions or fewer, and w has p
  abbrev pub found : ℕ → ℕ → Bool
  found k w = up_to r n k v w && p w

  unfoldable pub spare_within : ℕ → Bool
  spare_within k = some (found k) n

  -- the fewest repetitions that lead to a node that has p. If any number of them does, one below n does (`hops-low`, proofs/Nearest)
  unfoldable pub hops : ℕ
  hops = least spare_within n

  -- the lowest of these nodes. None is nearer, so they are exactly so many repetitions away (`IsNearest`)
  unfoldable pub lowest : ℕ
  lowest = least (found hops) n

  -- some number of repetitions leads to a node that has p
  abbrev pub any_spare : Bool
  any_spare = some (λ w. star r n v w && p w) n

  unfoldable pub nearest : Nearest
  nearest = cond any_spare (at hops lowest) no_spare

  -- the same in words of logic, with no way to find it: so many repetitions lead to the node, which has p; fewer lead to no node
  -- that has p, and so many to none of a lower number
  pub record IsNearest (hops node : ℕ) : Type 0 where
    pub inside : node < n
    pub spare : p node ≡ true
    pub away : times r n hops v node ≡ true
    pub nearer : (k w : ℕ) → k < hops → w < n → times r n k v w ≡ true → p w ≡ false
    pub lower : (w : ℕ) → w < node → times r n hops v w ≡ true → p w ≡ false

  -- what an answer says: `at`, that this is the nearest; `no_spare`, that no node has p that `star` leads to
  abbrev pub Says : Nearest → Type 0
  Says (at hops node) = IsNearest hops node
  Says no_spare = (w : ℕ) → w < n → star r n v w ≡ true → p w ≡ false

-- of the nodes that conform to a shape, the nearest to v along a path
abbrev pub nearest_of : Graph → Path → Shape → ℕ → Nearest
nearest_of g e φ v = nearest (ends g.nodes g.triples e) (conforms g φ) g.nodes v

-- from node v of a book along its path e, to its shape s
unfoldable pub nearest_in : Book → (v e s : ℕ) → Nearest
nearest_in b v e s = nearest_of (graph_of b) (get_or (book_paths b) e (predicate 0)) (def (schema b) s) v
