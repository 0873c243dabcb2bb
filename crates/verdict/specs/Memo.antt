-- What is kept while a verdict is found: a set of numbers, each a verdict on a form entry and a node. No promise of the
-- operation speaks of it; `Decided` is what is promised of the nodes of a set to the crates above.
use Rattle.std.specs.Prelude.{ℕ, ◌+◌, ◌*◌, ◌<◌, List, Bool, true, false, ◌||◌, ◌≡◌, ℤ, length}
use Rattle.std.specs.Coded.{Coded-set, coded_bool, le_prop}
use Rattle.nodeset.specs.Words.{has}
use Rattle.model.specs.Shapes.{conforms}
use Rattle.model.specs.Limits.{max_nodes, max_forms}
use Rattle.tables.specs.Layout.{node_count, form_count}
use Rattle.tables.specs.Decode.{graph_at, shape_at}
use Rattle.paths.specs.Facts.{Tables}

-- the number that says that node v conforms to entry e, and the one that says that it does not
abbrev pub yes_place : ℕ → ℕ → ℕ
yes_place e v = 32 * e * 64 + v

abbrev pub no_place : ℕ → ℕ → ℕ
no_place e v = (32 * e + 16) * 64 + v

-- how long the memo is
abbrev pub memo_count : ℕ
memo_count = 32 * max_forms

-- the verdict on entry e and node v is known
unfoldable pub settled : List ℕ → ℕ → ℕ → Bool
settled memo e v = has memo (yes_place e v) || has memo (no_place e v)

-- what is known is right, and is of nodes
pub record MemoRight (cs : List ℕ) (vs : List ℤ) (memo : List ℕ) : Type 0 where
  pub low : (e v : ℕ) → v < max_nodes → has memo (yes_place e v) ≡ true → v < node_count cs
  pub yes : (e v : ℕ) → v < max_nodes → has memo (yes_place e v) ≡ true → conforms (graph_at cs vs) (shape_at cs vs e) v ≡ true
  pub no : (e v : ℕ) → v < max_nodes → has memo (no_place e v) ≡ true → conforms (graph_at cs vs) (shape_at cs vs e) v ≡ false

-- that it is is one fact
pub MemoRight-prop : (cs : List ℕ) (vs : List ℤ) (memo : List ℕ) → IsProp (MemoRight cs vs memo)
MemoRight-prop cs vs memo x y = λ i. record {
  low = λ e v l h. le_prop (x.low e v l h) (y.low e v l h) i;
  yes = λ e v l h. Coded-set coded_bool (conforms (graph_at cs vs) (shape_at cs vs e) v) true (x.yes e v l h) (y.yes e v l h) i;
  no = λ e v l h. Coded-set coded_bool (conforms (graph_at cs vs) (shape_at cs vs e) v) false (x.no e v l h) (y.no e v l h) i;
}

-- an entry is to be settled
pub record Ready (cs index : List ℕ) (vs : List ℤ) (memo : List ℕ) (e : ℕ) : Type 0 where
  pub tables : Tables cs index
  pub size : length memo ≡ memo_count
  pub right : MemoRight cs vs memo
  pub entry : e < form_count cs

-- a set has, of the nodes of another, those that conform to e
abbrev pub Decided : List ℕ → List ℤ → ℕ → List ℕ → List ℕ → Type 0
Decided cs vs e nodes set = (v : ℕ) → v < node_count cs → has nodes v ≡ true → has set v ≡ conforms (graph_at cs vs) (shape_at cs vs e) v

-- afterwards nothing that was known is lost, and the verdict on e is known of all nodes of a set
pub record Settled (cs : List ℕ) (vs : List ℤ) (before after : List ℕ) (e : ℕ) (nodes : List ℕ) : Type 0 where
  pub right : MemoRight cs vs after
  pub grows : (m : ℕ) → has before m ≡ true → has after m ≡ true
  pub all : (v : ℕ) → v < node_count cs → has nodes v ≡ true → settled after e v ≡ true
