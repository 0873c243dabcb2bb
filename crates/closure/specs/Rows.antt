-- Rows of a relation between nodes: sixteen words for each node. Row v is the set of the nodes that v leads to.
use Rattle.std.specs.Prelude.{ℕ, ◌+◌, ◌*◌, ◌/◌, ◌%◌, ◌^◌, ◌<◌, List, Bool, ◌&&◌, ◌||◌, ◌≡◌, eqb, ltb, length, get_or}
use Rattle.base.specs.Bounded.{some}
use Rattle.nodeset.specs.Words.{has, words_of}
use Rattle.model.specs.Limits.{max_nodes}

-- the relation r between the nodes below n
abbrev pub between : ℕ → (ℕ → ℕ → Bool) → ℕ → ℕ → Bool
between n r v w = (ltb v n && ltb w n) && r v w

-- what stands at place x of the rows: whether v leads to w, at max_nodes * v + w
abbrev pub in_rows : ℕ → (ℕ → ℕ → Bool) → ℕ → Bool
in_rows n r x = between n r (x / max_nodes) (x % max_nodes)

-- the rows, in as many words as there are
unfoldable pub rows_of : ℕ → (ℕ → ℕ → Bool) → ℕ → List ℕ
rows_of n r words = words_of (in_rows n r) words

-- whether v leads to w, as the rows have it
abbrev pub leads : List ℕ → ℕ → ℕ → Bool
leads rows v w = has rows (max_nodes * v + w)

-- nothing stands past the rows of n nodes, and in these past n nodes
abbrev pub Within : ℕ → List ℕ → Type 0
Within n rows = rows ≡ rows_of n (leads rows) (length rows)

-- each is a word of 64 bits
abbrev pub Small : List ℕ → Type 0
Small ws = (i : ℕ) → get_or ws i 0 < 2 ^ 64

-- r, and each node to itself
abbrev pub or_itself : (ℕ → ℕ → Bool) → ℕ → ℕ → Bool
or_itself r v w = r v w || eqb v w

-- row v with the set of the words from
unfoldable pub taken : List ℕ → ℕ → List ℕ → List ℕ
taken rows v from = words_of (λ x. has rows x || (eqb (x / max_nodes) v && has from (x % max_nodes))) (length rows)

-- some u below n to which the rows lead from v and from which the rows from lead to w
unfoldable pub through : List ℕ → List ℕ → ℕ → ℕ → ℕ → Bool
through rows from n v w = some (λ u. leads rows v u && leads from u w) n

-- each of n rows with what it leads to by the two
unfoldable pub composed : List ℕ → List ℕ → List ℕ → ℕ → List ℕ
composed into rows from n = words_of (λ x. has into x || (ltb (x / max_nodes) n && through rows from n (x / max_nodes) (x % max_nodes))) (length into)
