-- What the functions of this crate do to rows on the way to closed ones, and what holds in between. No contract of a public function
-- speaks of these.
use Rattle.std.specs.Prelude.{ℕ, ◌+◌, ◌*◌, ◌/◌, ◌%◌, ◌≤◌, ◌<◌, List, Bool, true, false, ◌&&◌, ◌||◌, ◌≡◌, eqb, leb, ltb, length, get_or}
use Rattle.std.specs.Int.Bits.{bit_and}
use Rattle.base.specs.Bounded.{some}
use Rattle.nodeset.specs.Words.{bit, has, words_of}
use Rattle.model.specs.Limits.{max_nodes}
use Rattle.model.specs.Repeats.{plus}
use Rattle.closure.specs.Rows.{leads, Within}

-- ---- what rows gain
-- the rows, with w in row v where more has it
unfoldable pub gained : List ℕ → (ℕ → ℕ → Bool) → List ℕ
gained rows more = words_of (λ x. has rows x || more (x / max_nodes) (x % max_nodes)) (length rows)

-- row v, the set of the words from, where the flag is set
abbrev pub given_if : ℕ → Bool → List ℕ → ℕ → ℕ → Bool
given_if v flag from u w = (eqb u v && flag) && has from w

-- each row from a on and below e that has k, row k
abbrev pub by_node : (ℕ → ℕ → Bool) → ℕ → ℕ → ℕ → ℕ → ℕ → Bool
by_node q k a e v w = ((leb a v && ltb v e) && q v k) && q k w

-- what some node u from a on and below e leads to that p has
unfoldable pub by_block : (ℕ → Bool) → (ℕ → ℕ → Bool) → ℕ → ℕ → ℕ → Bool
by_block p q a e w = some (λ u. (leb a u && p u) && q u w) e

-- from v by such a node in between
abbrev pub across : (ℕ → ℕ → Bool) → ℕ → ℕ → ℕ → ℕ → Bool
across q a e v w = by_block (q v) q a e w

-- what the nodes of block j lead to that x names, bit d the node 64 * j + d
unfoldable pub union_of : List ℕ → ℕ → ℕ → ℕ → Bool
union_of from j x w = some (λ d. bit x d && leads from (64 * j + d) w) 64

-- those that word j of row v names, of the ones that mask names
abbrev pub by_word : List ℕ → List ℕ → ℕ → ℕ → ℕ → ℕ → Bool
by_word rows from j mask v w = union_of from j (bit_and (get_or rows (16 * v + j) 0) mask) w

-- row v alone; the rows below n
abbrev pub in_row : ℕ → (ℕ → ℕ → Bool) → ℕ → ℕ → Bool
in_row v more u w = eqb u v && more u w

abbrev pub in_first : ℕ → (ℕ → ℕ → Bool) → ℕ → ℕ → Bool
in_first n more u w = ltb u n && more u w

-- ---- what holds in between
-- where v leads to k, it leads to what k leads to
abbrev pub LeadsOn : ℕ → (ℕ → ℕ → Bool) → ℕ → ℕ → Type 0
LeadsOn n q v k = (w : ℕ) → w < n → q v k ≡ true → q k w ≡ true → q v w ≡ true

-- the rows from a on and below e lead through those of them below k
abbrev pub Inner : ℕ → ℕ → ℕ → ℕ → (ℕ → ℕ → Bool) → Type 0
Inner n a e k q = (v u : ℕ) → a ≤ v → v < e → a ≤ u → u < k → LeadsOn n q v u

-- rows on the way from those before to closed ones: n rows lead through every node below a
pub record Closing (n a : ℕ) (before rows : List ℕ) : Type 0 where
  pub long : length rows ≡ length before
  pub within : Within n rows
  pub more : (v w : ℕ) → v < n → w < n → leads before v w ≡ true → leads rows v w ≡ true
  pub right : (v w : ℕ) → v < n → w < n → leads rows v w ≡ true → plus (leads before) n v w ≡ true
  pub low : (v u : ℕ) → v < n → u < n → u < a → LeadsOn n (leads rows) v u

-- room for the rows of n nodes
pub record RowsRoom (n : ℕ) (rows : List ℕ) : Type 0 where
  pub few : n ≤ max_nodes
  pub words : 16 * n ≤ length rows

-- the nodes from a on and below e, up to 64 of n: all of them below a + 64
pub record IsBlock (n a e : ℕ) : Type 0 where
  pub from : a < e
  pub end : e ≤ n
  pub least : e ≤ a + 64
  pub whole : (u : ℕ) → u < n → u < a + 64 → u < e

-- rows that nothing stands past, a block of which leads through itself
pub record Blocked (n a e : ℕ) (rows : List ℕ) : Type 0 where
  pub within : Within n rows
  pub inner : Inner n a e e (leads rows)

-- each row of the block that leads anywhere has its bit in x; a bit too many costs time alone
abbrev pub Busy : ℕ → ℕ → ℕ → List ℕ → Type 0
Busy a e x rows = (u w : ℕ) → a ≤ u → u < e → bit x (u % 64) ≡ false → w < max_nodes → leads rows u w ≡ false

-- of block j, x names nodes only that have a row
abbrev pub Named : ℕ → ℕ → List ℕ → Type 0
Named j x from = (d : ℕ) → d < 64 → bit x d ≡ true → 16 * (64 * j + d) + 16 ≤ length from
