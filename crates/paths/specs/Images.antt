-- Where a relation between nodes leads from the members of a set, and sets of nodes side by side in words.
use Rattle.std.specs.Prelude.{ℕ, ◌+◌, ◌*◌, ◌/◌, ◌%◌, ◌<◌, ◌≤◌, List, Bool, true, false, ◌&&◌, ◌||◌, ◌⊎◌, ◌↔◌, ◌≡◌, eqb, length, replicate}
use Rattle.base.specs.Bounded.{some}
use Rattle.nodeset.specs.Words.{has, words_of}
use Rattle.model.specs.Graph.{Triple}
use Rattle.model.specs.Limits.{max_nodes}
use Rattle.model.specs.Paths.{Path, ends}
use Rattle.model.specs.Repeats.{star, plus}
use Rattle.closure.specs.Rows.{leads}
use Rattle.paths.specs.declared.Sets.{Sets}
use Rattle.paths.specs.declared.Sets.TheVariants.{One, Rows, Own}

-- a relation, or its converse where back
abbrev pub converse_if : Bool → (ℕ → ℕ → Bool) → ℕ → ℕ → Bool
converse_if true r v w = r w v
converse_if false r v w = r v w

-- the image of s: r leads to w from a member of s below n
unfoldable pub image : ℕ → (ℕ → ℕ → Bool) → (ℕ → Bool) → ℕ → Bool
image n r s w = some (λ v. s v && r v w) n

-- the set `into`, with all that r leads to from the members of `from`
unfoldable pub with_image : ℕ → (ℕ → ℕ → Bool) → List ℕ → List ℕ → List ℕ
with_image n r from into = words_of (λ w. has into w || image n r (has from) w) (length into)

-- the same for as many sets side by side as width says: node v of set k is at v * width + k, in `into` and in `from`
unfoldable pub with_images : ℕ → ℕ → (ℕ → ℕ → Bool) → (ℕ → Bool) → List ℕ → List ℕ
with_images width n r from into = words_of (λ x. has into x || image n r (λ v. from (v * width + x % width)) (x / width)) (length into)

-- far joins each set of `into` whose namesake in `from` has near
unfoldable pub joined_sets : ℕ → ℕ → ℕ → (ℕ → Bool) → List ℕ → List ℕ
joined_sets width near far from into = words_of (λ x. has into x || (from (near * width + x % width) && eqb far (x / width))) (length into)

-- how many sets stand side by side
abbrev pub set_count : Sets → ℕ
set_count One = 1
set_count Rows = max_nodes
set_count Own = max_nodes

-- what they start from: what is lent, or set k from node k alone
abbrev pub start_of : Sets → List ℕ → ℕ → Bool
start_of One from x = has from x
start_of Rows from x = has from x
start_of Own from x = eqb (x / max_nodes) (x % max_nodes)

-- how many words they take for n nodes, where they are rows; and those that they start from
abbrev pub set_words : Sets → ℕ → ℕ
set_words One n = 0
set_words Rows n = 16 * n
set_words Own n = 16 * n

abbrev pub start_words : Sets → ℕ → ℕ
start_words One n = 0
start_words Rows n = 16 * n
start_words Own n = 0

abbrev pub Room : Sets → ℕ → List ℕ → List ℕ → Type 0
Room sets n from into = (start_words sets n ≤ length from) × (set_words sets n ≤ length into)

-- what a second part starts from: the sets that a first part has filled
abbrev pub carried_on : Sets → Sets
carried_on One = One
carried_on Rows = Rows
carried_on Own = Rows

-- words for these, with nothing in them
abbrev pub MidOk : Sets → ℕ → List ℕ → Type 0
MidOk sets n mid = (mid ≡ replicate (length mid) 0) × (set_words sets n ≤ length mid) × (n * set_count sets ≤ 64 * length mid)

-- the sets of `into` with the ends of a path, read backwards where back, over n nodes and the triples ts
unfoldable pub with_ends : ℕ → ℕ → List Triple → Path → Bool → (ℕ → Bool) → List ℕ → List ℕ
with_ends width n ts p back from into = with_images width n (converse_if back (ends n ts p)) from into

-- from a row's members to its node
abbrev pub backwards : List ℕ → ℕ → ℕ → Bool
backwards rows v w = leads rows w v

-- a member of `from` is in row w; w joins `into` where one is
unfoldable pub meets_row : List ℕ → List ℕ → ℕ → ℕ → Bool
meets_row from rows n w = some (λ v. has from v && leads rows w v) n

unfoldable pub with_node : List ℕ → List ℕ → ℕ → ℕ → List ℕ → List ℕ
with_node from rows n w into = words_of (λ x. has into x || (meets_row from rows n w && eqb x w)) (length into)

-- a relation repeated: zero or more times, where they may be none; else one or more
abbrev pub repeated : Bool → (ℕ → ℕ → Bool) → ℕ → ℕ → ℕ → Bool
repeated true r n = star r n
repeated false r n = plus r n

-- document 02, Job 3, in words of logic: `after` is exactly what `into` held and what r leads to. Node w is in set k of it where it
-- was there already, or where r leads to it from a node of set k of `from`
pub record Added (width n : ℕ) (r : ℕ → ℕ → Bool) (from : ℕ → Bool) (into after : List ℕ) : Type 0 where
  pub long : length after ≡ length into
  pub those : (k w : ℕ) → k < width → w * width + k < 64 * length into
      → (has after (w * width + k) ≡ true) ↔ ((has into (w * width + k) ≡ true) ⊎ ((v : ℕ) × (v < n) × (from (v * width + k) ≡ true) × (r v w ≡ true)))
