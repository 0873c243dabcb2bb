-- Pools of names: so many bytes a name, the name and then zeros, in the order in which they were added.
use Rattle.std.specs.Prelude.{ℕ, zero, suc, ◌+◌, ◌-◌, ◌*◌, ◌%◌, List, [], ◌∷◌, ◌++◌, Bool, true, cond, ◌&&◌, eqb, length, get_or, take, drop, replicate}
use Rattle.std.proofs.Math.Seq.{slice}
use Rattle.base.specs.Bytes.{eql}
use Rattle.text.specs.Items.{is_name}
use Rattle.model.specs.Limits.{name_bytes}
use Rattle.std.specs.Prelude.{Option, Some, None}

-- a name in its bytes
unfoldable pub padded : List ℕ → List ℕ
padded w = w ++ replicate (name_bytes - length w) 0

-- byte j after two starts is the same; it is 0
abbrev pub same_at : List ℕ → ℕ → List ℕ → ℕ → ℕ → Bool
same_at s a t b j = eqb (get_or s (a + j) 0) (get_or t (b + j) 0)

abbrev pub zero_at : List ℕ → ℕ → ℕ → Bool
zero_at s a j = eqb (get_or s (a + j) 0) 0

-- each is a name
unfoldable pub all_names : List (List ℕ) → Bool
all_names [] = true
all_names (w ∷ ws) = is_name w && all_names ws

-- a pool that holds these names
unfoldable pub pool_of : List (List ℕ) → List ℕ
pool_of [] = []
pool_of (w ∷ ws) = padded w ++ pool_of ws

-- the first of n numbers from k on that passes a test
unfoldable pub first_from : (ℕ → Bool) → ℕ → ℕ → Option ℕ
first_from p zero k = None
first_from p (suc n) k = cond (p k) (Some k) (first_from p n (suc k))

-- the number of w in a list of names: its first place, from 0
unfoldable pub index_of : List (List ℕ) → List ℕ → Option ℕ
index_of ws w = first_from (λ k. eql w (get_or ws k [])) (length ws) 0

-- the bytes of number k in the pool that starts at base
abbrev pub place : List ℕ → ℕ → ℕ → List ℕ
place names base k = slice (base + k * name_bytes) (base + k * name_bytes + name_bytes) names

-- a number below 65,536 for a name, by all its bytes; zeros after it add nothing
unfoldable pub hash_of : List ℕ → ℕ
hash_of [] = 0
hash_of (x ∷ xs) = (x + 131 * hash_of xs) % 65536

-- the key of number k in the pool that starts at base, below slots
abbrev pub name_key : List ℕ → ℕ → ℕ → ℕ → ℕ
name_key names base slots k = hash_of (place names base k) % slots

-- the number of w in the pool of count names that starts at base
unfoldable pub find : List ℕ → ℕ → ℕ → List ℕ → Option ℕ
find names base count w = first_from (λ k. eql (padded w) (place names base k)) count 0

-- l, with the elements from i on replaced by those of v
unfoldable pub store : List ℕ → ℕ → List ℕ → List ℕ
store l i v = take i l ++ (v ++ drop (i + length v) l)
