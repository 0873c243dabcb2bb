-- The items of a book's text, and its names.
use Rattle.std.specs.Prelude.{ℕ, suc, ◌+◌, List, [], ◌∷◌, Bool, cond, ◌&&◌, ◌||◌, length, drop, ltb, leb, eqb}
use Rattle.base.specs.Lists.{allb}
use Rattle.model.specs.Limits.{max_name}

-- LF, space, ( and ) end an item
unfoldable pub edge : ℕ → Bool
edge b = eqb b 10 || (eqb b 32 || (eqb b 40 || eqb b 41))

-- how many bytes stand before the first that ends an item
unfoldable pub item_len : List ℕ → ℕ
item_len [] = 0
item_len (b ∷ s) = cond (edge b) 0 (suc (item_len s))

-- where the item that starts at a position ends
unfoldable pub item_end : List ℕ → ℕ → ℕ
item_end s at = at + item_len (drop at s)

-- from lo to hi, both included
abbrev pub is_between : ℕ → ℕ → ℕ → Bool
is_between lo hi b = leb lo b && leb b hi

-- a-z, 0-9, - and _
unfoldable pub name_byte : ℕ → Bool
name_byte b = is_between 97 122 b || (is_between 48 57 b || (eqb b 45 || eqb b 95))

-- at least one of them, and not more than the limit
unfoldable pub is_name : List ℕ → Bool
is_name s = ltb 0 (length s) && (leb (length s) max_name && allb name_byte s)
