-- Items in chains by key: those of one key, the last first. A slice holds where the chain of each key begins and what follows
-- each item in its chain; an item stands there as its number and one, and 0 ends a chain.
use Rattle.std.specs.Prelude.{ℕ, zero, suc, ◌+◌, ◌<◌, cond, List, ◌≡◌, eqb, get_or, set}

-- the last of the first n items that has key h, as its number and one; 0 where none has it
unfoldable pub last_with : (ℕ → ℕ) → ℕ → ℕ → ℕ
last_with key h zero = 0
last_with key h (suc n) = cond (eqb (key n) h) (suc n) (last_with key h n)

-- the chains of the first n items by their keys: that of h below slots begins at heads + h, and item i is followed at nexts + i
pub record Chained (key : ℕ → ℕ) (n slots heads nexts : ℕ) (index : List ℕ) : Type 0 where
  pub begins : (h : ℕ) → h < slots → get_or index (heads + h) 0 ≡ last_with key h n
  pub follows : (i : ℕ) → i < n → get_or index (nexts + i) 0 ≡ last_with key (key i) i

-- item i begins the chain of h, and what began it follows
abbrev pub linked : List ℕ → (heads nexts h i : ℕ) → List ℕ
linked index heads nexts h i = set (set index (nexts + i) (get_or index (heads + h) 0)) (heads + h) (i + 1)
