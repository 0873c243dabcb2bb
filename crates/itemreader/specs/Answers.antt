-- What the readers of single items answer, for what the grammar's reading gives.
use Rattle.std.specs.Prelude.{ℕ, ◌+◌, ◌<◌, ◌≤◌, ◌≡◌, List, Bool, false, cond, eqb, length, get_or, ℤ, Option, Some, None, Result, Ok, Err}
use Rattle.std.proofs.Math.Seq.{slice}
use Rattle.text.specs.Items.{item_end}
use Rattle.text.specs.Pool.{index_of}
use Rattle.model.specs.Books.{Book}
use Rattle.model.specs.Books as books
use Rattle.model.specs.Refusals.{fault_of}
use Rattle.model.specs.declared.Fault.{Fault}
use Rattle.grammar.specs.Syntax.{Slot, Arg, Args}
use Rattle.grammar.specs.Reading.{Read, got, refused, and_then, Readers, Begun, arg_at, args_at, close_at}
use Rattle.stores.specs.Entries.{put_items}
use Rattle.itemreader.specs.declared.Pool.{Pool}

-- the pool that the code names
abbrev pub pool_of : Pool → books.Pool
pool_of Pool.Nodes = books.nodes
pool_of Pool.Links = books.links
pool_of Pool.Types = books.types
pool_of Pool.Langs = books.langs
pool_of Pool.Shapes = books.shapes

-- what was read by its number, and the position after it; or the fault
abbrev pub Item : Type 0
Item = Result (ℕ × ℕ) Fault

-- a decimal of the book, and the position after it; or the fault
abbrev pub Value : Type 0
Value = Result (ℤ × ℕ) Fault

-- what stands where a bracket may: none; or the number of its word, and where that ends; or the fault
abbrev pub Head : Type 0
Head = Result (Option (ℕ × ℕ)) Fault

-- a number that stands for itself
abbrev pub same : ℕ → ℕ
same k = k

-- what was read by its number, with the position after it; or the refusal
abbrev pub item_of : {A : Type 0} → (A → ℕ) → Read A → Item
item_of f (got x next) = Ok (f x, next)
item_of f (refused k) = Err (fault_of k)

abbrev pub value_of : Read ℤ → Value
value_of (got x next) = Ok (x, next)
value_of (refused k) = Err (fault_of k)

-- r is the answer for the argument at a position, by the numbers f
abbrev pub Reads : List ℕ → Book → (k : Slot) → (Arg k → ℕ) → ℕ → Item → Type 0
Reads s a k f at r = (R : Readers) (b : Begun) → r ≡ item_of f (arg_at s a R k b at)

-- where the item after a space ends, which lies in the text; or that no space stands there
abbrev pub Spaced : List ℕ → ℕ → Result ℕ Fault → Type 0
Spaced s at (Ok end) = (get_or s at 0 ≡ 32) × (end ≡ item_end s (at + 1)) × (at + 1 ≤ end) × (end ≤ length s)
Spaced s at (Err e) = (get_or s at 0 ≡ 32 → ⊥) × (e ≡ Fault.Grammar)

-- a number from low to most, and a position in a text of a length
abbrev pub Counted : ℕ → ℕ → ℕ → Item → Type 0
Counted low most len (Ok (k, next)) = (low ≤ k) × (k ≤ most) × (next ≤ len)
Counted low most len (Err e) = Unit {0}

-- a number below a bound, and a position in a text of a length
abbrev pub Below : ℕ → ℕ → Item → Type 0
Below bound len (Ok (k, next)) = (k < bound) × (next ≤ len)
Below bound len (Err e) = Unit {0}

abbrev pub Inside : ℕ → Value → Type 0
Inside len (Ok (x, next)) = next ≤ len
Inside len (Err e) = Unit {0}

-- ---- the items of a list
-- how many items there are after a list, where i were there before
abbrev pub items_after : ℕ → List ℕ → ℕ
items_after i ks = i + length ks

-- the cells after a list that was read, where i items were there before; a refusal leaves them free
abbrev pub Listed : Read (List ℕ) → ℕ → List ℕ → List ℕ → Type 0
Listed (got ks next) i before after = after ≡ put_items i ks before
Listed (refused k) i before after = Unit {0}

-- ---- the head of a bracket
-- deep: no bracket may be opened here; full: no entry may begin here
abbrev pub headed : (deep full : Bool) → Option ℕ → ℕ → Head
headed deep full None end = Err (fault_of 2)
headed deep full (Some k) end = cond deep (Err (fault_of 4)) (cond full (Err (fault_of 7)) (Ok (Some (k, end))))

-- the number of the word after an opening bracket, and where it ends
unfoldable pub head_at : List ℕ → List (List ℕ) → (deep full : Bool) → ℕ → Head
head_at s words deep full at =
    cond (eqb (get_or s at 0) 40)
    (headed deep full (index_of words (slice (at + 1) (item_end s (at + 1)) s)) (item_end s (at + 1)))
    (Ok None)

-- a word's number below a count, brackets left to open, and room for an entry
abbrev pub Headed : ℕ → ℕ → Bool → ℕ → Head → Type 0
Headed count left full len (Ok None) = Unit {0}
Headed count left full len (Ok (Some (k, end))) = (k < count) × (0 < left) × (full ≡ false) × (end ≤ len)
Headed count left full len (Err e) = Unit {0}

-- ---- what follows the word of a bracket
-- the arguments ks and the closing bracket, where f makes the whole of them
abbrev pub rest_at : List ℕ → Book → Readers → {A : Type 0} → Bool → (ks : List Slot) → (Args ks → A) → Begun → ℕ → Read A
rest_at s a R room ks f n at = and_then (args_at s a R ks n at) (λ xs next. close_at s a room (f xs) next)
