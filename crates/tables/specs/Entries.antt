-- Path entries and form entries, as the tables hold them: by code, their parts as numbers.
use Rattle.std.specs.Prelude.{ℕ, [], ◌∷◌, get_or, ℤ}

-- by code from 0: a link, inv, seq, alt, star, plus; `bad` for a code that is none of these
pub data PathEntry : Type 0 where
  link inv : ℕ → PathEntry
  seq alt : ℕ → ℕ → PathEntry
  star plus : ℕ → PathEntry
  bad : PathEntry

unfoldable pub path_entry_of : ℕ → ℕ → ℕ → PathEntry
path_entry_of code a b = get_or (link a ∷ inv a ∷ seq a b ∷ alt a b ∷ star a ∷ plus a ∷ []) code PathEntry.bad

-- by code from 0, in the words of document 01 (top, conj, disj, neg, under: true, and, or, not, below)
pub data Entry : Type 0 where
  top : Entry
  -- a node; a shape; one or two form entries
  is shape : ℕ → Entry
  conj disj : ℕ → ℕ → Entry
  neg : ℕ → Entry
  -- a kind's code; a datatype; the first of its items and how many; V
  kind datatype : ℕ → Entry
  lang : ℕ → ℕ → Entry
  from above to under : ℤ → Entry
  -- a path entry, a form entry, LO, HI; a path entry, a form entry
  count : ℕ → ℕ → ℕ → ℕ → Entry
  all : ℕ → ℕ → Entry
  -- a path entry or `id`, and a link
  equal apart : ℕ → ℕ → Entry
  -- the first of its items and how many
  closed : ℕ → ℕ → Entry
  -- a path entry and a link; a path entry
  less lesseq : ℕ → ℕ → Entry
  onelang : ℕ → Entry
  -- a code that is none of these
  bad : Entry

-- from a code, four operands and V
unfoldable pub entry_of : ℕ → ℕ → ℕ → ℕ → ℕ → ℤ → Entry
entry_of code a b c d x =
    get_or
    (top ∷ is a ∷ shape a ∷ conj a b ∷ disj a b ∷ neg a ∷ kind a ∷ datatype a ∷ lang a b ∷ from x ∷ above x ∷ to x ∷ under x
    ∷ count a b c d ∷ all a b ∷ equal a b ∷ apart a b ∷ closed a b ∷ less a b ∷ lesseq a b ∷ onelang a ∷ [])
    code Entry.bad
