-- The ground of each refusal from 2 to 7: what stands at the refused item, and what of its line stands before it.
use Rattle.std.specs.Prelude.{ℕ, suc, ◌+◌, ◌≤◌, ◌<◌, ◌≡◌, List, [], ◌∷◌, map, true, false, cond, ◌⊎◌, eqb, length, get_or, take, ℤ}
use Rattle.std.proofs.Math.Seq.{slice}
use Rattle.base.specs.Range.{in_range}
use Rattle.base.specs.Lists.{anyb}
use Rattle.base.specs.Bytes.{bytes, eql}
use Rattle.text.specs.Items.{item_end}
use Rattle.text.specs.Decimals.{decimal, signed}
use Rattle.text.specs.Spans.{Span}
use Rattle.model.specs.Graph.{iri}
use Rattle.model.specs.Shapes.{Kind}
use Rattle.model.specs.Limits.{max_depth, max_count, max_forms, max_paths, max_items, max_facts, max_rules}
use Rattle.model.specs.Books.{Line, Book, Pool, nodes, links, types, names, collect, new_terms, new_triples, rules}
use Rattle.model.specs.Valid.{capacity, defined, is_resource}
use Rattle.grammar.specs.Writing.{name_of, write_kind, write_line, render_from, render}
use Rattle.grammar.specs.Valid.{well_named, new_name, valid_line, valid_from}
use Rattle.grammar.specs.Syntax.{Slot, used, new, subject, literal_type, kind_word, value, low, high, path, end, form, target, list, Arg, PathCode, path_word, path_slots, path_family, FormCode, form_word, form_slots, form_family, TargetCode, target_word, target_slots, target_family, LineCode, line_word, line_slots, line_family}
use Rattle.grammar.specs.Reading.{Begun, form_begun, path_begun, after, begun_above, refused, line_at}
use Rattle.grammar.specs.Args.{is_list, write_arg, arg_ok}

-- ---- what may stand at a place
-- a PATH: where PATH or END is wanted
pub data PathSlot : Slot → Type 0 where
  a_path : PathSlot path
  an_end : PathSlot end

-- a defined name of a pool
pub data NameSlot : Slot → Pool → Type 0 where
  any : {p : Pool} → NameSlot (used p) p
  a-subject : NameSlot subject nodes
  a-type : NameSlot literal_type types
  a-link : {k : Slot} → PathSlot k → NameSlot k links
  an_item : {p : Pool} → NameSlot (list p) p

-- a bracket: where one may open, the places after its word, the entry that begins with it, and its word
pub data Opens : Slot → List Slot → (Begun → Begun) → List ℕ → Type 0 where
  path_bracket : {k : Slot} → PathSlot k → (c : PathCode) → Opens k (path_slots c) path_begun (path_word c)
  form_bracket : (c : FormCode) → Opens form (form_slots c) form_begun (form_word c)
  target-bracket : (c : TargetCode) → Opens target (target_slots c) (λ n. n) (target_word c)

-- the words of the brackets that may open there
abbrev pub words : Slot → List (List ℕ)
words (used p) = []
words (new p) = []
words subject = []
words literal_type = []
words kind_word = []
words value = []
words low = []
words high = []
words path = map path_family.word path_family.codes
words end = map path_family.word path_family.codes
words form = map form_family.word form_family.codes
words target = map target_family.word target_family.codes
words (list p) = []

abbrev pub item_begun : Begun → Begun
item_begun n = record { forms = n.forms; paths = n.paths; items = n.items + 1 }

-- the item w, no bracket, is of the form that is wanted there: defined or not, and in its range or not
abbrev pub Fits : Book → Slot → List ℕ → Type 0
Fits above (used p) w = well_named p w ≡ true
Fits above (new p) w = well_named p w ≡ true
-- no literal
Fits above subject w = (well_named nodes w ≡ true) × ((a : ℕ) → defined above nodes a ≡ true → w ≡ name_of above nodes a → is_resource (get_or (collect new_terms above) a iri) ≡ true)
Fits above literal_type w = (well_named types w ≡ true) × (w ≡ bytes "langstring" → ⊥)
Fits above kind_word w = (k : Kind) × (w ≡ write_kind k)
Fits above value w = (z : ℤ) × (w ≡ signed z)
Fits above low w = (x : ℕ) × (w ≡ decimal x)
Fits above high w = (w ≡ bytes "*") ⊎ ((x : ℕ) × (w ≡ decimal x))
Fits above path w = well_named links w ≡ true
Fits above end w = (w ≡ bytes "id") ⊎ (well_named links w ≡ true)
Fits above form w = w ≡ bytes "true"
Fits above target w = ⊥
Fits above (list p) w = well_named p w ≡ true

-- s: the text; above: what the lines above say; start: where the line begins
module _ (s : List ℕ) (above : Book) (start : ℕ) where
  -- from `start` to q the line is as it may be written, and these places are still to come in the innermost bracket that is
  -- open at q; n: the entries and items that have begun; the last number: how many brackets are open
  pub data Waits : ℕ → List Slot → Begun → ℕ → Type 0 where
    -- the line's bracket and its word
    line : {q : ℕ} (c : LineCode) → Span s start q (40 ∷ line_word c) → Waits q (line_slots c) (begun_above above) 1
    -- a bracket in it and its word
    inner : {q p o : ℕ} {k : Slot} {ks ls : List Slot} {b : Begun → Begun} {w : List ℕ} {n : Begun} → Waits q (k ∷ ks) n o → Opens k ls b w → Span s q p (32 ∷ (40 ∷ w)) → Waits p ls (b n) (suc o)
    -- what is wanted at the next place
    next : {q p o : ℕ} {k : Slot} {ks : List Slot} {n : Begun} → Waits q (k ∷ ks) n o → (a : Arg k) → Span s q p (write_arg above k a) → arg_ok above k a ≡ true → Waits p ks (after k a n) o
    -- one more item of a list
    item : {q p o : ℕ} {pool : Pool} {ks : List Slot} {n : Begun} → Waits q (list pool ∷ ks) n o → (a : ℕ) → Span s q p (32 ∷ name_of above pool a) → defined above pool a ≡ true → Waits p (list pool ∷ ks) (item_begun n) o

  -- w is the item after the space at q; or an opening bracket and the word w are
  abbrev pub Item : ℕ → List ℕ → Type 0
  Item q w = (get_or s q 0 ≡ 32) × (slice (q + 1) (item_end s (q + 1)) s ≡ w)

  abbrev pub Opening : ℕ → List ℕ → Type 0
  Opening p w = (get_or s p 0 ≡ 40) × (slice (p + 1) (item_end s (p + 1)) s ≡ w)

  abbrev pub Bracket : ℕ → List ℕ → Type 0
  Bracket q w = (get_or s q 0 ≡ 32) × Opening (q + 1) w

  -- the first item of an entry stands after the space at q, where o brackets are open
  pub data Entry (q o : ℕ) : Slot → Type 0 where
    is_true : Item q (bytes "true") → Entry q o form
    is-link : {k : Slot} → PathSlot k → (a : ℕ) → defined above links a ≡ true → Item q (name_of above links a) → Entry q o k
    is-bracket : {k : Slot} {ls : List Slot} {b : Begun → Begun} {w : List ℕ} → o < max_depth → Opens k ls b w → Bracket q w → Entry q o k

  -- the refusal, and the position of its item
  pub data Ground : ℕ → ℕ → Type 0 where
    -- 2: no line begins there
    no_line : (get_or s start 0 ≡ 40 → ⊥) → Ground 2 start
    no-line-word : (w : List ℕ) → Opening start w → anyb (eql w) (map line_family.word line_family.codes) ≡ false → Ground 2 start
    -- no space, where one is wanted
    no_space : {q o : ℕ} {k : Slot} {ks : List Slot} {n : Begun} → Waits q (k ∷ ks) n o → is_list k ≡ false → (get_or s q 0 ≡ 32 → ⊥) → Ground 2 q
    -- an item that is not of the form that is wanted; and no bracket, unless none may open there
    misfit : {q o : ℕ} {k : Slot} {ks : List Slot} {n : Begun} → Waits q (k ∷ ks) n o → (w : List ℕ) → Item q w → (Fits above k w → ⊥) → (get_or s (q + 1) 0 ≡ 40 → words k ≡ []) → Ground 2 (q + 1)
    -- a bracket with a word that no bracket there has
    no_word : {q o : ℕ} {k : Slot} {ks : List Slot} {n : Begun} → Waits q (k ∷ ks) n o → (w : List ℕ) → Bracket q w → anyb (eql w) (words k) ≡ false → Ground 2 (q + 1)
    -- no closing bracket where nothing else may stand; no LF after a valid line
    no_close : {q o : ℕ} {n : Begun} → Waits q [] n o → (get_or s q 0 ≡ 41 → ⊥) → Ground 2 q
    no_end : {q : ℕ} (l : Line) → Span s start q (write_line above l) → valid_line above l ≡ true → (get_or s q 0 ≡ 10 → ⊥) → Ground 2 q
    -- 3: a well written V, LO or HI out of its range
    value_range : {q o : ℕ} {ks : List Slot} {n : Begun} → Waits q (value ∷ ks) n o → (z : ℤ) → Item q (signed z) → in_range z ≡ false → Ground 3 (q + 1)
    low_range : {q o : ℕ} {ks : List Slot} {n : Begun} → Waits q (low ∷ ks) n o → (x : ℕ) → Item q (decimal x) → max_count < x → Ground 3 (q + 1)
    high_range : {q o : ℕ} {ks : List Slot} {n : Begun} → Waits q (high ∷ ks) n o → (x : ℕ) → Item q (decimal x) → max_count < x → Ground 3 (q + 1)
    -- 4: a bracket with a known word, where 32 are open
    nesting : {q o : ℕ} {k : Slot} {ks ls : List Slot} {b : Begun → Begun} {w : List ℕ} {n : Begun} → Waits q (k ∷ ks) n o → o ≡ max_depth → Opens k ls b w → Bracket q w → Ground 4 (q + 1)
    -- 5: a well made name that its pool does not have
    undefined : {q o : ℕ} {k : Slot} {ks : List Slot} {n : Begun} {pool : Pool} → Waits q (k ∷ ks) n o → NameSlot k pool → (w : List ℕ) → Item q w → well_named pool w ≡ true → anyb (eql w) (names pool above) ≡ false → Ground 5 (q + 1)
    -- 6: a well made name that its pool has, where a new one is wanted
    repeated : {q o : ℕ} {ks : List Slot} {n : Begun} {pool : Pool} → Waits q (new pool ∷ ks) n o → (w : List ℕ) → Item q w → well_named pool w ≡ true → anyb (eql w) (names pool above) ≡ true → Ground 6 (q + 1)
    -- 7: a new name for a pool that is full
    pool_full : {q o : ℕ} {ks : List Slot} {n : Begun} {pool : Pool} → Waits q (new pool ∷ ks) n o → (w : List ℕ) → Item q w → new_name above pool w ≡ true → capacity pool ≤ length (names pool above) → Ground 7 (q + 1)
    -- a defined name in a list, where 128 items have begun
    items-full : {q o : ℕ} {ks : List Slot} {n : Begun} {pool : Pool} → Waits q (list pool ∷ ks) n o → (a : ℕ) → defined above pool a ≡ true → Item q (name_of above pool a) → max_items ≤ n.items → Ground 7 (q + 1)
    -- the first item of an entry, where 112 form entries or 128 path entries have begun
    forms-full : {q o : ℕ} {ks : List Slot} {n : Begun} → Waits q (form ∷ ks) n o → Entry q o form → max_forms ≤ n.forms → Ground 7 (q + 1)
    paths-full : {q o : ℕ} {k : Slot} {ks : List Slot} {n : Begun} → Waits q (k ∷ ks) n o → PathSlot k → Entry q o k → max_paths ≤ n.paths → Ground 7 (q + 1)
    -- the closing bracket of a fact or a rule, where there are 4,096 or 32
    facts_full : {q : ℕ} {n : Begun} → Waits q [] n 1 → Opening start (bytes "fact") → get_or s q 0 ≡ 41 → max_facts ≤ length (collect new_triples above) → Ground 7 q
    rules-full : {q : ℕ} {n : Begun} → Waits q [] n 1 → Opening start (bytes "rule") → get_or s q 0 ≡ 41 → max_rules ≤ length (rules above) → Ground 7 q

-- ---- of a whole text
-- the text s is refused by number r at line k
pub record Grounded (s : List ℕ) (r k : ℕ) : Type 0 where
  -- the lines above are those of a valid book, written up to `at`
  pub above : Book
  pub counted : suc (length above) ≡ k
  pub right : valid_from [] above ≡ true
  pub at : ℕ
  pub written : Span s 0 at (render_from [] above)
  -- the line that begins there is refused, at the item at `place`
  pub refuses : line_at s above at ≡ refused r
  pub place : ℕ
  pub inside : at ≤ place
  pub ground : Ground s above at r place

-- two texts agree in their first e bytes; where one has fewer, they are the same text
abbrev pub Agree : ℕ → List ℕ → List ℕ → Type 0
Agree e t s = take e t ≡ take e s

-- where an item ends, and the byte after it; an opening bracket and the word after it are one item
unfoldable pub stop : List ℕ → ℕ → ℕ
stop s p = item_end s (cond (eqb (get_or s p 0) 40) (p + 1) p) + 1

-- no valid book's text, of whatever length, begins with the bytes up to the end of the item at p and the byte after it. (Where
-- s ends there, its end stands for that byte: no valid book's text is s.)
abbrev pub NoneBegins : List ℕ → ℕ → Type 0
NoneBegins s p = (b : Book) → valid_from [] b ≡ true → Agree (stop s p) (render b) s → ⊥
