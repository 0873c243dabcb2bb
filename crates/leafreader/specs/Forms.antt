-- What reading a FORM answers and leaves in the cells and values, for what the grammar's reading gives.
use Rattle.std.specs.Prelude.{ℕ, ◌+◌, ◌-◌, ◌<◌, ◌≤◌, ◌≡◌, List, [], ◌∷◌, Bool, true, cond, eqb, length, get_or, ℤ, Result, Ok, Err}
use Rattle.model.specs.Paths.{Path, End}
use Rattle.model.specs.Shapes.{Shape}
use Rattle.model.specs.Books.{Book}
use Rattle.model.specs.Sizes.{path_entries, end_entries}
use Rattle.model.specs.Limits.{max_forms, max_paths, max_items}
use Rattle.grammar.specs.Syntax.{Slot, Arg, form, form_family}
use Rattle.grammar.specs.Reading.{Read, got, refused, Readers, Begun, after, arg_at, body_at, readers_at}
use Rattle.tables.specs.Layout.{no_number}
use Rattle.stores.specs.Entries.{put_form, put_items, put_value, path_cells, end_cells, end_operand, shape_cells, shape_values}
use Rattle.model.specs.Refusals.{fault_of}
use Rattle.model.specs.declared.Fault.{Fault}
use Rattle.itemreader.specs.Answers.{Item, item_of, rest_at}
use Rattle.leafreader.specs.declared.Ended.{Ended}

-- what has ended with a form that was read, and the position after it; or the fault
abbrev pub Form : Type 0
Form = Result (Ended × ℕ) Fault

-- the counts that the code holds
abbrev pub begun_of : Ended → Begun
begun_of n = record { forms = n.forms; paths = n.paths; items = n.items }

abbrev pub ended_of : Begun → Ended
ended_of n = record { forms = n.forms; paths = n.paths; items = n.items }

-- one form entry more
abbrev pub form_ended : Ended → Ended
form_ended n = record { forms = n.forms + 1; paths = n.paths; items = n.items }

-- the counts after a form that was read, where n have ended before it, and the position after it; or the refusal
abbrev pub form_answer : Begun → Read Shape → Form
form_answer n (got φ next) = Ok (ended_of (after form φ n), next)
form_answer n (refused k) = Err (fault_of k)

-- its entries in the cells, and its numbers among the values; a refusal leaves both free
abbrev pub FormStored : Read Shape → Begun → List ℕ → List ℕ → List ℤ → List ℤ → Type 0
FormStored (got φ next) n cs cs' vs vs' = (cs' ≡ shape_cells n φ cs) × (vs' ≡ shape_values n φ vs)
FormStored (refused k) n cs cs' vs vs' = Unit {0}

-- the answer r and the tables after reading x
pub record FormRead (x : Read Shape) (n : Begun) (cs cs' : List ℕ) (vs vs' : List ℤ) (r : Form) : Type 0 where
  pub answer : r ≡ form_answer n x
  pub stored : FormStored x n cs cs' vs vs'

-- after the parts of φ, put is all of φ in the cells: l have ended with its parts, and its own entry is the next
pub record Closes (φ : Shape) (n : Begun) (cs : List ℕ) (vs vs' : List ℤ) (l : Ended) (put : List ℕ) : Type 0 where
  pub ended : ended_of (after form φ n) ≡ form_ended l
  pub cells : put ≡ shape_cells n φ cs
  pub values : vs' ≡ shape_values n φ vs

-- what a closing bracket gives, where l have ended before its own entry
unfoldable pub closed_form : List ℕ → ℕ → Ended → Form
closed_form s at l = cond (eqb (get_or s at 0) 41) (Ok (form_ended l, at + 1)) (Err Fault.Grammar)

-- more than e form entries with room for up more, other entries within their limits, and a position in a text of a length
abbrev pub FormsWithin : ℕ → ℕ → ℕ → Form → Type 0
FormsWithin e up len (Ok (m, next)) = (e < m.forms) × (m.forms + up ≤ max_forms) × (m.paths ≤ max_paths) × (m.items ≤ max_items) × (next ≤ len)
FormsWithin e up len (Err f) = Unit {0}

-- how many FORMs stand within the bracket of a word
abbrev pub children_of : ℕ → ℕ
children_of code = get_or (0 ∷ 0 ∷ 2 ∷ 2 ∷ 1 ∷ 0 ∷ 0 ∷ 0 ∷ 0 ∷ 0 ∷ 0 ∷ 0 ∷ 1 ∷ 1 ∷ 0 ∷ 0 ∷ 0 ∷ 0 ∷ 0 ∷ 0 ∷ []) code 0

-- what follows the word of a number, where left more brackets may be opened
abbrev pub form_body : List ℕ → Book → ℕ → ℕ → Begun → ℕ → Read Shape
form_body s a left code b at = body_at s a form_family (readers_at s a left) (λ c. true) (get_or form_family.codes code form_family.other) b at

-- ---- forms by what stands within their brackets
-- the operands of an entry with one item: alone, or after another operand
abbrev pub put_item : Bool → ℕ → ℕ → ℕ → List ℕ → ℕ → List ℕ
put_item lone e code a cs y = put_form e code (cond lone y a) (cond lone 0 y) 0 0 cs

-- r and cs' are right for every form whose last item was read as item, and that put completes after n
abbrev pub ItemForm : List ℕ → Item → Ended → (ℕ → List ℕ) → List ℕ → Form → Type 0
ItemForm s item n put cs' r =
    (a : Book) (R : Readers) (b : Begun) (k : Slot) (g : Arg k → ℕ) (at : ℕ)
    → item ≡ item_of g (arg_at s a R k b at)
    → (m : Begun) (cs : List ℕ) (vs vs' : List ℤ) (f : Arg k → Shape)
    → ((y : Arg k) → Closes (f y) m cs vs vs' n (put (g y)))
    → FormRead (rest_at s a R true (k ∷ []) (λ xs. f xs.0) b at) m cs cs' vs vs' r

-- the entry of a form with a name, a list, a number V, an END and a link, a PATH and a link
abbrev pub UsedShape : (ℕ → Shape) → ℕ → Type 0
UsedShape f code = (n : Ended) (k : ℕ) (cs : List ℕ) (vs : List ℤ) → Closes (f k) (begun_of n) cs vs vs n (put_item true n.forms code 0 cs k)

abbrev pub ListShape : (List ℕ → Shape) → ℕ → Type 0
ListShape f code = (n : Ended) (ks cs : List ℕ) (vs : List ℤ)
    → Closes (f ks) (begun_of n) cs vs vs (record { forms = n.forms; paths = n.paths; items = n.items + length ks }) (put_form n.forms code n.items (length ks) 0 0 (put_items n.items ks cs))

abbrev pub ValueShape : (ℤ → Shape) → ℕ → Type 0
ValueShape f code = (n : Ended) (x : ℤ) (cs : List ℕ) (vs : List ℤ)
    → Closes (f x) (begun_of n) cs vs (put_value n.forms x vs) n (put_form n.forms code 0 0 0 0 cs)

abbrev pub EndShape : (End → ℕ → Shape) → ℕ → Type 0
EndShape f code = (n : Ended) (e : End) (p : ℕ) (cs : List ℕ) (vs : List ℤ)
    → Closes (f e p) (begun_of n) cs vs vs (record { forms = n.forms; paths = n.paths + end_entries e; items = n.items }) (put_form n.forms code (end_operand (n.paths + end_entries e) e) p 0 0 (end_cells n.paths e cs))

abbrev pub PathShape : (Path → ℕ → Shape) → ℕ → Type 0
PathShape f code = (n : Ended) (e : Path) (p : ℕ) (cs : List ℕ) (vs : List ℤ)
    → Closes (f e p) (begun_of n) cs vs vs (record { forms = n.forms; paths = n.paths + path_entries e; items = n.items }) (put_form n.forms code (n.paths + path_entries e - 1) p 0 0 (path_cells n.paths e cs))

-- the number by which an entry names its END: by the path entries before and after it
abbrev pub end_number : ℕ → ℕ → ℕ
end_number before after = cond (eqb after before) no_number (after - 1)
