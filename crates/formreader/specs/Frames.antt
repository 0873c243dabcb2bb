-- Forms with FORMs within, by what stands before these; and what reading so far answers and leaves in the cells and values.
use Rattle.std.specs.Prelude.{ℕ, ◌+◌, ◌-◌, ◌<◌, ◌≤◌, ◌≡◌, List, [], ◌∷◌, true, cond, eqb, ℤ, Result, Ok, Err}
use Rattle.model.specs.declared.Fault.{Fault}
use Rattle.model.specs.Paths.{Path}
use Rattle.model.specs.Shapes.{Upper, Shape, conj, disj, neg, count, for_all}
use Rattle.model.specs.Books.{Book}
use Rattle.model.specs.Sizes.{path_entries}
use Rattle.model.specs.Limits.{max_forms, max_paths}
use Rattle.tables.specs.Codes as codes
use Rattle.encoding.specs.Flatten.{upper_number}
use Rattle.grammar.specs.Syntax.{Slot, Args, path, form}
use Rattle.grammar.specs.Reading.{Read, Readers, Begun, after}
use Rattle.stores.specs.Entries.{put_form, path_cells}
use Rattle.itemreader.specs.Answers.{rest_at}
use Rattle.leafreader.specs.declared.Ended.{Ended}
use Rattle.leafreader.specs.Forms.{FormRead, FormsWithin}
use Rattle.formreader.specs.declared.Front.{Front}
use Rattle.formreader.specs.declared.Opening.{Opening}

-- count with LO and HI; all
pub data Quantifier : Type 0 where
  times : ℕ → Upper → Quantifier
  every : Quantifier

abbrev pub quantify : Quantifier → Path → Shape → Shape
quantify (times lo hi) e φ = count lo hi e φ
quantify every e φ = for_all e φ

-- the code of its entry, and the operands LO and HI
abbrev pub code_of : Quantifier → ℕ
code_of (times lo hi) = codes.form_count
code_of every = codes.form_all

abbrev pub low_of : Quantifier → ℕ
low_of (times lo hi) = lo
low_of every = 0

abbrev pub high_of : Quantifier → ℕ
high_of (times lo hi) = upper_number hi
high_of every = 0

-- a form but for the FORMs within it: and, or, not; count and all with their PATH
pub data Frame : Type 0 where
  both either negated : Frame
  along : Quantifier → Path → Frame

-- the FORMs within, and the form that they make
abbrev pub slots_of : Frame → List Slot
slots_of both = form ∷ form ∷ []
slots_of either = form ∷ form ∷ []
slots_of negated = form ∷ []
slots_of (along q e) = form ∷ []

abbrev pub shape_of : (f : Frame) → Args (slots_of f) → Shape
shape_of both xs = conj xs.0 xs.1.0
shape_of either xs = disj xs.0 xs.1.0
shape_of negated xs = neg xs.0
shape_of (along q e) xs = quantify q e xs.0

-- what the code holds of a frame that ends at a position, where n path entries have ended before it
abbrev pub front_of : ℕ → Frame → ℕ → Front
front_of n both next = record { code = codes.form_and; low = 0; high = 0; path = 0; paths = n; next = next }
front_of n either next = record { code = codes.form_or; low = 0; high = 0; path = 0; paths = n; next = next }
front_of n negated next = record { code = codes.form_not; low = 0; high = 0; path = 0; paths = n; next = next }
front_of n (along q e) next = record { code = code_of q; low = low_of q; high = high_of q; path = n + path_entries e - 1; paths = n + path_entries e; next = next }

-- what has begun with a frame
abbrev pub begun_with : Frame → Begun → Begun
begun_with both b = b
begun_with either b = b
begun_with negated b = b
begun_with (along q e) b = after path e b

-- its path entries in the cells
abbrev pub frame_cells : ℕ → Frame → List ℕ → List ℕ
frame_cells n both cs = cs
frame_cells n either cs = cs
frame_cells n negated cs = cs
frame_cells n (along q e) cs = path_cells n e cs

-- x is what follows the frame that front holds
pub record Fronted (s : List ℕ) (a : Book) (R : Readers) (b : Begun) (x : Read Shape) (n : ℕ) (cs cs' : List ℕ) (vs vs' : List ℤ) (front : Front) : Type 0 where
  pub frame : Frame
  pub holds : front ≡ front_of n frame front.next
  pub rest : x ≡ rest_at s a R true (slots_of frame) (shape_of frame) (begun_with frame b) front.next
  pub cells : cs' ≡ frame_cells n frame cs
  pub values : vs' ≡ vs

-- the answer r and the tables after opening x
abbrev pub OpenRead : List ℕ → Book → Readers → Begun → Read Shape → Begun → List ℕ → List ℕ → List ℤ → List ℤ → Result Opening Fault → Type 0
OpenRead s a R b x n cs cs' vs vs' (Err f) = FormRead x n cs cs' vs vs' (Err f)
OpenRead s a R b x n cs cs' vs vs' (Ok (Opening.Whole m next)) = FormRead x n cs cs' vs vs' (Ok (m, next))
OpenRead s a R b x n cs cs' vs vs' (Ok (Opening.Part front)) = Fronted s a R b x n.paths cs cs' vs vs' front

-- a form within its limits; or, where one is open, a bracket to open, room for its entry, and a position in a text of a length
abbrev pub Opened : ℕ → ℕ → ℕ → Ended → Result Opening Fault → Type 0
Opened left up len n (Err f) = Unit {0}
Opened left up len n (Ok (Opening.Whole m next)) = FormsWithin n.forms up len (Ok (m, next))
Opened left up len n (Ok (Opening.Part front)) = (0 < left) × (n.forms + up < max_forms) × (front.paths ≤ max_paths) × (front.next ≤ len)

-- the entry of a form with one FORM within, which ended right before it
abbrev pub put_child : Front → ℕ → List ℕ → List ℕ
put_child front e cs = put_form e front.code (cond (eqb front.code codes.form_not) (e - 1) front.path) (cond (eqb front.code codes.form_not) 0 (e - 1)) front.low front.high cs
