-- Whatever is read at a position of a line, a refusal of it has a number from 2 to 7.
use Prim.Native.Nat.{ℕ, zero, suc, ◌+◌, ◌≤◌}
use mathlib.Core.Bool.{Bool, true, false, cond}
use mathlib.Core.List.{List, [], ◌∷◌}
use native.Mathlib.Omega.{arith}
use Rattle.std.specs.Prelude.{ℤ, Option, Some, None, Result, Ok, Err}
use Rattle.text.specs.declared.NumberError.{NumberError}
use Rattle.text.specs.declared.NumberError.TheVariants.{Malformed, Range}
use Rattle.model.specs.Books.{Name, Book, Pool}
use Rattle.grammar.specs.Syntax.{Slot, used, new, subject, literal_type, kind_word, value, low, high, path, end, form, target, list, Family, path_family, form_family, target_family, line_family}
use Rattle.grammar.specs.Reading.{max_within, Read, got, refused, and_then, Begun, after, Readers, known, used_at, subject_at, literal_type_at, unknown, new_at, kind_numbered, kind_at, valued, value_at, bounded, low_at, high_at, list_at, end_at, arg_at, args_at, close_at, body_at, headed, bracket_at, link_at, true_at, deeper, no_readers, readers_at, line_room, line_at}

-- the number of a refusal lies from 2 to 7
abbrev pub InRange : {A : Type 0} → Read A → Type 0
InRange (got x next) = Unit {0}
InRange (refused k) = (2 ≤ k) × (k ≤ 7)

pub record Numbered {A : Type 0} (m : Read A) : Type 0 where
  pub number : InRange m

read : {A : Type 0} {x : A} {next : ℕ} → Numbered (got x next)
read = record { number = tt }

fault : {A : Type 0} (k : ℕ) → (2 ≤ k) × (k ≤ 7) → Numbered {A = A} (refused k)
fault k h = record { number = h }

grammar_fault : {A : Type 0} → Numbered {A = A} (refused 2)
grammar_fault = fault 2 (omega arith, omega arith)

range_fault : {A : Type 0} → Numbered {A = A} (refused 3)
range_fault = fault 3 (omega arith, omega arith)

nesting_fault : {A : Type 0} → Numbered {A = A} (refused 4)
nesting_fault = fault 4 (omega arith, omega arith)

undefined_fault : {A : Type 0} → Numbered {A = A} (refused 5)
undefined_fault = fault 5 (omega arith, omega arith)

repeated_fault : {A : Type 0} → Numbered {A = A} (refused 6)
repeated_fault = fault 6 (omega arith, omega arith)

limit_fault : {A : Type 0} → Numbered {A = A} (refused 7)
limit_fault = fault 7 (omega arith, omega arith)

-- ---- what is put together of readings
pub then_numbered : {A B : Type 0} {m : Read A} {k : A → ℕ → Read B} → Numbered m → ((x : A) (next : ℕ) → Numbered (k x next)) → Numbered (and_then m k)
then_numbered {m = got x next} h g = g x next
then_numbered {m = refused r} h g = record { number = h.number }

pub cond_numbered : {A : Type 0} (b : Bool) {m k : Read A} → Numbered m → Numbered k → Numbered (cond b m k)
cond_numbered true h g = h
cond_numbered false h g = g

module _ (s : List ℕ) (above : Book) where
  -- ---- single items
  known_numbered : (o : Option ℕ) (next : ℕ) → Numbered (known s above o next)
  known_numbered (Some k) next = read
  known_numbered None next = undefined_fault

  used_numbered : (p : Pool) (at : ℕ) → Numbered (used_at s above p at)
  unfolding used_at
  used_numbered p at = cond_numbered _ (known_numbered _ _) grammar_fault

  subject_numbered : (at : ℕ) → Numbered (subject_at s above at)
  unfolding subject_at
  subject_numbered at = then_numbered (used_numbered _ at) (λ v next. cond_numbered _ read grammar_fault)

  literal_type_numbered : (at : ℕ) → Numbered (literal_type_at s above at)
  unfolding literal_type_at
  literal_type_numbered at = then_numbered (used_numbered _ at) (λ t next. cond_numbered _ read grammar_fault)

  unknown_numbered : (o : Option ℕ) (r : Read Name) → Numbered r → Numbered (unknown s above o r)
  unknown_numbered (Some k) r h = repeated_fault
  unknown_numbered None r h = h

  new_numbered : (p : Pool) (at : ℕ) → Numbered (new_at s above p at)
  unfolding new_at
  new_numbered p at = cond_numbered _ (unknown_numbered _ _ (cond_numbered _ read limit_fault)) grammar_fault

  kind_word_numbered : (o : Option ℕ) (next : ℕ) → Numbered (kind_numbered s above o next)
  kind_word_numbered (Some k) next = read
  kind_word_numbered None next = grammar_fault

  kind_at_numbered : (at : ℕ) → Numbered (kind_at s above at)
  unfolding kind_at
  kind_at_numbered at = kind_word_numbered _ _

  valued_numbered : (r : Result ℤ NumberError) (next : ℕ) → Numbered (valued s above r next)
  valued_numbered (Err Malformed) next = grammar_fault
  valued_numbered (Err Range) next = range_fault
  valued_numbered (Ok x) next = read

  value_numbered : (at : ℕ) → Numbered (value_at s above at)
  unfolding value_at
  value_numbered at = valued_numbered _ _

  bounded_numbered : (r : Result ℕ NumberError) (next : ℕ) → Numbered (bounded s above r next)
  bounded_numbered (Err Malformed) next = grammar_fault
  bounded_numbered (Err Range) next = range_fault
  bounded_numbered (Ok x) next = read

  low_numbered : (at : ℕ) → Numbered (low_at s above at)
  unfolding low_at
  low_numbered at = bounded_numbered _ _

  high_numbered : (at : ℕ) → Numbered (high_at s above at)
  unfolding high_at
  high_numbered at = cond_numbered _ read (then_numbered (low_numbered at) (λ n next. read))

  list_numbered : (p : Pool) (room at : ℕ) → Numbered (list_at s above p room at)
  unfolding list_at
  list_numbered p zero at = cond_numbered _ (then_numbered (used_numbered p (at + 1)) (λ k next. limit_fault)) read
  list_numbered p (suc room) at = cond_numbered _ (then_numbered (used_numbered p (at + 1)) (λ k next. then_numbered (list_numbered p room next) (λ ks last. read))) read

  -- ---- what nests
  pub record Numbering (R : Readers) : Type 0 where
    pub paths : (n : Begun) (at : ℕ) → Numbered (R.path_r n at)
    pub forms : (n : Begun) (at : ℕ) → Numbered (R.form_r n at)
    pub targets : (n : Begun) (at : ℕ) → Numbered (R.target_r n at)

  end_numbered : {R : Readers} → Numbering R → (n : Begun) (at : ℕ) → Numbered (end_at s above R n at)
  unfolding end_at
  end_numbered N n at = cond_numbered _ read (then_numbered (N.paths n at) (λ e next. read))

  pub arg_numbered : {R : Readers} → Numbering R → (k : Slot) (n : Begun) (at : ℕ) → Numbered (arg_at s above R k n at)
  unfolding arg_at
  arg_numbered N (used p) n at = cond_numbered _ (used_numbered p (at + 1)) grammar_fault
  arg_numbered N (new p) n at = cond_numbered _ (new_numbered p (at + 1)) grammar_fault
  arg_numbered N subject n at = cond_numbered _ (subject_numbered (at + 1)) grammar_fault
  arg_numbered N literal_type n at = cond_numbered _ (literal_type_numbered (at + 1)) grammar_fault
  arg_numbered N kind_word n at = cond_numbered _ (kind_at_numbered (at + 1)) grammar_fault
  arg_numbered N value n at = cond_numbered _ (value_numbered (at + 1)) grammar_fault
  arg_numbered N low n at = cond_numbered _ (low_numbered (at + 1)) grammar_fault
  arg_numbered N high n at = cond_numbered _ (high_numbered (at + 1)) grammar_fault
  arg_numbered N path n at = cond_numbered _ (N.paths n (at + 1)) grammar_fault
  arg_numbered N end n at = cond_numbered _ (end_numbered N n (at + 1)) grammar_fault
  arg_numbered N form n at = cond_numbered _ (N.forms n (at + 1)) grammar_fault
  arg_numbered N target n at = cond_numbered _ (N.targets n (at + 1)) grammar_fault
  arg_numbered N (list p) n at = list_numbered p _ at

  pub args_numbered : {R : Readers} → Numbering R → (ks : List Slot) (n : Begun) (at : ℕ) → Numbered (args_at s above R ks n at)
  unfolding args_at
  args_numbered N [] n at = read
  args_numbered N (k ∷ ks) n at = then_numbered (arg_numbered N k n at) (λ a next. then_numbered (args_numbered N ks (after k a n) next) (λ xs last. read))

  pub close_numbered : {A : Type 0} (room : Bool) (x : A) (at : ℕ) → Numbered (close_at s above room x at)
  unfolding close_at
  close_numbered room x at = cond_numbered _ (cond_numbered _ read limit_fault) grammar_fault

  module _ {A : Type 0} (F : Family A) {R : Readers} (N : Numbering R) where
    pub body_numbered : (room : F.Code → Bool) (c : F.Code) (n : Begun) (at : ℕ) → Numbered (body_at s above F R room c n at)
    unfolding body_at
    body_numbered room c n at = then_numbered (args_numbered N (F.slots c) n at) (λ xs next. close_numbered (room c) (F.build c xs) next)

    pub headed_numbered : (deep full : Bool) (room : F.Code → Bool) (n : Begun) (o : Option ℕ) (at : ℕ) → Numbered (headed s above F R deep full room n o at)
    headed_numbered deep full room n None at = grammar_fault
    headed_numbered deep full room n (Some k) at = cond_numbered _ nesting_fault (cond_numbered _ limit_fault (body_numbered room _ n at))

    pub bracket_numbered : (deep full : Bool) (room : F.Code → Bool) (bare : Read A) (n : Begun) (at : ℕ) → Numbered bare → Numbered (bracket_at s above F R deep full room bare n at)
    unfolding bracket_at
    bracket_numbered deep full room bare n at h = cond_numbered _ (headed_numbered deep full room n _ _) h

  pub link_numbered : (full : Bool) (at : ℕ) → Numbered (link_at s above full at)
  unfolding link_at
  link_numbered full at = then_numbered (used_numbered _ at) (λ p next. cond_numbered _ limit_fault read)

  pub true_numbered : (full : Bool) (at : ℕ) → Numbered (true_at s above full at)
  unfolding true_at
  true_numbered full at = cond_numbered _ (cond_numbered _ limit_fault read) grammar_fault

  deeper_numbered : (deep : Bool) {R : Readers} → Numbering R → Numbering (deeper s above deep R)
  unfolding deeper
  deeper_numbered deep N =
      record {
        paths = λ n at. bracket_numbered path_family N deep _ _ _ _ at (link_numbered _ at);
        forms = λ n at. bracket_numbered form_family N deep _ _ _ _ at (true_numbered _ at);
        targets = λ n at. bracket_numbered target_family N deep _ _ _ n at grammar_fault;
      }

  pub none_numbered : Numbering (no_readers s above)
  none_numbered = record { paths = λ n at. nesting_fault; forms = λ n at. nesting_fault; targets = λ n at. nesting_fault }

  pub readers_numbered : (left : ℕ) → Numbering (readers_at s above left)
  unfolding readers_at
  readers_numbered zero = deeper_numbered true none_numbered
  readers_numbered (suc left) = deeper_numbered false (readers_numbered left)

  -- ---- lines
  pub line_numbered : (at : ℕ) → Numbered (line_at s above at)
  unfolding line_at
  line_numbered at = then_numbered (bracket_numbered line_family (readers_numbered max_within) false false (line_room s above) _ _ at grammar_fault) (λ l next. cond_numbered _ read grammar_fault)
