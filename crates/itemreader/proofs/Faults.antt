-- What the readers answer on a refusal is the fault with the grammar's own number: it gives no number but 2 to 7, each of which has
-- a fault of its own.
use Prim.Native.Nat.{ℕ}
use mathlib.Core.List.{List}
use mathlib.Core.Path.{◌≡◌}
use Rattle.std.specs.Prelude.{ℤ, Result, Ok, Err}
use Rattle.model.specs.Books.{Book}
use Rattle.model.specs.Refusals.{code_of, fault_of, refusal_at}
use Rattle.model.specs.declared.Fault.{Fault}
use Rattle.model.proofs.Refusals.{fault_code}
use Rattle.grammar.specs.Syntax.{Slot, Arg}
use Rattle.grammar.specs.Reading.{Read, got, refused, Begun, Readers, arg_at}
use Rattle.grammar.proofs.Faults.{Numbered, Numbering, arg_numbered}
use Rattle.itemreader.specs.Answers.{Item, Value, item_of, value_of, Reads}

-- a result says a reading: what was read and the position after it; or the number of the refusal, by its fault
abbrev pub Exactly : {A B : Type 0} → (A → B) → Read A → Result (B × ℕ) Fault → Type 0
Exactly f (got x next) r = r ≡ Ok (f x, next)
Exactly f (refused k) r = (e : Fault) × (r ≡ Err e) × ((line : ℕ) → code_of (refusal_at e line) ≡ k)

pub item_exactly : {A : Type 0} (f : A → ℕ) (x : Read A) {r : Item} → Numbered x → r ≡ item_of f x → Exactly f x r
item_exactly f (got x next) N e = e
item_exactly f (refused k) N e = (fault_of k, e, λ line. fault_code k line N.number.0 N.number.1)

pub value_exactly : (x : Read ℤ) {r : Value} → Numbered x → r ≡ value_of x → Exactly (λ y. y) x r
value_exactly (got x next) N e = e
value_exactly (refused k) N e = (fault_of k, e, λ line. fault_code k line N.number.0 N.number.1)

-- the contracts of the readers of items, so read
pub reads_exactly : (s : List ℕ) (a : Book) (k : Slot) (f : Arg k → ℕ) (at : ℕ) {r : Item} → Reads s a k f at r → {R : Readers} → Numbering s a R → (n : Begun) → Exactly f (arg_at s a R k n at) r
reads_exactly s a k f at h {R} N n = item_exactly f (arg_at s a R k n at) (arg_numbered s a N k n at) (h R n)
