-- What document 01 says of each refusal, and document 02 of the eleventh: its number, and its line (0 for 1 and from 8 on).
use Rattle.std.specs.Prelude.{ℕ, ◌-◌, [], ◌∷◌, get_or}
use Rattle.model.specs.declared.Refusal.{Refusal}
use Rattle.model.specs.declared.Fault.{Fault}
use Rattle.model.specs.declared.Refusal.TheVariants.{TooLong, Grammar, Range, Nesting, Undefined, Repeated, Limit, Short, Malformed, Absent, Console}

abbrev pub code_of : Refusal → ℕ
code_of TooLong = 1
code_of (Grammar at) = 2
code_of (Range at) = 3
code_of (Nesting at) = 4
code_of (Undefined at) = 5
code_of (Repeated at) = 6
code_of (Limit at) = 7
code_of Short = 8
code_of Malformed = 9
code_of Absent = 10
code_of Console = 11

abbrev pub line_of : Refusal → ℕ
line_of TooLong = 0
line_of (Grammar at) = at
line_of (Range at) = at
line_of (Nesting at) = at
line_of (Undefined at) = at
line_of (Repeated at) = at
line_of (Limit at) = at
line_of Short = 0
line_of Malformed = 0
line_of Absent = 0
line_of Console = 0

-- the fault of a line by the number of its refusal, from 2 to 7; what reads a line gives no other
abbrev pub fault_of : ℕ → Fault
fault_of k = get_or (Fault.Grammar ∷ Fault.Range ∷ Fault.Nesting ∷ Fault.Undefined ∷ Fault.Repeated ∷ []) (k - 2) Fault.Limit

-- the refusal of a line with the fault
abbrev pub refusal_at : Fault → ℕ → Refusal
refusal_at Fault.Grammar at = Grammar at
refusal_at Fault.Range at = Range at
refusal_at Fault.Nesting at = Nesting at
refusal_at Fault.Undefined at = Undefined at
refusal_at Fault.Repeated at = Repeated at
refusal_at Fault.Limit at = Limit at
