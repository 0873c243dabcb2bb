-- A refusal is known by its number and its line.
use Prim.Native.Nat.{ℕ, zero, suc, ◌≤◌}
use mathlib.Core.Path.{◌≡◌, refl, ap}
use native.Mathlib.Omega.{arith}
use Rattle.model.specs.declared.Refusal.{Refusal}
use Rattle.model.specs.declared.Refusal.TheVariants.{TooLong, Grammar, Range, Nesting, Undefined, Repeated, Limit, Short, Malformed, Absent, Console}
use Rattle.model.specs.Refusals.{code_of, fault_of, refusal_at}
use Rattle.model.specs.Answers.{Answer, refusal, refusal_of, refusal_number}

-- there are eleven numbers
pub code_range : (r : Refusal) → (1 ≤ code_of r) × (code_of r ≤ 11)
code_range TooLong = (omega arith, omega arith)
code_range (Grammar at) = (omega arith, omega arith)
code_range (Range at) = (omega arith, omega arith)
code_range (Nesting at) = (omega arith, omega arith)
code_range (Undefined at) = (omega arith, omega arith)
code_range (Repeated at) = (omega arith, omega arith)
code_range (Limit at) = (omega arith, omega arith)
code_range Short = (omega arith, omega arith)
code_range Malformed = (omega arith, omega arith)
code_range Absent = (omega arith, omega arith)
code_range Console = (omega arith, omega arith)

-- the fault of a line by the number of its refusal: the refusal with that number, at any line
pub fault_refusal : {A : Type 0} (k line : ℕ) → 2 ≤ k → k ≤ 7 → ◌≡◌ {A = Answer A} (refusal_of (refusal_at (fault_of k) line)) (refusal k line)
fault_refusal zero line l h = absurd (omega arith)
fault_refusal (suc zero) line l h = absurd (omega arith)
fault_refusal (suc (suc zero)) line l h = refl
fault_refusal (suc (suc (suc zero))) line l h = refl
fault_refusal (suc (suc (suc (suc zero)))) line l h = refl
fault_refusal (suc (suc (suc (suc (suc zero))))) line l h = refl
fault_refusal (suc (suc (suc (suc (suc (suc zero)))))) line l h = refl
fault_refusal (suc (suc (suc (suc (suc (suc (suc zero))))))) line l h = refl
fault_refusal (suc (suc (suc (suc (suc (suc (suc (suc k)))))))) line l h = absurd (omega arith)

pub fault_code : (k line : ℕ) → 2 ≤ k → k ≤ 7 → code_of (refusal_at (fault_of k) line) ≡ k
fault_code k line l h = ap (refusal_number {A = ℕ}) (fault_refusal k line l h)
