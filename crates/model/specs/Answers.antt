-- What an operation answers: a value; or a refusal, by document 01's number and line.
use Rattle.std.specs.Prelude.{ℕ, Bool, true, false, cond, Result, Ok, Err}
use Rattle.model.specs.declared.Refusal.{Refusal}
use Rattle.model.specs.Refusals.{code_of, line_of}

pub data Answer (A : Type 0) : Type 0 where
  value : A → Answer A
  -- number and line
  refusal : ℕ → ℕ → Answer A

module _ {A : Type 0} where
  -- the refusal of the code
  abbrev pub refusal_of : Refusal → Answer A
  refusal_of r = refusal (code_of r) (line_of r)

  -- each case of an operation's result: its value, or the refusal
  abbrev pub answer_of : Result A Refusal → Answer A
  answer_of (Ok a) = value a
  answer_of (Err r) = refusal_of r

  -- a value is given, and nothing refused
  abbrev pub is_given : Answer A → Bool
  is_given (value a) = true
  is_given (refusal number line) = false

  -- the refusals by the caller, none of which has a line, in their order: 8 unless what is lent is long enough, 9 unless it is
  -- well formed, 10 unless what is asked for is there; then the answer x
  abbrev pub checked_then : (long formed there : Bool) → Answer A → Answer A
  checked_then long formed there x = cond long (cond formed (cond there x (refusal 10 0)) (refusal 9 0)) (refusal 8 0)

  -- the same where no other refusal follows
  abbrev pub checked : (long formed there : Bool) → A → Answer A
  checked long formed there a = checked_then long formed there (value a)

  -- what stands afterwards in something lent: a refusal changes nothing
  abbrev pub unless_refused : {B : Type 0} → Answer A → (new old : B) → B
  unless_refused x new old = cond (is_given x) new old

  -- the answer with another value
  abbrev pub map_value : {B : Type 0} → (A → B) → Answer A → Answer B
  map_value f (value a) = value (f a)
  map_value f (refusal number line) = refusal number line

  -- ---- in numbers, for callers in C
  -- the number of the refusal, 0 where there is none
  abbrev pub refusal_number : Answer A → ℕ
  refusal_number (value a) = 0
  refusal_number (refusal number line) = number

  -- its line, 0 where it has none or there is no refusal
  abbrev pub refusal_line : Answer A → ℕ
  refusal_line (value a) = 0
  refusal_line (refusal number line) = line

  -- the value, or d where there is none
  abbrev pub value_or : A → Answer A → A
  value_or d (value a) = a
  value_or d (refusal number line) = d
