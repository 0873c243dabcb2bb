-- An operation on two words that goes digit by digit.
use Rattle.std.specs.Prelude.{Bool, ℕ, ◌≡◌}
use Rattle.nodeset.specs.Words.{bit}

-- each digit of what the operation makes of two words is kept by their digits there; post x y r: it makes r of x and y
abbrev pub DigitByDigit : (Bool → Bool → Bool) → (ℕ → ℕ → ℕ → Type 0) → Type 0
DigitByDigit keeps post = (x y r : ℕ) → post x y r → (k : ℕ) → bit r k ≡ keeps (bit x k) (bit y k)
