-- Decimals: how a number is written, and what a text is read as.
use Rattle.std.specs.Prelude.{ℕ, zero, suc, ◌+◌, ◌-◌, ◌*◌, ◌/◌, ◌%◌, ◌^◌, List, [], ◌∷◌, ◌++◌, Bool, true, false, not, cond, ◌&&◌, ◌||◌, length, get_or, drop, ltb, leb, eqb, ℤ, pos, negsuc, neg_ℤ}
use Rattle.base.specs.Lists.{allb}
use Rattle.text.specs.Items.{is_between}
use Rattle.model.specs.Limits.{max_count}
use Rattle.model.specs.declared.Fault.{Fault}
use Rattle.std.specs.Prelude.{Result, Ok, Err}
use Rattle.text.specs.declared.NumberError.{NumberError}
use Rattle.text.specs.declared.NumberError.TheVariants.{Malformed, Range}

-- ---- writing
-- the decimal digits of n, where k is above n, by whether n has one digit
unfoldable pub digits_of : ℕ → Bool → ℕ → List ℕ
digits_of zero one n = []
digits_of (suc k) true n = (48 + n) ∷ []
digits_of (suc k) false n = digits_of k (ltb (n / 10) 10) (n / 10) ++ ((48 + n % 10) ∷ [])

-- a number in decimal digits
unfoldable pub decimal : ℕ → List ℕ
decimal n = digits_of (suc n) (ltb n 10) n

-- with a minus below zero
unfoldable pub signed : ℤ → List ℕ
signed (pos n) = decimal n
signed (negsuc n) = 45 ∷ decimal (suc n)

-- ---- reading
unfoldable pub digit : ℕ → Bool
digit b = is_between 48 57 b

-- the number that decimal digits write, after v
unfoldable pub value_from : ℕ → List ℕ → ℕ
value_from v [] = v
value_from v (d ∷ s) = value_from (v * 10 + (d - 48)) s

-- decimal digits without a leading zero
unfoldable pub is_mag : List ℕ → Bool
is_mag s = ltb 0 (length s) && (allb digit s && (not (eqb (get_or s 0 0) 48) || eqb (length s) 1))

unfoldable pub positive_of : List ℕ → Result ℤ NumberError
positive_of s =
    cond (is_mag s)
    (cond (ltb (value_from 0 s) (2 ^ 63)) (Ok (pos (value_from 0 s))) (Err Range))
    (Err Malformed)

-- what stands after a minus; it is not 0
unfoldable pub negative_of : List ℕ → Result ℤ NumberError
negative_of s =
    cond (is_mag s && not (eqb (value_from 0 s) 0))
    (cond (leb (value_from 0 s) (2 ^ 63)) (Ok (neg_ℤ (pos (value_from 0 s)))) (Err Range))
    (Err Malformed)

-- a signed decimal of the 64-bit range: no plus, no leading zero, no -0
unfoldable pub number_of : List ℕ → Result ℤ NumberError
number_of s = cond (eqb (get_or s 0 0) 45) (negative_of (drop 1 s)) (positive_of s)

-- the bound of a count: an unsigned decimal without a leading zero, up to 1,024
unfoldable pub bound_of : List ℕ → Result ℕ NumberError
bound_of s = cond (is_mag s) (cond (leb (value_from 0 s) max_count) (Ok (value_from 0 s)) (Err Range)) (Err Malformed)

-- decimal digits without a leading zero by their value, as far as 64 bits hold it digit by digit
unfoldable pub mag_of : List ℕ → Result ℕ NumberError
mag_of s = cond (is_mag s) (cond (ltb (value_from 0 s) (10 ^ 19)) (Ok (value_from 0 s)) (Err Range)) (Err Malformed)

-- why a line with such an item in place of a number is refused
abbrev pub number_fault : NumberError → Fault
number_fault Malformed = Fault.Grammar
number_fault Range = Fault.Range
