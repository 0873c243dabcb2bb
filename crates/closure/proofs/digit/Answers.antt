-- `digit` meets its contract.
use native.Mathlib.Omega.{arith}
use lib.Count.{trailing_le}
use Rattle.closure.proofs.Digits.{low_digit, high_digit, leading_less}
use Rattle.closure.proofs.digit.Goals as goal

pub overflow_cast-result : goal.overflow_cast-result
overflow_cast-result c = omega (arith, trailing_le 64 c.args.x)

pub returns-then-low : goal.returns-then-low
returns-then-low c = low_digit c.args.x c.requires (omega arith)

pub overflow_cast-result-2 : goal.overflow_cast-result-2
overflow_cast-result-2 c = omega (arith, leading_less c.args.x c.requires (omega arith))

pub overflow_sub-result : goal.overflow_sub-result
overflow_sub-result c = omega (arith, leading_less c.args.x c.requires (omega arith))

pub returns : goal.returns
returns c = high_digit c.args.x c.requires (omega arith)
