-- `busy_bit` meets its contract.
use Prim.Native.Nat.{◌%◌}
use mathlib.Core.Path.{sym, ◌∙◌}
use native.Mathlib.Omega.{arith}
use Rattle.base.proofs.Bools.{never_both}
use Rattle.closure.proofs.Digits.{row_empty, shifted-digit}
use Rattle.closure.proofs.busy_bit.Goals as goal

pub returns-then-all_zero : goal.returns-then-all_zero
returns-then-all_zero c = let a = c.args in λ _. row_empty a.rows.now a.v c.requires (sym c.all_zero.ensures ∙ c.if-all_zero.true)

pub returns-else-all_zero : goal.returns-else-all_zero
returns-else-all_zero c = λ h. absurd (never_both (shifted-digit (c.args.v % 64) (omega arith)) h)
