use Rattle.model.proofs.Refusals.{code_range}
use native.Mathlib.Omega.{arith}
use Rattle.melivanoup.proofs.number.Goals as goal

pub overflow_cast-result : goal.overflow_cast-result
overflow_cast-result c = record { fits = omega (arith, c.code.ensures, code_range c.args.r) }
