use native.Mathlib.Omega.{arith}
use Rattle.model.proofs.Refusals.{code_range}
use Rattle.melivanoup.proofs.with_line.Goals as goal

pub overflow_cast-result : goal.overflow_cast-result
overflow_cast-result c = record { fits = omega (arith, c.code-k.ensures, code_range c.args.r) }
