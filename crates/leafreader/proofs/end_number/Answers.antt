use borrow.Author.Tests.{eq-eqb, ne_eqb}
use Rattle.leafreader.proofs.end_number.Goals as goal

pub returns-then-after-before : goal.returns-then-after-before
returns-then-after-before c = rw (eq-eqb _ _ c.if-after-before.true)

pub returns-else-after-before : goal.returns-else-after-before
returns-else-after-before c = rw (ne_eqb _ _ c.if-after-before.false)
