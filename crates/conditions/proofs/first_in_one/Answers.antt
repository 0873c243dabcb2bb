-- `first_in_one` meets its contract: the lower of the two numbers that the searches find.
use mathlib.Core.Path.{sym}
use native.Mathlib.Omega.{arith}
use Rattle.nodeset.specs.Words.{has}
use Rattle.conditions.proofs.Sides.{first-within, second-within, side_second, side_first, side_none}
use Rattle.conditions.proofs.first_in_one.Goals as goal

pub overflow_cast-result : goal.overflow_cast-result
overflow_cast-result c = let a = c.args in omega (arith, c.if-x-y.true, c.requires, second-within (has a.a.now) (has a.b.now) a.n c.next_outside-x.result c.next_outside-y.result c.next_outside-x.ensures c.next_outside-y.ensures)

pub returns-then-x-y : goal.returns-then-x-y
returns-then-x-y c = let a = c.args in sym (side_second (has a.a.now) (has a.b.now) a.n c.next_outside-x.result c.next_outside-y.result c.next_outside-x.ensures c.next_outside-y.ensures c.if-x-y.true)

pub overflow_cast-result-then-y-x : goal.overflow_cast-result-then-y-x
overflow_cast-result-then-y-x c = let a = c.args in omega (arith, c.if-y-x.true, c.requires, first-within (has a.a.now) (has a.b.now) a.n c.next_outside-x.result c.next_outside-y.result c.next_outside-x.ensures c.next_outside-y.ensures)

pub returns-then-y-x : goal.returns-then-y-x
returns-then-y-x c = let a = c.args in sym (side_first (has a.a.now) (has a.b.now) a.n c.next_outside-x.result c.next_outside-y.result c.next_outside-x.ensures c.next_outside-y.ensures c.if-y-x.true)

pub returns : goal.returns
returns c = let a = c.args in sym (side_none (has a.a.now) (has a.b.now) a.n c.next_outside-x.result c.next_outside-y.result c.next_outside-x.ensures c.next_outside-y.ensures c.if-x-y.false c.if-y-x.false)
