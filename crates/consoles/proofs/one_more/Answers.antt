-- `one_more` meets its contract.
use native.Mathlib.Omega.{arith}
use borrow.Author.Rules.{rules}
use Rattle.consoles.proofs.Counting.{saturates}
use Rattle.consoles.proofs.one_more.Goals as goal

pub returns : goal.returns
returns c = saturates c.args.tally (search rules) (omega arith)
