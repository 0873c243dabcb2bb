use mathlib.Core.Path.{sym}
use Rattle.text.proofs.Pool.{padded_in, padded_out}
use Rattle.text.proofs.letter.Goals as goal

pub returns-then-j-end : goal.returns-then-j-end
returns-then-j-end c =
    sym (padded_in c.args.book.now c.args.at c.args.end c.requires.1 c.args.j c.if-j-end.true)

pub returns-else-j-end : goal.returns-else-j-end
returns-else-j-end c =
    sym (padded_out c.args.book.now c.args.at c.args.end c.requires.1 c.args.j c.if-j-end.false)
