use mathlib.Core.Path.{sym}
use lib.ListN.{get_or-eq_default}
use Rattle.text.proofs.byte.Goals as goal

pub returns-else-at-book : goal.returns-else-at-book
returns-else-at-book c = sym (get_or-eq_default c.args.book.now 0 c.if-at-book.false)
