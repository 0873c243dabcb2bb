use mathlib.Core.Path.{sym, ◌∙◌}
use native.Mathlib.Omega.{arith}
use Rattle.text.proofs.Decimals.{number-none, number-minus, number-plain}
use Rattle.text.proofs.number_at.Goals as goal

pub returns-then-at-end : goal.returns-then-at-end
returns-then-at-end c =
    sym (number-none c.args.book.now c.args.at c.args.end c.requires.1 c.if-at-end.true)

pub returns-then-byte-eq45 : goal.returns-then-byte-eq45
returns-then-byte-eq45 c =
    c.negative.ensures ∙ sym (number-minus c.args.book.now c.args.at c.args.end c.requires.1 (omega arith) (sym c.byte.ensures ∙ c.if-byte-eq45.true))

pub returns : goal.returns
returns c =
    c.positive.ensures ∙ sym (number-plain c.args.book.now c.args.at c.args.end c.requires.1 (omega arith) (λ e. c.if-byte-eq45.false (c.byte.ensures ∙ e)))
