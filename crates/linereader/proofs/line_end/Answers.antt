use mathlib.Core.Path.{sym, ◌∙◌}
use borrow.Author.Tests.{not-true, not-false}
use Rattle.linereader.proofs.Bodies.{end_open, end-full, end_missing, end_got}
use Rattle.linereader.proofs.line_end.Goals as goal

pub returns-then-byte-ne41 : goal.returns-then-byte-ne41
returns-then-byte-ne41 c =
    let s = c.args in
    λ a l. rw (end_open s.book.now a s.room l s.at (λ e. c.if-byte-ne41.true (c.byte.ensures ∙ e)))

pub returns-then-not-room : goal.returns-then-not-room
returns-then-not-room c =
    let s = c.args in
    λ a l. rw (end-full s.book.now a s.room l s.at (sym c.byte.ensures ∙ c.if-byte-ne41.false) (not-true _ c.if-not-room.true-raw))

pub returns-then-byte-ne10 : goal.returns-then-byte-ne10
returns-then-byte-ne10 c =
    let s = c.args in
    λ a l. rw (end_missing s.book.now a s.room l s.at (sym c.byte.ensures ∙ c.if-byte-ne41.false) (not-false _ c.if-not-room.false-raw) (λ e. c.if-byte-ne10.true (c.byte-2.ensures ∙ e)))

pub returns : goal.returns
returns c =
    let s = c.args in
    λ a l. rw (end_got s.book.now a s.room l s.at (sym c.byte.ensures ∙ c.if-byte-ne41.false) (not-false _ c.if-not-room.false-raw) (sym c.byte-2.ensures ∙ c.if-byte-ne10.false))
