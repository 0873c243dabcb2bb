use Prim.Native.Nat.{◌-◌}
use mathlib.Core.Path.{sym, ◌∙◌}
use lib.ListN.{take, drop}
use Rattle.std.proofs.Common.{rules}
use Rattle.std.proofs.lemmas.Iterator.{YieldsList-from_slice}
use Rattle.std.proofs.lemmas.Iterator.Search.{all_from_yields_List}
use Rattle.text.specs.Items.{name_byte}
use Rattle.text.proofs.Items.{is_name-none, is_name-long, is_name-all}
use Rattle.text.proofs.Parts.{part-all}
use Rattle.text.proofs.is_name.Goals as goal

pub returns-then-end-at : goal.returns-then-end-at
returns-then-end-at c =
    sym (is_name-none c.args.book.now c.args.at c.args.end c.requires.1 c.if-end-at.true)

pub returns-then-end-at-gt-MAX_NAME : goal.returns-then-end-at-gt-MAX_NAME
returns-then-end-at-gt-MAX_NAME c =
    sym (is_name-long c.args.book.now c.args.at c.args.end c.requires.1 c.if-end-at-gt-MAX_NAME.true)

pub returns : goal.returns
returns c =
    let a = c.args in
    all_from_yields_List name_byte _ _ c.all.result c.all.ensures.ran (YieldsList-from_slice (take (a.end - a.at) (drop a.at a.book.now)) c.iter.ensures.rest) (λ x b q k. search rules)
    ∙ part-all name_byte a.book.now a.at a.end c.requires.0
    ∙ sym (is_name-all a.book.now a.at a.end c.requires.1 c.requires.0 c.if-end-at.false c.if-end-at-gt-MAX_NAME.false)
