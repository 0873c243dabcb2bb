use mathlib.Core.Path.{sym, ◌∙◌}
use Prim.Native.Nat.{◌+◌}
use lib.Dec.{eqb}
use Rattle.itemreader.specs.Words.{words_in}
use Rattle.itemreader.proofs.Items.{item-within}
use Rattle.itemreader.proofs.Heads.{words_counted, found_part, head-bare, head-unknown, head_deep, head-full, head-word, head-within}
use Rattle.itemreader.proofs.read_head.Goals as goal

pub returns-then-byte-ne40-clause-value : goal.returns-then-byte-ne40-clause-value
returns-then-byte-ne40-clause-value c =
    let s = c.args in
    sym (head-bare s.book.now (words_in s.family) (eqb s.left 0) s.full s.at (λ e. c.if-byte-ne40.true (c.byte.ensures ∙ e)))

pub slice_bounds-keyword-count : goal.slice_bounds-keyword-count
slice_bounds-keyword-count c =
    (item-within c.args.book.now c.args.at c.item_end-end.result 39 (sym c.byte.ensures ∙ c.if-byte-ne40.false) c.item_end-end.ensures).0

pub slice_bounds-keyword-start : goal.slice_bounds-keyword-start
slice_bounds-keyword-start c =
    (item-within c.args.book.now c.args.at c.item_end-end.result 39 (sym c.byte.ensures ∙ c.if-byte-ne40.false) c.item_end-end.ensures).0

pub slice_bounds-keyword-end : goal.slice_bounds-keyword-end
slice_bounds-keyword-end c =
    (item-within c.args.book.now c.args.at c.item_end-end.result 39 (sym c.byte.ensures ∙ c.if-byte-ne40.false) c.item_end-end.ensures).1

pub returns-in_default-clause-value : goal.returns-in_default-clause-value
returns-in_default-clause-value c =
    let s = c.args in
    let z = sym c.byte.ensures ∙ c.if-byte-ne40.false in
    sym (head-unknown s.book.now (words_in s.family) s.at c.item_end-end.result z c.item_end-end.ensures (eqb s.left 0) s.full (found_part (words_in s.family) s.book.now (s.at + 1) c.item_end-end.result (item-within s.book.now s.at c.item_end-end.result 39 z c.item_end-end.ensures).0 c.keyword.ensures c.in_default.is))

pub returns-then-left-eq0-clause-value : goal.returns-then-left-eq0-clause-value
returns-then-left-eq0-clause-value c =
    let s = c.args in
    let z = sym c.byte.ensures ∙ c.if-byte-ne40.false in
    sym (head_deep s.book.now (words_in s.family) s.at c.item_end-end.result z c.item_end-end.ensures c.in-Some.k (found_part (words_in s.family) s.book.now (s.at + 1) c.item_end-end.result (item-within s.book.now s.at c.item_end-end.result 39 z c.item_end-end.ensures).0 c.keyword.ensures c.in-Some.is) s.left s.full c.if-left-eq0.true)

pub returns-then-full-clause-value : goal.returns-then-full-clause-value
returns-then-full-clause-value c =
    let s = c.args in
    let z = sym c.byte.ensures ∙ c.if-byte-ne40.false in
    sym (head-full s.book.now (words_in s.family) s.at c.item_end-end.result z c.item_end-end.ensures c.in-Some.k (found_part (words_in s.family) s.book.now (s.at + 1) c.item_end-end.result (item-within s.book.now s.at c.item_end-end.result 39 z c.item_end-end.ensures).0 c.keyword.ensures c.in-Some.is) s.left s.full c.if-left-eq0.false c.if-full.true)

pub returns : goal.returns
returns c =
    let s = c.args in
    let z = sym c.byte.ensures ∙ c.if-byte-ne40.false in
    let e = head-word s.book.now (words_in s.family) s.at c.item_end-end.result z c.item_end-end.ensures c.in-Some.k (found_part (words_in s.family) s.book.now (s.at + 1) c.item_end-end.result (item-within s.book.now s.at c.item_end-end.result 39 z c.item_end-end.ensures).0 c.keyword.ensures c.in-Some.is) s.left s.full c.if-left-eq0.false c.if-full.false in
    record { value = sym e; headed = rw (e, words_counted s.family) at (head-within s.book.now (words_in s.family) s.left s.full s.at c.requires) }
