use Prim.Native.Nat.{◌+◌}
use mathlib.Core.Path.{refl, sym, ◌∙◌}
use native.Mathlib.Omega.{arith}
use native.Mathlib.Nat.{add-zero}
use Rattle.grammar.specs.Syntax.{path}
use Rattle.grammar.specs.Reading.{arg_at, readers_at}
use Rattle.itemreader.proofs.Items.{item-within}
use Rattle.pathreader.proofs.Paths.{done_no, done_is, end_unspaced, end_self, end-along, self_read, along_read, grown-less}
use Rattle.pathreader.proofs.read_end.Goals as goal

pub returns-then-byte-ne32 : goal.returns-then-byte-ne32
returns-then-byte-ne32 c =
    let s = c.args in
    record { end_read = λ a h b q. done_no 2 (end_unspaced s.book.now a (readers_at s.book.now a s.left) b s.at (λ e. c.if-byte-ne32.true (c.byte.ensures ∙ e))) refl; grown = tt; cells_unchanged = refl }

pub is_word-requires : goal.is_word-requires
is_word-requires c =
    let s = c.args in
    item-within s.book.now s.at c.item_end-end.result 31 (sym c.byte.ensures ∙ c.if-byte-ne32.false) c.item_end-end.ensures

pub returns-then-is_word : goal.returns-then-is_word
returns-then-is_word c =
    let s = c.args in
    let stop = c.item_end-end in
    let z = sym c.byte.ensures ∙ c.if-byte-ne32.false in
    let i = (item-within s.book.now s.at stop.result 31 z stop.ensures).1 in record { end_read = λ a h b q. done_is (end_self s.book.now a (readers_at s.book.now a s.left) b s.at z stop.result stop.ensures (sym c.is_word.ensures ∙ c.if-is_word.true)) (self_read s.n stop.result s.cells.now); grown = (omega arith, omega arith, i); cells_unchanged = refl }

pub returns : goal.returns
returns c =
    let s = c.args in
    let stop = c.item_end-end in
    let z = sym c.byte.ensures ∙ c.if-byte-ne32.false in
    record { end_read = λ a h b q. done_is (end-along s.book.now a (readers_at s.book.now a s.left) b s.at z stop.result stop.ensures (sym c.is_word.ensures ∙ c.if-is_word.false)) (along_read (arg_at s.book.now a (readers_at s.book.now a s.left) path b s.at) s.n s.cells.now c.read_path.new.cells c.read_path.result (c.read_path.ensures.path_read a h b (q ∙ sym (add-zero s.n)))); grown = grown-less (s.n + 1) s.n 0 _ c.read_path.result (omega arith) c.read_path.ensures.grown; cells_unchanged = c.read_path.ensures.cells_unchanged }
