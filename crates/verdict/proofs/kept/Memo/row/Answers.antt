-- `row` meets its contract: the memo from a word on.
use Prim.Native.Nat.{ℕ, ◌-◌}
use mathlib.Core.Path.{sym, ap, ◌∙◌}
use lib.ListN.{take, drop}
use Rattle.nodeset.specs.Words.{has, words_of}
use Rattle.verdict.proofs.Memo.{row_words}
use Rattle.verdict.proofs.kept.Memo.row.Goals as goal

pub returns : goal.returns
returns c =
    let ws = c.args.self.now.words in
    let at = c.args.at in
    row_words ws at (c.load.ensures ∙ ap (λ (n : ℕ). words_of (has (take (n - at) (drop at ws))) 16) (sym c.args.self.now.size))
