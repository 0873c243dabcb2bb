-- `unsettled` meets its contract: two rows of the memo are taken away.
use mathlib.Core.Path.{◌≡◌}
use lib.ListN.{length}
use Rattle.nodeset.specs.Words.{has}
use Rattle.verdict.specs.Memo.{yes_place, no_place}
use Rattle.verdict.proofs.Memo.{unsettled_words}
use borrow.Author.Rules.{rules}
use Rattle.verdict.proofs.kept.Memo.unsettled.Goals as goal

pub returns : goal.returns
returns c =
    let a = c.args in
    let l : length a.want.words ≡ 16 = search rules in
    unsettled_words a.want.words (λ v. has a.self.now.words (yes_place a.e v)) (λ v. has a.self.now.words (no_place a.e v)) l c.row-yes.ensures c.row-no.ensures c.difference-rest.ensures c.difference.ensures
