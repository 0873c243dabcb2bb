use Prim.Native.Nat.{ℕ}
use mathlib.Core.Path.{ap, ◌∙◌}
use mathlib.Core.List.{List}
use Rattle.text.specs.Pool.{index_of}
use Rattle.text.proofs.Same.{word_place}
use Rattle.itemreader.proofs.words.keyword.Goals as goal

pub returns : goal.returns
returns c =
    let w = c.args.word.now in
    c.find_word.ensures ∙ word_place c.words.result.now w ∙ ap (λ (ws : List (List ℕ)). index_of ws w) c.words.ensures
