use mathlib.Core.Path.{ap, ◌∙◌}
use mathlib.Core.List.{List}
use Prim.Native.Nat.{ℕ}
use lib.Dec.{eqb}
use lib.Pointwise.{pointwise}
use lib.Seq.{slice}
use Rattle.text.proofs.Parts.{part_cut}
use Rattle.text.proofs.Same.{pointwise_eql}
use Rattle.text.proofs.is_word.Goals as goal

pub returns : goal.returns
returns c =
    let a = c.args in
    c.eq.ensures
    ∙ ap (λ (w : List ℕ). pointwise eqb w a.word.now) (part_cut a.book.now a.at a.end c.requires.0)
    ∙ pointwise_eql (slice a.at a.end a.book.now) a.word.now
