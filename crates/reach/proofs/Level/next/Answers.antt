-- `Level::next` meets its contract.
use mathlib.Core.List.{List}
use mathlib.Core.Path.{ap, ◌∙◌}
use Prim.Native.Nat.{ℕ}
use Rattle.nodeset.specs.Words.{union, difference}
use Rattle.reach.proofs.Level.next.Goals as goal

pub returns : goal.returns
returns c =
    let before = c.args.self.reached.words in
    let found = c.image-found.ensures in
    record { words_value = c.union.ensures ∙ ap (union before) found; words_value_2 = c.difference.ensures ∙ ap (λ (ws : List ℕ). difference ws before) found }
