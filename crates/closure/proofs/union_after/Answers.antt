-- `union_after` meets its contract.
use Prim.Native.Nat.{ℕ}
use mathlib.Core.Path.{sym, ap, ◌∙◌}
use Rattle.nodeset.specs.Words.{words_of}
use Rattle.closure.specs.Closing.{union_of}
use Rattle.closure.proofs.union_after.Goals as goal

pub returns-then-x-last : goal.returns-then-x-last
returns-then-x-last c = let a = c.args in c.requires.0 ∙ ap (λ (y : ℕ). words_of (union_of a.from.now a.j y) 16) (sym c.if-x-last.true)
