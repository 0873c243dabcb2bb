-- `union_into` meets its contract: the digits of ORed words.
use Prim.Native.Nat.{ℕ}
use mathlib.Core.Bool.{Bool, ◌||◌}
use mathlib.Core.Path.{◌≡◌, ap, ◌∙◌}
use lib.Bits.{bit_or}
use borrow.Author.Rules.{rules}
use Rattle.nodeset.specs.Words.{bit, union}
use Rattle.nodeset.proofs.Bits.{bit-bit_or}
use Rattle.nodeset.proofs.union_into.Goals as goal

pub returns : goal.returns
unfolding union
returns c =
    c.combine_into.ensures (λ (x y : Bool). x || y)
    (λ x y r e k. let made : r ≡ bit_or x y = search rules in ap (λ (z : ℕ). bit z k) made ∙ bit-bit_or x y k)
