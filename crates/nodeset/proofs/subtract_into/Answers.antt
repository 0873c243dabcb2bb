-- `subtract_into` meets its contract: the digits of the first word without those of the second.
use Prim.Native.Nat.{ℕ}
use mathlib.Core.Bool.{Bool, not, ◌&&◌}
use mathlib.Core.Path.{◌≡◌, ap, ◌∙◌}
use lib.Bits.{bit_and, bit_xor}
use borrow.Author.Rules.{rules}
use Rattle.nodeset.specs.Words.{bit, difference}
use Rattle.nodeset.proofs.Bits.{bit_without}
use Rattle.nodeset.proofs.subtract_into.Goals as goal

pub returns : goal.returns
unfolding difference
returns c =
    c.combine_into.ensures (λ (x y : Bool). x && not y)
    (λ x y r e k. let made : r ≡ bit_xor x (bit_and x y) = search rules in ap (λ (z : ℕ). bit z k) made ∙ bit_without x y k)
