-- `next_shared` meets its contract: the digits of ANDed words.
use Prim.Native.Nat.{ℕ}
use mathlib.Core.Bool.{Bool, ◌&&◌}
use mathlib.Core.Path.{◌≡◌, ap, ◌∙◌}
use lib.Bits.{bit_and}
use borrow.Author.Rules.{rules}
use Rattle.nodeset.specs.Words.{bit}
use Rattle.nodeset.proofs.Bits.{bit-bit_and}
use Rattle.nodeset.proofs.next_shared.Goals as goal

pub returns : goal.returns
returns c =
    c.next_kept.ensures (λ (x y : Bool). x && y)
    (λ x y r e k. let made : r ≡ bit_and x y = search rules in ap (λ (z : ℕ). bit z k) made ∙ bit-bit_and x y k)
