-- `next_member` meets its contract: a set with itself is that set.
use Prim.Native.Nat.{ℕ}
use mathlib.Core.List.{List}
use mathlib.Core.Bool.{Bool, true, false, ◌||◌}
use mathlib.Core.Path.{◌≡◌, refl, ap, ◌∙◌}
use lib.Bits.{bit_or}
use borrow.Author.Rules.{rules}
use Rattle.base.specs.Least.{next_from}
use Rattle.base.proofs.Least.{next_ext}
use Rattle.nodeset.specs.Words.{bit, has}
use Rattle.nodeset.proofs.Bits.{bit-bit_or}
use Rattle.nodeset.proofs.next_member.Goals as goal

or_itself : (b : Bool) → (b || b) ≡ b
or_itself true = refl
or_itself false = refl

itself : (ws : List ℕ) (i n : ℕ) {r : ℕ} → r ≡ next_from (λ m. has ws m || has ws m) i n → r ≡ next_from (has ws) i n
itself ws i n e = e ∙ next_ext (λ m. has ws m || has ws m) (has ws) i n (λ m _. or_itself (has ws m))

pub returns : goal.returns
returns c =
    itself c.args.words.now c.args.from c.args.n
    (c.next_kept.ensures (λ (x y : Bool). x || y)
    (λ x y r e k. let made : r ≡ bit_or x y = search rules in ap (λ (z : ℕ). bit z k) made ∙ bit-bit_or x y k))
