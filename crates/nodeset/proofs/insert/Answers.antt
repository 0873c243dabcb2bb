-- `insert` meets its contract, by the law of one more member.
use Prim.Native.Nat.{ℕ, ◌*◌, ◌/◌, ◌%◌, ◌^◌}
use mathlib.Core.Path.{ap, ◌∙◌}
use lib.ListN.{set}
use lib.Bits.{bit_or}
use Rattle.nodeset.proofs.Sets.{insert-code}
use Rattle.nodeset.proofs.insert.Goals as goal

pub returns : goal.returns
returns c =
    let a = c.args in
    c.put.ensures
    ∙ ap (λ (x : ℕ). set a.words.now (a.n / 64) (bit_or x ((1 * 2 ^ (a.n % 64)) % 2 ^ 64))) c.cell-old.ensures
    ∙ insert-code a.words.now a.n (λ i. (c.slice_known-1.given i).fits)
