-- `NodeSet::whole` meets its contract. Before word j the words are those of the numbers below n, and from there on zeros.
use Prim.Native.Nat.{ℕ, ◌<◌, ◌+◌, ◌*◌, ◌%◌, ◌^◌}
use mathlib.Core.Bool.{false}
use mathlib.Core.Path.{sym, ap, ◌∙◌, subst}
use native.Mathlib.Omega.{arith}
use lib.Dec.{ltb}
use Rattle.nodeset.specs.Words.{bit}
use Rattle.nodeset.proofs.Bits.{word_of_lt, bit-word_of}
use Rattle.nodeset.proofs.Sets.{zeros, up_to-none, up_to-more, up_to-all}
use Rattle.nodeset.proofs.NodeSet.whole.Goals as goal

pub loop-j-init : goal.loop-j-init
loop-j-init c = up_to-none (λ m. ltb m c.args.n) (λ m. false) 16 (zeros 16)

pub loop-j-preserved : goal.loop-j-preserved
loop-j-preserved c =
    let n = c.args.n in
    let t = c.loop-j in
    let x = c.word_below.result in
    let e = c.word_below.ensures in
    up_to-more (λ m. ltb m n) (λ m. false) 16 t.j x t.invariant (subst (λ (y : ℕ). y < 2 ^ 64) (sym e) (word_of_lt (λ d. ltb (t.j * 64 + d) n) 64))
    (λ m l q. ap (λ (y : ℕ). bit y (m % 64)) e ∙ bit-word_of (λ d. ltb (t.j * 64 + d) n) 64 (m % 64) (omega arith) ∙ ap (λ (y : ℕ). ltb y n) (omega arith))

pub returns : goal.returns
returns c = up_to-all (λ m. ltb m c.args.n) (λ m. false) 16 c.loop-j.j (omega arith) c.loop-j.invariant
