use Prim.Native.Nat.{ℕ}
use mathlib.Core.Path.{sym, ◌∙◌}
use mathlib.Core.List.{List}
use native.Mathlib.Nat.{sub-zero}
use borrow.Author.Rules.{rules}
use native.Mathlib.Omega.{arith}
use lib.Seq.{slice}
use Rattle.base.specs.Bytes.{eql}
use Rattle.text.specs.Pool.{padded, place, find}
use Rattle.text.proofs.Pool.{first_here, first_step, first-none}
use Rattle.text.proofs.find_name.Goals as goal

pub loop-k-init : goal.loop-k-init
unfolding find
loop-k-init c = (search rules, rw sub-zero)

pub returns-then-same_name : goal.returns-then-same_name
returns-then-same_name c =
    let w : List ℕ = padded (slice c.args.at c.args.end c.args.book.now) in
    sym (c.loop-k.invariant.1 ∙ first_here (λ i. eql w (place c.args.names.now c.args.base i)) c.args.count c.loop-k.k c.loop-k-test.true (sym c.same_name.ensures ∙ c.if-same_name.true))

pub loop-k-preserved : goal.loop-k-preserved
loop-k-preserved c =
    let w : List ℕ = padded (slice c.args.at c.args.end c.args.book.now) in
    (omega arith, c.loop-k.invariant.1 ∙ first_step (λ i. eql w (place c.args.names.now c.args.base i)) c.args.count c.loop-k.k c.loop-k-test.true (sym c.same_name.ensures ∙ c.if-same_name.false))

pub returns : goal.returns
returns c =
    let w : List ℕ = padded (slice c.args.at c.args.end c.args.book.now) in
    sym (c.loop-k.invariant.1 ∙ first-none (λ i. eql w (place c.args.names.now c.args.base i)) c.args.count c.loop-k.k c.loop-k-test.false)
