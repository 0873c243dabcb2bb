-- `count_both` meets its contract: only the first sixteen words count.
use Prim.Native.Nat.{◌≤◌}
use mathlib.Core.Path.{sym, ◌∙◌}
use lib.Dec.{leb}
use lib.ListN.{length}
use lib.Seq.{length-take-le}
use borrow.Author.Tests.{leb-true}
use Rattle.base.proofs.Bools.{and_left, and_right}
use Rattle.nodeset.proofs.Sets.{size-first}
use Rattle.nodeset.proofs.count_both.Goals as goal

-- both have sixteen words
long : (c : goal.Then-a-b) → (16 ≤ length c.args.a.now) × (16 ≤ length c.args.b.now)
long c =
    let m = length c.args.a.now in
    let n = length c.args.b.now in
    (leb-true 16 m (and_left (leb 16 m) (leb 16 n) c.if-a-b.true), leb-true 16 n (and_right (leb 16 m) (leb 16 n) c.if-a-b.true))

pub slice_bounds-count_words-end : goal.slice_bounds-count_words-end
slice_bounds-count_words-end c = sym (length-take-le 16 c.args.a.now (long c).0)

pub slice_bounds-count_words-end-then-a-b : goal.slice_bounds-count_words-end-then-a-b
slice_bounds-count_words-end-then-a-b c = sym (length-take-le 16 c.args.b.now (long c).1)

pub returns-then-a-b : goal.returns-then-a-b
returns-then-a-b c = let a = c.args in c.count_words.ensures ∙ size-first a.a.now a.b.now 16
