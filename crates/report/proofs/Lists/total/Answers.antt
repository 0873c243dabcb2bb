use Prim.Native.Nat.{◌≤◌}
use mathlib.Core.Path.{sym, ◌∙◌}
use native.Mathlib.Omega.{arith}
use lib.ListN.{length}
use lib.Seq.{length-take-le}
use Rattle.report.proofs.Parts.{found_sum}
use Rattle.report.proofs.Lists.total.Goals as goal
use Rattle.report.proofs.Lists.total.Goals.{Start}

lent : (c : Start) → c.args.n ≤ length c.args.self.lengths.now
lent c = omega (arith, c.requires, c.args.self.lengths_long)

pub slice_bounds-sum_of-end : goal.slice_bounds-sum_of-end
slice_bounds-sum_of-end c = sym (length-take-le c.args.n c.args.self.lengths.now (lent (goal.at.slice_bounds-sum_of-end c).Start))

pub sum_of-requires : goal.sum_of-requires
sum_of-requires c = omega (arith, length-take-le c.args.n c.args.self.lengths.now (lent (goal.at.sum_of-requires c).Start), c.requires)

pub returns : goal.returns
returns c = c.sum_of.ensures ∙ found_sum c.args.self.lengths.now c.args.n (lent (goal.at.returns c).Start)
