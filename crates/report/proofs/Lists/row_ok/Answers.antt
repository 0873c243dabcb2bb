use Prim.Native.Nat.{ℕ}
use mathlib.Core.Path.{sym, ap, ◌∙◌}
use native.Mathlib.Omega.{arith}
use lib.Dec.{ltb}
use Rattle.base.specs.Lists.{allb}
use Rattle.tables.specs.Layout.{node_count}
use Rattle.report.proofs.Parts.{all_is, row-long, row_test}
use Rattle.report.proofs.Lists.row_ok.Goals as goal

pub returns-then-wide-gt-MAX_NODES : goal.returns-then-wide-gt-MAX_NODES
returns-then-wide-gt-MAX_NODES c = let a = c.args in sym (row-long a.cells.now a.self.rows.now a.self.lengths.now a.r (omega (arith, c.if-wide-gt-MAX_NODES.true, c.wide.ensures)))

pub returns : goal.returns
returns c =
    let a = c.args in
    c.all_below.ensures
    ∙ all_is (λ v. ltb v c.node_count.result) c.row.result.now
    ∙ ap (λ (k : ℕ). allb (λ v. ltb v k) c.row.result.now) c.node_count.ensures
    ∙ ap (allb (λ v. ltb v (node_count a.cells.now))) c.row.ensures
    ∙ row_test a.cells.now a.self.rows.now a.self.lengths.now a.r (omega (arith, c.if-wide-gt-MAX_NODES.false, c.wide.ensures))
