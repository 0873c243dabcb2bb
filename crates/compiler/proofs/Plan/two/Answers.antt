use Prim.Native.Nat.{ℕ}
use mathlib.Core.Path.{ap, ◌∙◌}
use native.Mathlib.Omega.{arith}
use Rattle.plan.specs.Numbers.{listed}
use Rattle.plan.specs.Layout.{with_numbers}
use Rattle.compiler.proofs.Laws.{two_law}
use Rattle.compiler.proofs.Plan.two.Goals as goal

pub returns-clause-added : goal.returns-clause-added
returns-clause-added c =
    let p = c.args.self.now in
    let k = c.push-k in
    let b = c.push-b in
    let xs = listed c.args.keeping in
    let ys = listed c.args.breaking in
    two_law p.cells.now k.new.self.cells.now b.new.self.cells.now p.next xs ys b.new.self.next k.result b.result k.ensures.stored
    (b.ensures.stored ∙ ap (λ (n : ℕ). with_numbers k.new.self.cells.now n ys) k.ensures.next)
    (omega (arith, k.ensures.next, b.ensures.next))
    k.ensures.number
    (b.ensures.number ∙ k.ensures.next)
