use mathlib.Core.Path.{ap, ◌∙◌}
use Prim.Native.Nat.{ℕ, ◌+◌}
use Rattle.std.proofs.Common.{rules}
use native.Mathlib.Omega.{arith}
use Rattle.base.specs.Bounded.{every}
use Rattle.tables.specs.WellFormed.{item_ok, items_ok}
use Rattle.tablecheck.proofs.Parts.{all_from}
use Rattle.tablecheck.proofs.items_ok.Goals as goal

pub returns : goal.returns
unfolding items_ok
returns c =
    let a = c.args in
    all_from (item_ok a.cells.now a.bound) c.wide-from.result a.n (omega (arith, c.wide.ensures)) c.all.ensures.ran (λ x b q k. search rules)
    ∙ ap (λ (i : ℕ). every (λ k. item_ok a.cells.now a.bound (i + k)) a.n) c.wide-from.ensures
