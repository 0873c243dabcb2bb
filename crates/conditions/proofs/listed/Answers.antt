-- `listed` meets its contract: some item is x.
use mathlib.Core.Path.{◌∙◌}
use Prim.Native.Nat.{◌+◌}
use lib.Dec.{eqb}
use native.Mathlib.Omega.{arith}
use Rattle.std.proofs.Common.{rules, tests}
use Rattle.std.proofs.lemmas.Iterator.{YieldsList-from_range}
use Rattle.std.proofs.lemmas.Iterator.Search.{any_from_yields_List}
use Rattle.tables.specs.Layout.{item_at}
use Rattle.conditions.proofs.Items.{any-member}
use Rattle.conditions.proofs.listed.Goals as goal

pub returns : goal.returns
returns c =
    let a = c.args in
    any_from_yields_List (λ k. eqb a.x (item_at a.cells.now k)) _ _ _ c.any.ensures.ran (YieldsList-from_range a.i (a.i + a.n) a.n (λ i. record { start = c.wide-from.ensures i; end = c.wide-from.ensures i + c.wide.ensures i }) (omega arith)) (λ x b q k. search (rules, tests))
    ∙ any-member a.cells.now a.i a.n a.x
