use Prim.Native.Nat.{ℕ}
use mathlib.Core.Bool.{◌&&◌}
use mathlib.Core.Path.{ap, ap₂, ◌∙◌}
use lib.Dec.{ltb}
use Rattle.tablecheck.proofs.item_ok.Goals as goal

pub returns : goal.returns
returns c = ap₂ ◌&&◌ (ap (ltb c.args.i) c.item_count.ensures) (c.below.ensures ∙ ap (λ (x : ℕ). ltb x c.args.bound) c.item.ensures)
