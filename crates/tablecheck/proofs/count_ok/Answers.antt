use Prim.Native.Nat.{ℕ}
use mathlib.Core.Bool.{◌&&◌, ◌||◌}
use mathlib.Core.Path.{ap, ap₂, ◌∙◌}
use lib.Dec.{eqb, leb, ltb}
use Rattle.tables.specs.WellFormed.{entry_ok, upper_ok}
use Rattle.tablecheck.proofs.count_ok.Goals as goal

pub returns : goal.returns
unfolding entry_ok upper_ok
returns c =
    ap₂ ◌&&◌ (ap₂ ◌&&◌ (c.below.ensures ∙ ap (ltb c.args.p) c.path_count.ensures) c.below-2.ensures)
    (ap₂ (λ (l h : ℕ). leb l 1024 && (leb h 1024 || eqb c.args.hi 65535)) c.wide.ensures c.wide-2.ensures)
