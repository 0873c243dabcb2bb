-- `clear` meets its contract.
use mathlib.Core.Path.{refl}
use Rattle.rows.proofs.Rows.{cleared}
use Rattle.rows.proofs.clear.Goals as goal

pub returns : goal.returns
returns c = let a = c.args in cleared a.n a.rows.now c.requires.1 c.requires.2 (c.fill.ensures.after (λ y e. e)) (λ i. (c.type_inv.rows i).fits)
