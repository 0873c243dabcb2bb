-- `meets_row` meets its contract: a search for a shared member finds one where there is one.
use mathlib.Core.Path.{refl}
use Rattle.paths.proofs.Repeats.{meets-found}
use Rattle.paths.proofs.meets_row.Goals as goal

pub returns : goal.returns
returns c = let a = c.args in meets-found a.from.now a.relation.rows.now a.relation.n a.w _ refl c.next_shared.ensures
