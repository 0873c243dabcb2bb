-- `NodeSet::none_below` meets its contract: the search for a member comes to n.
use Prim.Native.Nat.{ℕ}
use mathlib.Core.Path.{ap, ◌∙◌}
use lib.Dec.{eqb}
use Rattle.base.proofs.Least.{empty-below}
use Rattle.nodeset.specs.Words.{has}
use Rattle.nodeset.proofs.NodeSet.none_below.Goals as goal

pub returns : goal.returns
returns c = let a = c.args in ap (λ (k : ℕ). eqb k a.n) c.next_member.ensures ∙ empty-below (has a.self.words) a.n
