-- `NodeSet::count` meets its contract: a set shares all its members with itself.
use mathlib.Core.Bool.{and_self}
use mathlib.Core.Path.{◌∙◌}
use Rattle.base.proofs.Bounded.{size_ext}
use Rattle.nodeset.specs.Words.{has, both}
use Rattle.nodeset.proofs.NodeSet.count.Goals as goal

pub returns : goal.returns
returns c =
    let ws = c.args.self.words in
    c.count_both.ensures ∙ size_ext (both ws ws) (has ws) 1024 (λ m l. and_self (has ws m))
