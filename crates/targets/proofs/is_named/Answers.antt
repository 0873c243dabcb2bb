-- `is_named` meets its contract.
use Rattle.targets.proofs.Names.{named}
use Rattle.targets.proofs.is_named.Goals as goal

pub returns : goal.returns
returns c = let a = c.args in let pre = c.requires in named a.names.now a.at a.word.now pre.0 pre.1 pre.2 c.eq.ensures
