use Rattle.tablecheck.proofs.below.Goals as goal

pub returns : goal.returns
returns c = cc
