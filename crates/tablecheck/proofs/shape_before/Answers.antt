use Rattle.tablecheck.proofs.shape_before.Goals as goal

pub returns : goal.returns
returns c = cc
