use Rattle.tables.specs.WellFormed.{end_number_ok}
use Rattle.tablecheck.proofs.end_ok.Goals as goal

pub returns : goal.returns
unfolding end_number_ok
returns c = cc
