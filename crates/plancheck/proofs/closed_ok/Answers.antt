use Rattle.plancheck.proofs.Codes.{closed_read}
use Rattle.plancheck.proofs.closed_ok.Goals as goal

pub returns : goal.returns
returns c = cc (closed_read c.args.cells.now c.args.e c.form_code-code.result c.form_code-code.ensures)
