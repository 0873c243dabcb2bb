use Rattle.plancheck.proofs.Codes.{test_read}
use Rattle.plancheck.proofs.test_ok.Goals as goal

pub returns : goal.returns
returns c = cc (test_read c.args.cells.now c.args.e c.form_code-code.result c.form_code-code.ensures)
