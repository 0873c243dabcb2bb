use Rattle.formreader.proofs.+read_form.Given as goal

abbrev pub decreases-read_form : goal.decreases-read_form
decreases-read_form l = l.left
