use Rattle.pathreader.proofs.+read_path.Given as goal

abbrev pub decreases-read_path : goal.decreases-read_path
decreases-read_path l = l.left
