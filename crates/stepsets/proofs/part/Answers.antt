use Rattle.stepsets.proofs.Nodes.{part-from, part-past}
use Rattle.stepsets.proofs.part.Goals as goal

pub returns-then-at-words : goal.returns-then-at-words
returns-then-at-words c = part-from c.args.words.now c.args.at

pub returns : goal.returns
returns c = part-past c.args.words.now c.args.at c.if-at-words.false
