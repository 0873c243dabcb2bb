use Rattle.grammar.specs.Writing.{write_kind}
use Rattle.itemreader.specs.Words.{words_of}
use Rattle.itemreader.proofs.words.words.Goals as goal

pub returns-in-Paths : goal.returns-in-Paths
unfolding words_of
returns-in-Paths c = rw c.in-Paths.is

pub returns-in-Forms : goal.returns-in-Forms
unfolding words_of
returns-in-Forms c = rw c.in-Forms.is

pub returns-in-Targets : goal.returns-in-Targets
unfolding words_of
returns-in-Targets c = rw c.in-Targets.is

pub returns-in-Lines : goal.returns-in-Lines
unfolding words_of
returns-in-Lines c = rw c.in-Lines.is

pub returns-in-Kinds : goal.returns-in-Kinds
unfolding words_of write_kind
returns-in-Kinds c = rw c.in-Kinds.is
