use Rattle.model.specs.Valid.{capacity}
use Rattle.itemreader.proofs.most.Goals as goal

pub returns-in-Nodes : goal.returns-in-Nodes
unfolding capacity
returns-in-Nodes c = rw c.in-Nodes.is

pub returns-in-Links : goal.returns-in-Links
unfolding capacity
returns-in-Links c = rw c.in-Links.is

pub returns-in-Types : goal.returns-in-Types
unfolding capacity
returns-in-Types c = rw c.in-Types.is

pub returns-in-Langs : goal.returns-in-Langs
unfolding capacity
returns-in-Langs c = rw c.in-Langs.is

pub returns-in-Shapes : goal.returns-in-Shapes
unfolding capacity
returns-in-Shapes c = rw c.in-Shapes.is
