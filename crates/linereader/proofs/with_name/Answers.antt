use Rattle.linereader.proofs.with_name.Goals as goal

pub returns-in-Nodes : goal.returns-in-Nodes
returns-in-Nodes c = rw c.in-Nodes.is

pub returns-in-Links : goal.returns-in-Links
returns-in-Links c = rw c.in-Links.is

pub returns-in-Types : goal.returns-in-Types
returns-in-Types c = rw c.in-Types.is

pub returns-in-Langs : goal.returns-in-Langs
returns-in-Langs c = rw c.in-Langs.is

pub returns-in-Shapes : goal.returns-in-Shapes
returns-in-Shapes c = rw c.in-Shapes.is
