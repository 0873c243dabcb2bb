use Rattle.encoding.specs.Encode.{pool_base}
use Rattle.itemreader.proofs.base.Goals as goal

pub returns-in-Nodes : goal.returns-in-Nodes
unfolding pool_base
returns-in-Nodes c = rw c.in-Nodes.is

pub returns-in-Links : goal.returns-in-Links
unfolding pool_base
returns-in-Links c = rw c.in-Links.is

pub returns-in-Types : goal.returns-in-Types
unfolding pool_base
returns-in-Types c = rw c.in-Types.is

pub returns-in-Langs : goal.returns-in-Langs
unfolding pool_base
returns-in-Langs c = rw c.in-Langs.is

pub returns-in-Shapes : goal.returns-in-Shapes
unfolding pool_base
returns-in-Shapes c = rw c.in-Shapes.is
