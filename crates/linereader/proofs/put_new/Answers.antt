use mathlib.Core.Path.{◌∙◌}
use Rattle.stores.specs.Lines.{put_name}
use Rattle.linereader.proofs.put_new.Goals as goal

pub returns : goal.returns
unfolding put_name
returns c = c.put_name.ensures ∙ rw (c.base.ensures, c.count.ensures)
