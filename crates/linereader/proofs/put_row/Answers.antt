use mathlib.Core.Path.{refl}
use Rattle.linereader.specs.Storing.{put₃}
use Rattle.linereader.proofs.put_row.Goals as goal

pub returns : goal.returns
unfolding put₃
returns c = refl
