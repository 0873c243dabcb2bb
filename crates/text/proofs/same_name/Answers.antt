use mathlib.Core.Bool.{Bool, ◌&&◌}
use mathlib.Core.Path.{ap₂, ◌∙◌}
use Rattle.text.proofs.Same.{padded-same}
use Rattle.text.proofs.same_name.Goals as goal

pub returns : goal.returns
returns c =
    ap₂ (λ (a b : Bool). a && b) c.same_bytes.ensures c.zeros.ensures
    ∙ padded-same c.args.book.now c.args.names.now c.args.at c.args.end c.args.place c.requires.1 c.requires.2 c.requires.3
