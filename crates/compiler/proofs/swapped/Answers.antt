use mathlib.Core.Path.{ap, ◌∙◌}
use Rattle.compiler.specs.Stores.{keep_of, break_of}
use Rattle.compiler.proofs.swapped.Goals as goal

pub returns : goal.returns
returns c =
    let ps = c.args.pairs.now in
    (c.pair_of-a.ensures.1 ∙ ap (break_of ps) c.form_first.ensures, c.pair_of-a.ensures.0 ∙ ap (keep_of ps) c.form_first.ensures)
