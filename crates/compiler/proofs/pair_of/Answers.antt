use mathlib.Core.Path.{ap, ◌∙◌}
use Rattle.compiler.specs.Stores.{keep_of, break_of}
use Rattle.compiler.proofs.pair_of.Goals as goal

pub returns : goal.returns
returns c =
    let ps = c.args.pairs.now in
    (c.of.ensures.0 ∙ ap (keep_of ps) c.wide.ensures, c.of.ensures.1 ∙ ap (break_of ps) c.wide.ensures)
