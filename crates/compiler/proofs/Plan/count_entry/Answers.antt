use mathlib.Core.Path.{ap, ◌∙◌}
use Rattle.compiler.specs.Stores.{keep_of}
use Rattle.compiler.proofs.Plan.count_entry.Goals as goal

pub returns-clause-added : goal.returns-clause-added
returns-clause-added c = rw (← c.form_first-p.ensures, ← (c.pair_of-a.ensures.0 ∙ ap (keep_of c.args.pairs.now) c.form_second.ensures), ← c.form_third-lo.ensures, ← c.form_fourth-hi.ensures) c.count_steps.ensures.added
