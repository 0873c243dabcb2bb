-- `set_words_lem` meets its contract.
use mathlib.Core.Path.{sym, ap}
use Rattle.paths.specs.Images.{set_words}
use Rattle.paths.specs.declared.Sets.{Sets}
use Rattle.paths.proofs.set_words.Goals as goal

pub returns-in-Rows : goal.returns-in-Rows
returns-in-Rows c = sym (ap (λ (x : Sets). set_words x c.args.n) c.in-Rows.is)

pub returns-in-Own : goal.returns-in-Own
returns-in-Own c = sym (ap (λ (x : Sets). set_words x c.args.n) c.in-Own.is)
