-- `class_set` meets its contract.
use mathlib.Core.Path.{◌∙◌}
use Rattle.nodeset.proofs.Sets.{single}
use Rattle.targets.specs.Classes.{sub_classes}
use Rattle.targets.proofs.class_set.Goals as goal

pub returns-in-Some : goal.returns-in-Some
returns-in-Some c = rw c.in-Some.is c.under_class.ensures

pub returns-in-None : goal.returns-in-None
unfolding sub_classes
returns-in-None c = rw c.in-None.is (c.with.ensures ∙ single c.args.c.0 16)
