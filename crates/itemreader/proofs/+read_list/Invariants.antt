use Prim.Native.Nat.{◌-◌}
use Rattle.model.specs.Limits.{max_items}
use Rattle.itemreader.proofs.+read_list.Given as goal

abbrev pub decreases-read_list : goal.decreases-read_list
decreases-read_list l = max_items - l.i
