use Prim.Native.Nat.{◌+◌, ◌*◌, ◌≤◌}
use mathlib.Core.List.{map}
use mathlib.Core.Path.{◌≡◌}
use lib.ListN.{take}
use Rattle.report.specs.Report.{break_lines}
use Rattle.report.specs.Pages.{Put, break_bytes}
use Rattle.tables.specs.Names.{node_name_at}
use Rattle.report.proofs.Page.break_lines.Given as goal

abbrev pub invariant-loop-v : goal.invariant-loop-v
invariant-loop-v l =
    (l.self.bytes.ghost_name ≡ l.fn.self.bytes.ghost_name)
    × (l.self.at ≤ l.fn.self.at + break_bytes * l.v-index)
    × Put l.fn.self.bytes.now l.self.bytes.now l.fn.self.at (break_lines l.r (map (node_name_at l.names) (take l.v-index l.list))) l.self.at
