use mathlib.Core.Path.{◌≡◌}
use Rattle.report.specs.Pages.{Put}
use Rattle.report.proofs.Writing.{so_far}
use Rattle.report.proofs.Page.line.Given as goal

abbrev pub invariant-loop-n : goal.invariant-loop-n
invariant-loop-n l = (l.self.bytes.ghost_name ≡ l.fn.self.bytes.ghost_name) × Put l.fn.self.bytes.now l.self.bytes.now l.fn.self.at (so_far l.word l.ns l.n-index) l.self.at
