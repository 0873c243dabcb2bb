-- `conforming` meets its contract: the verdict on one node alone.
use mathlib.Core.Path.{◌∙◌}
use native.Mathlib.Omega.{arith}
use Rattle.tables.proofs.WellFormed.{sound}
use Rattle.verdict.proofs.Settling.{one_wanted}
use Rattle.verdict.proofs.conforming.Goals as goal

pub conforming_among-set-requires : goal.conforming_among-set-requires
conforming_among-set-requires c = c.requires.2

pub returns : goal.returns
returns c =
    let p = c.requires in
    let a = c.args in
    c.test.ensures ∙ c.conforming_among-set.ensures a.v.0 p.3 (one_wanted a.v.0 c.with.ensures (omega (arith, p.3, (sound a.cells.now p.1).nodes)))
