use Prim.Native.Nat.{◌+◌, ◌-◌}
use mathlib.Core.Path.{◌∙◌}
use native.Mathlib.Omega.{arith}
use lib.ListN.{length}
use Rattle.base.proofs.Copies.{over_part}
use Rattle.report.proofs.Writing.{put_copied}
use Rattle.report.proofs.Page.put.Goals as goal

pub returns-clause-put : goal.returns-clause-put
returns-clause-put c =
    let page = c.args.self.now in
    let text = c.args.text.now in
    put_copied page.bytes.now text page.at (page.at + length text - page.at) (omega arith)
    (c.copy.ensures ∙ over_part page.bytes.now text page.at (page.at + length text - page.at) (omega arith) c.requires) c.requires
