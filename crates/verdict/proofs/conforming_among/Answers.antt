-- `conforming_among` meets its contract: what is known in the end is the verdicts.
use native.Mathlib.Omega.{arith}
use Rattle.entries.proofs.Codes.{nodes_le, sound_of}
use Rattle.verdict.proofs.Known.{settled_over}
use Rattle.verdict.proofs.Settling.{known-decided}
use Rattle.verdict.proofs.conforming_among.Goals as goal

pub settle-requires : goal.settle-requires
settle-requires c = rw c.new-memo.ensures.tables c.requires

pub overflow_mul-e : goal.overflow_mul-e
overflow_mul-e c = let t = c.args.tables in omega (arith, c.requires, (sound_of t.cells.now t.made).forms)

pub row-requires : goal.row-requires
row-requires c = let t = c.args.tables in omega (arith, c.requires, (sound_of t.cells.now t.made).forms)

pub returns : goal.returns
returns c = let t = c.args.tables in known-decided (settled_over c.new-memo.ensures.tables c.settle.ensures.settled) (nodes_le t.cells.now t.made) c.row.ensures
