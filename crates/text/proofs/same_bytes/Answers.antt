use Prim.Native.Nat.{zero-le}
use native.Mathlib.Omega.{arith}
use Rattle.text.specs.Pool.{same_at}
use Rattle.text.proofs.Same.{every-none, every-next, every-end}
use Rattle.text.proofs.same_bytes.Goals as goal

pub loop-j-init : goal.loop-j-init
loop-j-init c = (zero-le, every-none _)

pub loop-j-preserved : goal.loop-j-preserved
loop-j-preserved c =
    (omega arith, every-next (same_at c.args.names.now c.args.place c.args.book.now c.args.at) c.loop-j.j c.loop-j.invariant.1)

pub returns : goal.returns
returns c =
    every-end (same_at c.args.names.now c.args.place c.args.book.now c.args.at) c.loop-j.j c.args.len (omega arith) c.loop-j.invariant.1
