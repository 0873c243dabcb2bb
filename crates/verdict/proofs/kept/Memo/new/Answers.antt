-- `new` meets its contract: nothing is known.
use Prim.Native.Nat.{ℕ}
use lib.ListN.{length-replicate}
use Rattle.verdict.specs.Memo.{memo_count}
use Rattle.verdict.proofs.Memo.{right-none}
use Rattle.verdict.proofs.kept.Memo.new.Goals as goal

pub invariant_of-result : goal.invariant_of-result
invariant_of-result c =
    let t = c.args.tables in
    record { size = length-replicate {A = ℕ} memo_count 0; right = right-none t.cells.now t.values.now memo_count }
