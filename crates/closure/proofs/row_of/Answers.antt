-- `row_of` meets its contract. The invariant: the words before word i are those of the row.
use Prim.Native.Nat.{◌+◌, ◌*◌}
use mathlib.Core.Bool.{false}
use native.Mathlib.Omega.{arith}
use lib.ListN.{get_or}
use Rattle.nodeset.proofs.Sets.{up_to-none, up_to-more, up_to-all, zeros}
use Rattle.closure.specs.Rows.{leads}
use Rattle.closure.proofs.Digits.{row_word}
use borrow.Author.Rules.{rules}
use Rattle.closure.proofs.row_of.Goals as goal

pub loop-i-init : goal.loop-i-init
loop-i-init c = let a = c.args in (search rules, up_to-none (leads a.rows.now a.v) (λ m. false) 16 (zeros 16))

pub loop-i-preserved : goal.loop-i-preserved
loop-i-preserved c =
    let a = c.args in
    let t = c.loop-i in
    (search rules, up_to-more (leads a.rows.now a.v) (λ m. false) 16 t.i (get_or a.rows.now (16 * a.v + t.i) 0) t.invariant.1 (c.type_inv.rows (16 * a.v + t.i)).fits (row_word a.rows.now a.v t.i))

pub returns : goal.returns
returns c = let a = c.args in let t = c.loop-i in up_to-all (leads a.rows.now a.v) (λ m. false) 16 t.i (omega arith) t.invariant.1
