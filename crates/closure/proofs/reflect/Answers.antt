-- `reflect` meets its contract. The invariant: each node below v is in its own row.
use mathlib.Core.Path.{refl, ◌∙◌}
use native.Mathlib.Omega.{arith}
use lib.ListN.{length}
use Rattle.closure.specs.Rows.{leads}
use Rattle.closure.proofs.Rows.{itself_none, itself_more, itself_all}
use borrow.Author.Rules.{rules}
use Rattle.closure.proofs.reflect.Goals as goal

pub loop-v-init : goal.loop-v-init
loop-v-init c = let a = c.args in (search rules, refl, itself_none a.n (leads a.rows.now) (length a.rows.now) c.requires.1)

pub loop-v-preserved : goal.loop-v-preserved
loop-v-preserved c =
    let a = c.args in
    let t = c.loop-v in
    (search rules, c.insert.auto.words ∙ t.invariant.1, c.insert.ensures ∙ itself_more a.n (leads a.rows.now) (length a.rows.now) t.v c.requires.0 c.loop-v-test.true t.invariant.2)

pub returns : goal.returns
returns c = let a = c.args in let t = c.loop-v in itself_all a.n (leads a.rows.now) (length a.rows.now) t.v (omega arith) t.invariant.2
