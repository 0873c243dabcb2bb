-- `last_out` meets its contract.
use Prim.Native.Nat.{◌+◌}
use mathlib.Core.Bool.{Bool, cond}
use mathlib.Core.Path.{sym, ap, ◌∙◌}
use lib.ListN.{get_or}
use borrow.Author.Tests.{lt-ltb, le-ltb}
use Rattle.model.specs.Limits.{max_nodes}
use Rattle.paths.specs.Facts.{subject_heads}
use Rattle.paths.proofs.last_out.Goals as goal

pub returns-then-x-lt-MAX_NODES : goal.returns-then-x-lt-MAX_NODES
returns-then-x-lt-MAX_NODES c =
    let a = c.args in
    c.wide.ensures ∙ c.cell.ensures ∙ ap (λ (b : Bool). cond b (get_or a.index.now (subject_heads + a.v.0) 0) 0) (sym (lt-ltb a.v.0 max_nodes c.if-x-lt-MAX_NODES.true))

pub returns-else-x-lt-MAX_NODES : goal.returns-else-x-lt-MAX_NODES
returns-else-x-lt-MAX_NODES c = let a = c.args in ap (λ (b : Bool). cond b (get_or a.index.now (subject_heads + a.v.0) 0) 0) (sym (le-ltb a.v.0 max_nodes c.if-x-lt-MAX_NODES.false))
