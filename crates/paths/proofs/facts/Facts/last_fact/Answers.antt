-- `last_fact` meets its contract.
use Prim.Native.Nat.{ℕ}
use mathlib.Core.Bool.{Bool, cond}
use mathlib.Core.Path.{sym, ap, ◌∙◌}
use lib.ListN.{get_or}
use borrow.Author.Tests.{lt-ltb, le-ltb}
use Rattle.model.specs.Limits.{max_links}
use Rattle.paths.proofs.facts.Facts.last_fact.Goals as goal

pub returns-then-l-lt-LINKS : goal.returns-then-l-lt-LINKS
returns-then-l-lt-LINKS c =
    let a = c.args in
    c.wide-then-l-lt-LINKS.ensures ∙ c.cell.ensures ∙ ap (λ (k : ℕ). get_or a.self.now.index.now k 0) c.wide.ensures ∙ ap (λ (b : Bool). cond b (get_or a.self.now.index.now a.l.0 0) 0) (sym (lt-ltb a.l.0 max_links c.if-l-lt-LINKS.true))

pub returns-else-l-lt-LINKS : goal.returns-else-l-lt-LINKS
returns-else-l-lt-LINKS c = let a = c.args in ap (λ (b : Bool). cond b (get_or a.self.now.index.now a.l.0 0) 0) (sym (le-ltb a.l.0 max_links c.if-l-lt-LINKS.false))
