-- `Tallies::after` meets its contract.
use mathlib.Core.Path.{◌≡◌, ◌∙◌}
use native.Mathlib.Omega.{arith}
use lib.ListN.{length}
use borrow.Author.Rules.{rules}
use Rattle.consoles.specs.Tallies.{console_count}
use Rattle.consoles.proofs.Counting.{counted-at, counted_out, given_after}
use Rattle.consoles.proofs.Tallies.after.Goals as goal

pub returns-then-console-lt-CONSOLES : goal.returns-then-console-lt-CONSOLES
returns-then-console-lt-CONSOLES c =
    let a = c.args in
    counted-at a.console a.self.counts c.one_more.ensures ∙ given_after a.console a.self.counts c.if-given.true

pub returns-else-console-lt-CONSOLES : goal.returns-else-console-lt-CONSOLES
returns-else-console-lt-CONSOLES c =
    let a = c.args in
    let l : length a.self.counts ≡ console_count = search rules in
    counted_out a.console a.self.counts (omega (arith, l, c.if-console-lt-CONSOLES.false)) ∙ given_after a.console a.self.counts c.if-given.true
