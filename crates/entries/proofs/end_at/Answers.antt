-- `end_at` meets its contract: 65,535 is `id`.
use mathlib.Core.Bool.{Bool, cond}
use mathlib.Core.Path.{sym, ap, ◌∙◌}
use borrow.Author.Tests.{eq-eqb, ne_eqb}
use Rattle.tables.specs.Layout.{no_number}
use Rattle.paths.specs.declared.End.TheVariants.{Itself, Path}
use Rattle.entries.specs.Tables.{end_for}
use Rattle.entries.proofs.end_at.Goals as goal

pub returns-then-p-wide : goal.returns-then-p-wide
unfolding end_for
returns-then-p-wide c = let a = c.args in ap (λ (t : Bool). cond t Itself (Path a.p)) (sym (eq-eqb a.p no_number (c.if-p-wide.true ∙ c.wide.ensures)))

pub returns : goal.returns
unfolding end_for
returns c = let a = c.args in ap (λ (t : Bool). cond t Itself (Path a.p)) (sym (ne_eqb a.p no_number (λ q. c.if-p-wide.false (q ∙ sym c.wide.ensures))))
