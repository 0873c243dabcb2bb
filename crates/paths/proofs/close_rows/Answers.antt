-- `close_rows` meets its contract: closed, and with each node in its own row where there may be no repetition.
use mathlib.Core.Bool.{Bool}
use mathlib.Core.Path.{sym, ap, ◌∙◌}
use lib.ListN.{length}
use Rattle.model.specs.Repeats.{plus}
use Rattle.closure.specs.Rows.{leads, rows_of}
use Rattle.closure.proofs.Rows.{within-rows, star-rows}
use Rattle.paths.specs.Images.{repeated}
use Rattle.paths.proofs.close_rows.Goals as goal

pub reflect-requires : goal.reflect-requires
reflect-requires c = let a = c.args in (c.requires.0, within-rows a.n (plus (leads a.rows.now) a.n) (length a.rows.now) c.close.ensures)

pub returns-then-none : goal.returns-then-none
returns-then-none c = let a = c.args in let e = c.reflect.ensures ∙ star-rows a.n (leads a.rows.now) (length a.rows.now) c.requires.0 c.requires.1 c.close.ensures ∙ ap (λ (x : Bool). rows_of a.n (repeated x (leads a.rows.now) a.n) (length a.rows.now)) (sym c.if-none.true) in record { new_rows = e; within = within-rows a.n (repeated a.none (leads a.rows.now) a.n) (length a.rows.now) e }

pub returns-else-none : goal.returns-else-none
returns-else-none c = let a = c.args in let e = c.close.ensures ∙ ap (λ (x : Bool). rows_of a.n (repeated x (leads a.rows.now) a.n) (length a.rows.now)) (sym c.if-none.false) in record { new_rows = e; within = within-rows a.n (repeated a.none (leads a.rows.now) a.n) (length a.rows.now) e }
