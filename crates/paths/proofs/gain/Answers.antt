-- `gain` meets its contract, by what each kind of sets gains.
use mathlib.Core.Path.{sym, ap, ◌∙◌}
use Rattle.paths.specs.Images.{set_count, start_of, with_images, backwards}
use Rattle.paths.specs.declared.Sets.{Sets}
use Rattle.paths.proofs.Joins.{row_room}
use Rattle.paths.proofs.Repeats.{gain_rows, gain_own}
use Rattle.paths.proofs.gain.Goals as goal

pub compose-requires : goal.compose-requires
compose-requires c = let a = c.args in let r = row_room a.relation.n a.from.now a.into.now c.in-Rows.is c.requires in (a.relation.few, r.1, r.0)

pub returns-in-One : goal.returns-in-One
returns-in-One c = let a = c.args in c.add_image.ensures ∙ ap (λ (x : Sets). with_images (set_count x) a.relation.n (backwards a.relation.rows.now) (start_of x a.from.now) a.into.now) (sym c.in-One.is)

pub returns-in-Rows : goal.returns-in-Rows
returns-in-Rows c = let a = c.args in c.compose.ensures ∙ gain_rows a.relation.n a.relation.few a.relation.rows.now a.relation.within a.from.now a.into.now ∙ ap (λ (x : Sets). with_images (set_count x) a.relation.n (backwards a.relation.rows.now) (start_of x a.from.now) a.into.now) (sym c.in-Rows.is)

pub returns-in-Own : goal.returns-in-Own
returns-in-Own c = let a = c.args in c.union_into.ensures ∙ gain_own a.relation.n a.relation.few a.relation.rows.now a.relation.within a.from.now a.into.now ∙ ap (λ (x : Sets). with_images (set_count x) a.relation.n (backwards a.relation.rows.now) (start_of x a.from.now) a.into.now) (sym c.in-Own.is)
