-- `join` meets its contract, by the laws of a node that joins sets.
use mathlib.Core.Path.{refl, sym, ap, ◌∙◌}
use native.Mathlib.Omega.{arith}
use Rattle.paths.specs.Images.{set_count, start_of, joined_sets}
use Rattle.paths.specs.declared.Sets.{Sets}
use Rattle.paths.proofs.Joins.{join_in, join_out, join-row, join_own, row_room, row-lent}
use Rattle.paths.proofs.join.Goals as goal

pub overflow_mul-at : goal.overflow_mul-at
overflow_mul-at c = omega (arith, c.requires.1, c.requires.2)

pub slice_bounds-take_row-count : goal.slice_bounds-take_row-count
slice_bounds-take_row-count c = let a = c.args in omega (arith, c.requires.2, (row_room a.n a.from.now a.into.now c.in-Rows.is c.requires.0).0)

pub take_row-requires : goal.take_row-requires
take_row-requires c = let a = c.args in let r = row_room a.n a.from.now a.into.now c.in-Rows.is c.requires.0 in (omega (arith, r.1, c.requires.3), row-lent a.from.now a.near.0 a.n _ c.requires.2 r.0 refl)

pub returns-then-test : goal.returns-then-test
returns-then-test c = let a = c.args in c.insert.ensures ∙ join_in a.near.0 a.far.0 a.from.now a.into.now (sym c.test.ensures ∙ c.if-test.true) ∙ ap (λ (x : Sets). joined_sets (set_count x) a.near.0 a.far.0 (start_of x a.from.now) a.into.now) (sym c.in-One.is)

pub returns-else-test : goal.returns-else-test
returns-else-test c = let a = c.args in join_out a.near.0 a.far.0 a.from.now a.into.now (λ i. (c.type_inv.into i).fits) (sym c.test.ensures ∙ c.if-test.false) ∙ ap (λ (x : Sets). joined_sets (set_count x) a.near.0 a.far.0 (start_of x a.from.now) a.into.now) (sym c.in-One.is)

pub returns-in-Rows : goal.returns-in-Rows
returns-in-Rows c = let a = c.args in c.take_row.ensures ∙ join-row a.near.0 a.far.0 a.from.now a.into.now _ refl ∙ ap (λ (x : Sets). joined_sets (set_count x) a.near.0 a.far.0 (start_of x a.from.now) a.into.now) (sym c.in-Rows.is)

pub returns-in-Own : goal.returns-in-Own
returns-in-Own c = let a = c.args in c.insert-in-Own.ensures ∙ join_own a.near.0 a.far.0 a.from.now a.into.now (omega (arith, c.requires.1, c.requires.2)) ∙ ap (λ (x : Sets). joined_sets (set_count x) a.near.0 a.far.0 (start_of x a.from.now) a.into.now) (sym c.in-Own.is)
