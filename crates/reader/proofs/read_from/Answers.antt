use mathlib.Core.Path.{refl, sym, ◌∙◌, subst}
use native.Mathlib.Omega.{arith}
use Rattle.model.specs.declared.Counts.{Counts}
use Rattle.itemreader.specs.Held.{Indexed}
use Rattle.reader.proofs.Runs.{Runs, runs_start, runs_held, runs_kinds, runs_limits, runs_fits, runs_more, runs_stop, runs_end}
use borrow.Author.Rules.{rules}
use Rattle.reader.proofs.read_from.Goals as goal

pub loop-at-init : goal.loop-at-init
loop-at-init c =
    let s = c.args in
    let p = c.requires in
    (refl, refl, refl, subst (λ (n : Counts). Runs s.book.now s.names.now s.cells.now s.values.now s.names.now s.cells.now s.values.now n 0 0) (sym p.5) (runs_start s.book.now s.names.now s.cells.now s.values.now p.3), refl, p.6)

pub overflow_add-line : goal.overflow_add-line
overflow_add-line c = let f = c.loop-at.invariant.3.few in search rules

pub read_line-requires : goal.read_line-requires
read_line-requires c =
    let p = c.requires in
    let i = c.loop-at.invariant in
    let R = i.3 in
    (R.within, omega arith, omega arith, omega arith, runs_limits _ _ _ _ R, runs_fits _ _ _ _ R, (R.above, runs_held _ _ _ _ R), i.5)

pub returns-in-Err : goal.returns-in-Err
returns-in-Err c =
    let i = c.loop-at.invariant in
    let R = i.3 in
    let r = c.read_line in
    runs_stop _ _ _ _ R r.result _ _ _ c.loop-at-test.true (r.ensures R.above (runs_held _ _ _ _ R) (runs_kinds _ _ _ _ R)) c.in-Err.fault c.in-Err.is c.at.ensures

pub index_new-requires : goal.index_new-requires
index_new-requires c =
    let p = c.requires in
    let i = c.loop-at.invariant in
    let R = i.3 in
    let m = runs_more _ _ _ _ R c.read_line.result _ _ _ c.loop-at-test.true (c.read_line.ensures R.above (runs_held _ _ _ _ R) (runs_kinds _ _ _ _ R)) c.in-Ok.next c.in-Ok.after c.in-Ok.is in
    (omega (arith, i.4, p.4), omega (arith, c.read_line.auto.names, i.0, p.0), runs_limits _ _ _ _ m.1)

pub loop-at-smaller : goal.loop-at-smaller
loop-at-smaller c =
    let R = c.loop-at.invariant.3 in
    let r = c.read_line in
    let h = c.loop-at-test.true in
    let m = runs_more _ _ _ _ R r.result _ _ _ h (r.ensures R.above (runs_held _ _ _ _ R) (runs_kinds _ _ _ _ R)) c.in-Ok.next c.in-Ok.after c.in-Ok.is in
    let l = m.0 in
    omega arith

pub loop-at-preserved : goal.loop-at-preserved
loop-at-preserved c =
    let i = c.loop-at.invariant in
    let R = i.3 in
    let h = c.loop-at-test.true in
    let m = runs_more _ _ _ _ R c.read_line.result _ _ _ h (c.read_line.ensures R.above (runs_held _ _ _ _ R) (runs_kinds _ _ _ _ R)) c.in-Ok.next c.in-Ok.after c.in-Ok.is in
    (c.read_line.auto.names ∙ i.0, c.read_line.auto.cells ∙ i.1, c.read_line.auto.values ∙ i.2, m.1, c.index_new.auto.index ∙ i.4, subst (Indexed c.read_line.new.names c.in-Ok.after) (sym c.index_new.ensures) (m.2 c.loop-at.index (let p = c.requires.4 in omega (arith, i.4)) i.5))

pub returns : goal.returns
returns c =
    let R = c.loop-at.invariant.3 in
    runs_end _ _ _ _ R c.requires.3 c.loop-at-test.false
