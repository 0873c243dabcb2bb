use Prim.Native.Nat.{ℕ, zero-le}
use mathlib.Core.Path.{◌≡◌, refl, ◌∙◌, subst}
use native.Mathlib.Omega.{arith}
use Rattle.tables.specs.Layout.{form_count}
use Rattle.compiler.specs.Stores.{FormsAdded}
use Rattle.compiler.proofs.Loops.{forms-none, forms-more}
use Rattle.translation.proofs.WellMade.{start_four}
use Rattle.compiler.proofs.Plan.fill_forms.Goals as goal

pub loop-e-init : goal.loop-e-init
loop-e-init c =
    let a = c.args in
    let p = a.self.now in
    (refl, zero-le, c.form_count-forms.ensures, forms-none a.cells.now p.cells.now p.next a.pairs.now c.requires.1 c.requires.2 c.requires.3)

pub compile_entry-own-requires : goal.compile_entry-own-requires
compile_entry-own-requires c = (omega (arith, c.requires.0), omega (arith, c.requires.0, c.loop-e.invariant.3.after, start_four c.args.cells.now c.loop-e.e))

pub loop-e-preserved : goal.loop-e-preserved
loop-e-preserved c =
    let a = c.args in
    let l = c.loop-e in
    let o = c.compile_entry-own in
    let more = forms-more a.cells.now a.self.now.cells.now l.self.cells.now o.new.self.cells.now l.pairs l.e l.self.next o.new.self.next o.result l.invariant.3 o.ensures.added (omega (arith, c.requires.0, l.pairs.keeps_size)) (omega (arith, c.requires.0, l.pairs.breaks_size)) c.store.ensures.keeps c.store.ensures.breaks in
    (o.ensures.same_reference ∙ l.invariant.0, omega arith, l.invariant.2, more)

pub returns-clause-added : goal.returns-clause-added
returns-clause-added c =
    let a = c.args in
    let l = c.loop-e in
    let q : l.e ≡ form_count a.cells.now = omega arith in
    subst (λ (m : ℕ). FormsAdded a.cells.now a.self.now.cells.now l.self.cells.now m l.self.next l.pairs) q l.invariant.3
