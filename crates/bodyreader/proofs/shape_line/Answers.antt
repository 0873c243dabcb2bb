use Prim.Native.Nat.{◌+◌}
use mathlib.Core.Path.{sym, ap, ◌∙◌}
use mathlib.Core.List.{[], ◌∷◌}
use mathlib.Core.Bool.{true}
use native.Mathlib.Nat.{add-zero}
use native.Mathlib.Omega.{arith}
use lib.ListN.{length}
use lib.Seq.{slice}
use Rattle.model.specs.Books.{shape, shapes}
use Rattle.grammar.specs.Syntax.{new, form, shape_l, line_family}
use Rattle.grammar.specs.Reading.{Begun, after, line_room, begun_above}
use Rattle.leafreader.proofs.Forms.{form_got, form_refused}
use Rattle.linereader.specs.Storing.{line_end, line_body}
use Rattle.linereader.proofs.Bodies.{item-stop, new_got, new_facts, done_stop, done_same, body_is, stop₁, stop₂, all₂}
use Rattle.bodyreader.proofs.Shapes.{begun_after, form_held, done_past, shape-room}
use Rattle.bodyreader.proofs.shape_line.Goals as goal

pub returns-in_err-end : goal.returns-in_err-end
returns-in_err-end c =
    let s = c.args in
    let S = s.book.now in
    λ a h.
    let (m, x, e) = item-stop S a (new shapes) length (begun_above a) s.at c.in_err-end.field-0.0 (c.in_err-end.ensures.reads a h) in
    done_stop a s.counts (line_body S a shape_l s.at) _ c.in_err-end.field-0.0 m s.names.now s.cells.now s.values.now
    (body_is S a shape_l s.at ∙ stop₁ S a (line_room S a shape_l) (new shapes) (form ∷ []) (line_family.build shape_l) (begun_above a) s.at m x) e c.from_residual.ensures.1

pub read_form-requires : goal.read_form-requires
read_form-requires c =
    let p = c.requires in
    let f = p.5 in
    (c.in_ok-end.ensures.below.1, p.2, p.3, omega (arith, f.form_limit), f.path_limit, f.item_limit)

pub returns-in_err-m : goal.returns-in_err-m
returns-in_err-m c =
    let s = c.args in
    let S = s.book.now in
    λ a h.
    let w = slice (s.at + 1) c.in_ok-end.end S in
    let b = begun_above a in
    let g = new_got S a shapes b s.at c.in_ok-end.field-0-0 c.in_ok-end.end (c.in_ok-end.ensures.reads a h) in
    let e₁ = begun_after s.names.now s.counts a h w in
    let (m, x, e) = form_refused (c.in_err-m.ensures.form_read a h (after (new shapes) w b) (ap (λ (b : Begun). b.forms) e₁ ∙ sym (add-zero s.counts.forms)) (ap (λ (b : Begun). b.paths) e₁) (ap (λ (b : Begun). b.items) e₁)) in
    done_past a s.counts (line_body S a shape_l s.at) _ c.in_err-m.field-0.0 m s.names.now s.cells.now _ s.values.now _
    (body_is S a shape_l s.at ∙ stop₂ S a (line_room S a shape_l) (new shapes) form [] (line_family.build shape_l) b s.at w c.in_ok-end.end g m x) e c.from_residual-in_err-m.ensures.1 c.read_form.ensures.cells_unchanged c.read_form.ensures.values_unchanged

pub shape_end-requires : goal.shape_end-requires
shape_end-requires c =
    let s = c.args in
    let q = c.requires in
    let (a, h) = q.6 in
    let f = new_facts s.book.now a shapes (begun_above a) s.at c.in_ok-end.field-0-0 c.in_ok-end.end (c.in_ok-end.ensures.reads a h) in
    let m = shape-room s.counts.shapes (let x = f.room in let y = h.names_counted shapes in omega arith) in
    let i = c.in_ok-m.ensures.forms_within in
    let j = i.0 in
    let k = i.1 in
    (f.from, f.within, f.short, i.4, m, omega arith, omega arith, q.1, omega (arith, c.read_form.auto.cells), q.4)

pub returns : goal.returns
unfolding line_room
returns c =
    let s = c.args in
    let S = s.book.now in
    let d = c.shape_end in
    λ a h.
    let w = slice (s.at + 1) c.in_ok-end.end S in
    let b = begun_above a in
    let e = new_got S a shapes b s.at c.in_ok-end.field-0-0 c.in_ok-end.end (c.in_ok-end.ensures.reads a h) in
    let e₁ = begun_after s.names.now s.counts a h w in
    let g = form_got c.in_ok-m.m c.in_ok-m.last (c.in_ok-m.ensures.form_read a h (after (new shapes) w b) (ap (λ (b : Begun). b.forms) e₁ ∙ sym (add-zero s.counts.forms)) (ap (λ (b : Begun). b.paths) e₁) (ap (λ (b : Begun). b.items) e₁)) in
    let q = body_is S a shape_l s.at ∙ all₂ S a true (new shapes) form (line_family.build shape_l) b s.at w c.in_ok-end.end e g.tree c.in_ok-m.last g.is in
    done_same a s.counts (line_body S a shape_l s.at) (line_end S a true (shape w g.tree) c.in_ok-m.last) _ s.names.now _ s.cells.now _ s.values.now _ q
    (d.ensures a g.tree s.cells.now s.values.now c.read_form.new.values h (form_held s.names.now s.counts a h g.tree c.in_ok-m.m s.cells.now c.read_form.new.cells s.values.now c.read_form.new.values g.ended g.cells g.values c.read_form.ensures.cells_unchanged c.read_form.ensures.values_unchanged))
