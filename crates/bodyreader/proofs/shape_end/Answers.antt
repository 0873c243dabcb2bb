use Prim.Native.Nat.{ℕ, ◌+◌}
use mathlib.Core.Path.{sym, ap, ◌∙◌}
use mathlib.Core.Bool.{true}
use lib.Seq.{slice}
use Rattle.std.specs.Prelude.{Ok}
use Rattle.model.specs.Books.{shape}
use Rattle.model.specs.declared.Counts.{Counts}
use Rattle.linereader.specs.Storing.{line_end}
use Rattle.linereader.proofs.Bodies.{done_yes, ended-no, ended-yes}
use Rattle.bodyreader.specs.Storing.{shaped}
use Rattle.bodyreader.proofs.Shapes.{shape-counted, shape-names, shape-roots, shape-values, done_past, shape-place}
use Rattle.bodyreader.proofs.shape_end.Goals as goal

pub returns-in_err-done : goal.returns-in_err-done
returns-in_err-done c =
    let s = c.args in
    let S = s.book.now in
    λ a φ cs vs vs' h f.
    let l = shape (slice (s.at + 1) s.end S) φ in
    let (m, x, e) = ended-no (shaped s.n s.counts) (line_end S a true l s.last) c.in_err-done.field-0.0 (c.in_err-done.ensures a l) in
    done_past a s.counts (line_end S a true l s.last) _ c.in_err-done.field-0.0 m s.names.now cs s.cells.now vs vs' x e c.from_residual.ensures.1 f.cells-past f.values-past

pub put_new-requires : goal.put_new-requires
put_new-requires c =
    let p = c.requires in
    (p.0, p.1, p.2, shape-place c.args.counts.shapes p.4, p.7, p.9)

pub returns : goal.returns
returns c =
    let s = c.args in
    let S = s.book.now in
    λ a φ cs vs vs' h f.
    let w = slice (s.at + 1) s.end S in
    let l = shape w φ in
    let d : Counts × ℕ = c.in_ok-done.done in
    let y = ended-yes S a true l s.last (shaped s.n s.counts) d (c.in_ok-done.ensures a l) in
    done_yes a s.counts (line_end S a true l s.last) l d.1 _ s.names.now _ cs _ vs vs'
    y.0
    (ap Ok (y.1 ∙ ap (λ (m : Counts). (m, d.1)) (shape-counted s.names.now s.counts a h w φ s.n f.ended)))
    (c.put_new.ensures ∙ sym (shape-names s.names.now s.counts a h w φ))
    (shape-roots s.names.now s.counts a h w φ s.n cs s.cells.now vs vs' f)
    (shape-values s.names.now s.counts a h w φ s.n cs s.cells.now vs vs' f)
