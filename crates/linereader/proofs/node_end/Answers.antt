use Prim.Native.Nat.{ℕ, ◌+◌}
use mathlib.Core.Path.{ap, ◌∙◌}
use mathlib.Core.Bool.{true}
use lib.Seq.{slice}
use lib.IntN.{ℤ}
use lib.ListN.{set}
use mir.Facts.{to_z-of_z}
use Rattle.std.specs.Prelude.{Ok}
use Rattle.model.specs.Books.{node, nodes}
use Rattle.model.specs.declared.Counts.{Counts}
use Rattle.linereader.specs.Storing.{line_end}
use Rattle.linereader.proofs.Bodies.{node-counted, node-place, done_stop, done_yes, ended-no, ended-yes, node-names, node-cells, node-values}
use Rattle.linereader.proofs.node_end.Goals as goal

pub returns-in_err-done : goal.returns-in_err-done
returns-in_err-done c =
    let s = c.args in
    let S = s.book.now in
    λ a t h row.
    let l = node (slice (s.at + 1) s.end S) t in
    let (m, x, e) = ended-no c.with_name.result (line_end S a true l s.last) c.in_err-done.field-0.0 (c.in_err-done.ensures a l) in
    done_stop a s.counts (line_end S a true l s.last) _ c.in_err-done.field-0.0 m s.names.now s.cells.now s.values.now x e c.from_residual.ensures.1

pub put_new-requires : goal.put_new-requires
put_new-requires c =
    let p = c.requires in
    (p.0, p.1, p.2, node-place c.args.counts.nodes p.4, p.5, p.8)

pub returns : goal.returns
returns c =
    let s = c.args in
    let S = s.book.now in
    λ a t h row.
    let w = slice (s.at + 1) s.end S in
    let l = node w t in
    let n = s.counts.nodes in
    let e = h.names_counted nodes in
    let d : Counts × ℕ = c.in_ok-done.done in
    let y = ended-yes S a true l s.last c.with_name.result d (c.in_ok-done.ensures a l) in
    done_yes a s.counts (line_end S a true l s.last) l d.1 _ s.names.now _ s.cells.now _ s.values.now _
    y.0
    (ap Ok (y.1 ∙ ap (λ (m : Counts). (m, d.1)) (c.with_name.ensures ∙ node-counted w t s.counts)))
    (c.put_new.ensures ∙ node-names a w t s.x s.value n e s.names.now)
    (c.put_row.ensures ∙ node-cells a w t s.x s.value n e s.cells.now row)
    (ap (λ (z : ℤ). set s.values.now n z) (to_z-of_z c.ranges.value) ∙ node-values a w t s.x s.value n e s.values.now row)
