use Prim.Native.Nat.{◌+◌}
use mathlib.Core.Bool.{true}
use native.Mathlib.Omega.{arith}
use lib.ListN.{length}
use lib.Seq.{slice}
use Rattle.model.specs.Books.{node, nodes}
use Rattle.grammar.specs.Syntax.{new}
use Rattle.grammar.specs.Reading.{begun_above}
use Rattle.linereader.specs.Storing.{line_end, line_body, resource_code, resource_term}
use Rattle.linereader.proofs.Bodies.{item-stop, new_got, new_facts, node-room, done_stop, done_same, resource_stop, resource_got, resource_row}
use Rattle.linereader.proofs.resource_line.Goals as goal

pub returns-in_err-end : goal.returns-in_err-end
returns-in_err-end c =
    let s = c.args in
    let S = s.book.now in
    λ a h.
    let (m, x, e) = item-stop S a (new nodes) length (begun_above a) s.at c.in_err-end.field-0.0 (c.in_err-end.ensures.reads a h) in
    done_stop a s.counts (line_body S a (resource_code s.kind) s.at) _ c.in_err-end.field-0.0 m s.names.now s.cells.now s.values.now (resource_stop S a s.kind s.at m x) e c.from_residual.ensures.1

pub node_end-requires : goal.node_end-requires
node_end-requires c =
    let s = c.args in
    let q = c.requires in
    let (a, h) = q.6 in
    let f = new_facts s.book.now a nodes (begun_above a) s.at c.in_ok-end.field-0-0 c.in_ok-end.end (c.in_ok-end.ensures.reads a h) in
    let m = node-room s.counts.nodes (let x = f.room in let y = h.names_counted nodes in omega arith) in
    (f.from, f.within, f.short, f.within, m, q.2, q.3, q.4, q.5)

pub returns : goal.returns
returns c =
    let s = c.args in
    let S = s.book.now in
    λ a h.
    let w = slice (s.at + 1) c.in_ok-end.end S in
    let e = resource_got S a s.kind s.at w c.in_ok-end.end (new_got S a nodes (begun_above a) s.at c.in_ok-end.field-0-0 c.in_ok-end.end (c.in_ok-end.ensures.reads a h)) in
    done_same a s.counts (line_body S a (resource_code s.kind) s.at) (line_end S a true (node w (resource_term s.kind)) c.in_ok-end.end) _ s.names.now _ s.cells.now _ s.values.now _ e (c.node_end.ensures a (resource_term s.kind) h (resource_row s.kind c.requires.1))
