use Prim.Native.Nat.{◌+◌}
use mathlib.Core.Path.{refl, ◌∙◌}
use mathlib.Core.List.{[], ◌∷◌}
use mathlib.Core.Bool.{true}
use native.Mathlib.Omega.{arith}
use lib.ListN.{length}
use lib.Seq.{slice}
use Rattle.model.specs.Graph.{tagged}
use Rattle.model.specs.Books.{node, nodes, langs}
use Rattle.grammar.specs.Syntax.{new, used, words_l, line_family}
use Rattle.grammar.specs.Reading.{max_within, arg_at, after, readers_at, line_room, begun_above}
use Rattle.encoding.specs.Rows.{node_row}
use Rattle.itemreader.specs.Answers.{same}
use Rattle.itemreader.proofs.Items.{number_got}
use Rattle.linereader.specs.Storing.{line_end, line_body}
use Rattle.linereader.proofs.Bodies.{item-stop, new_got, new_facts, node-room, done_stop, done_same, body_is, stop₁, stop₂, all₂}
use Rattle.linereader.proofs.words_line.Goals as goal

pub returns-in_err-end : goal.returns-in_err-end
returns-in_err-end c =
    let s = c.args in
    let S = s.book.now in
    λ a h.
    let (m, x, e) = item-stop S a (new nodes) length (begun_above a) s.at c.in_err-end.field-0.0 (c.in_err-end.ensures.reads a h) in
    done_stop a s.counts (line_body S a words_l s.at) _ c.in_err-end.field-0.0 m s.names.now s.cells.now s.values.now
    (body_is S a words_l s.at ∙ stop₁ S a (line_room S a words_l) (new nodes) ((used langs) ∷ []) (line_family.build words_l) (begun_above a) s.at m x) e c.from_residual.ensures.1

pub read_used-requires : goal.read_used-requires
read_used-requires c = c.in_ok-end.ensures.below.1

pub returns-in_err-l : goal.returns-in_err-l
returns-in_err-l c =
    let s = c.args in
    let S = s.book.now in
    λ a h.
    let w = slice (s.at + 1) c.in_ok-end.end S in
    let b = begun_above a in
    let g = new_got S a nodes b s.at c.in_ok-end.field-0-0 c.in_ok-end.end (c.in_ok-end.ensures.reads a h) in
    let (m, x, e) = item-stop S a (used langs) same (after (new nodes) w b) c.in_ok-end.end c.in_err-l.field-0.0 (c.in_err-l.ensures.reads a h) in
    done_stop a s.counts (line_body S a words_l s.at) _ c.in_err-l.field-0.0 m s.names.now s.cells.now s.values.now
    (body_is S a words_l s.at ∙ stop₂ S a (line_room S a words_l) (new nodes) (used langs) ([]) (line_family.build words_l) b s.at w c.in_ok-end.end g m x) e c.from_residual-in_err-l.ensures.1

pub overflow_cast-x : goal.overflow_cast-x
overflow_cast-x c =
    let b = c.in_ok-l.ensures.below.0 in
    let n = c.requires.4.lang_limit in
    omega arith

pub node_end-requires : goal.node_end-requires
node_end-requires c =
    let s = c.args in
    let q = c.requires in
    let (a, h) = q.5 in
    let f = new_facts s.book.now a nodes (begun_above a) s.at c.in_ok-end.field-0-0 c.in_ok-end.end (c.in_ok-end.ensures.reads a h) in
    let m = node-room s.counts.nodes (let x = f.room in let y = h.names_counted nodes in omega arith) in
    (f.from, f.within, f.short, c.in_ok-l.ensures.below.1, m, q.1, q.2, q.3, q.4)

pub returns : goal.returns
unfolding line_room node_row
returns c =
    let s = c.args in
    let S = s.book.now in
    λ a h.
    let w = slice (s.at + 1) c.in_ok-end.end S in
    let R = readers_at S a max_within in
    let b = begun_above a in
    let b₁ = after (new nodes) w b in
    let g = new_got S a nodes b s.at c.in_ok-end.field-0-0 c.in_ok-end.end (c.in_ok-end.ensures.reads a h) in
    let g₂ = number_got (arg_at S a R (used langs) b₁ c.in_ok-end.end) c.in_ok-l.l c.in_ok-l.last (c.in_ok-l.ensures.reads a h R b₁) in
    let q = body_is S a words_l s.at ∙ all₂ S a true (new nodes) (used langs) (line_family.build words_l) b s.at w c.in_ok-end.end g c.in_ok-l.l c.in_ok-l.last g₂ in
    let t = tagged c.in_ok-l.l in
    done_same a s.counts (line_body S a words_l s.at) (line_end S a true (node w t) c.in_ok-l.last) _ s.names.now _ s.cells.now _ s.values.now _ q (c.node_end.ensures a t h (refl, refl, refl, refl))
