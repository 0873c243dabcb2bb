use Prim.Native.Nat.{◌+◌}
use mir.Syntax.{w64}
use mathlib.Core.Path.{refl, ◌∙◌}
use mathlib.Core.List.{[], ◌∷◌}
use mathlib.Core.Bool.{true}
use native.Mathlib.Omega.{arith}
use lib.ListN.{length}
use lib.Seq.{slice}
use borrow.Author.Rules.{rules}
use mathlib.Core.Path.{◌≡◌}
use mir.Val.{to_z, of_z}
use Rattle.model.specs.Graph.{numeric}
use Rattle.model.specs.Books.{node, nodes}
use Rattle.grammar.specs.Syntax.{new, literal_type, value, number_l, line_family}
use Rattle.grammar.specs.Reading.{max_within, arg_at, after, readers_at, line_room, begun_above}
use Rattle.encoding.specs.Rows.{node_row}
use Rattle.itemreader.specs.Answers.{same}
use Rattle.itemreader.proofs.Items.{number_got, value_got, value_refused}
use Rattle.linereader.specs.Storing.{line_end, line_body}
use Rattle.linereader.proofs.Bodies.{item-stop, new_got, new_facts, node-room, done_stop, done_same, body_is, stop₁, stop₂, stop₃, all₃}
use Rattle.linereader.proofs.number_line.Goals as goal

pub returns-in_err-end : goal.returns-in_err-end
returns-in_err-end c =
    let s = c.args in
    let S = s.book.now in
    λ a h.
    let (m, x, e) = item-stop S a (new nodes) length (begun_above a) s.at c.in_err-end.field-0.0 (c.in_err-end.ensures.reads a h) in
    done_stop a s.counts (line_body S a number_l s.at) _ c.in_err-end.field-0.0 m s.names.now s.cells.now s.values.now
    (body_is S a number_l s.at ∙ stop₁ S a (line_room S a number_l) (new nodes) (literal_type ∷ value ∷ []) (line_family.build number_l) (begun_above a) s.at m x) e c.from_residual.ensures.1

pub read_type-requires : goal.read_type-requires
read_type-requires c = c.in_ok-end.ensures.below.1

pub returns-in_err-t : goal.returns-in_err-t
returns-in_err-t c =
    let s = c.args in
    let S = s.book.now in
    λ a h.
    let w = slice (s.at + 1) c.in_ok-end.end S in
    let b = begun_above a in
    let g = new_got S a nodes b s.at c.in_ok-end.field-0-0 c.in_ok-end.end (c.in_ok-end.ensures.reads a h) in
    let (m, x, e) = item-stop S a literal_type same (after (new nodes) w b) c.in_ok-end.end c.in_err-t.field-0.0 (c.in_err-t.ensures.reads a h) in
    done_stop a s.counts (line_body S a number_l s.at) _ c.in_err-t.field-0.0 m s.names.now s.cells.now s.values.now
    (body_is S a number_l s.at ∙ stop₂ S a (line_room S a number_l) (new nodes) literal_type (value ∷ []) (line_family.build number_l) b s.at w c.in_ok-end.end g m x) e c.from_residual-in_err-t.ensures.1

pub read_value-requires : goal.read_value-requires
read_value-requires c = c.in_ok-t.ensures.below.1

pub returns-in_err-value : goal.returns-in_err-value
returns-in_err-value c =
    let s = c.args in
    let S = s.book.now in
    λ a h.
    let w = slice (s.at + 1) c.in_ok-end.end S in
    let R = readers_at S a max_within in
    let b = begun_above a in
    let b₁ = after (new nodes) w b in
    let b₂ = after literal_type c.in_ok-t.t b₁ in
    let g = new_got S a nodes b s.at c.in_ok-end.field-0-0 c.in_ok-end.end (c.in_ok-end.ensures.reads a h) in
    let g₂ = number_got (arg_at S a R literal_type b₁ c.in_ok-end.end) c.in_ok-t.t c.in_ok-t.after (c.in_ok-t.ensures.reads a h R b₁) in
    let (m, x, e) = value_refused (arg_at S a R value b₂ c.in_ok-t.after) c.in_err-value.field-0.0 (c.in_err-value.ensures.value a R b₂) in
    done_stop a s.counts (line_body S a number_l s.at) _ c.in_err-value.field-0.0 m s.names.now s.cells.now s.values.now
    (body_is S a number_l s.at ∙ stop₃ S a (line_room S a number_l) (new nodes) literal_type value [] (line_family.build number_l) b s.at w c.in_ok-end.end g c.in_ok-t.t c.in_ok-t.after g₂ m x) e c.from_residual-in_err-value.ensures.1

pub overflow_cast-x : goal.overflow_cast-x
overflow_cast-x c =
    let b = c.in_ok-t.ensures.below.0 in
    let n = c.requires.4.type_limit in
    omega arith

pub node_end-requires : goal.node_end-requires
node_end-requires c =
    let s = c.args in
    let q = c.requires in
    let (a, h) = q.5 in
    let f = new_facts s.book.now a nodes (begun_above a) s.at c.in_ok-end.field-0-0 c.in_ok-end.end (c.in_ok-end.ensures.reads a h) in
    let m = node-room s.counts.nodes (let x = f.room in let y = h.names_counted nodes in omega arith) in
    (f.from, f.within, f.short, c.in_ok-value.ensures.inside, m, q.1, q.2, q.3, q.4)

pub returns : goal.returns
unfolding line_room node_row
returns c =
    let s = c.args in
    let S = s.book.now in
    λ a h.
    let w = slice (s.at + 1) c.in_ok-end.end S in
    let R = readers_at S a max_within in
    let b = begun_above a in
    let b₁ = after (new nodes) w b in
    let g = new_got S a nodes b s.at c.in_ok-end.field-0-0 c.in_ok-end.end (c.in_ok-end.ensures.reads a h) in
    let g₂ = number_got (arg_at S a R literal_type b₁ c.in_ok-end.end) c.in_ok-t.t c.in_ok-t.after (c.in_ok-t.ensures.reads a h R b₁) in
    let b₂ = after literal_type c.in_ok-t.t b₁ in
    let g₃ = value_got (arg_at S a R value b₂ c.in_ok-t.after) c.in_ok-value.value c.in_ok-value.last (c.in_ok-value.ensures.value a R b₂) in
    let q = body_is S a number_l s.at ∙ all₃ S a true (new nodes) literal_type value (line_family.build number_l) b s.at w c.in_ok-end.end g c.in_ok-t.t c.in_ok-t.after g₂ c.in_ok-value.value c.in_ok-value.last g₃ in
    let t = numeric c.in_ok-t.t c.in_ok-value.value in
    let z : to_z w64 (of_z w64 c.in_ok-value.value) ≡ c.in_ok-value.value = search rules in
    done_same a s.counts (line_body S a number_l s.at) (line_end S a true (node w t) c.in_ok-value.last) _ s.names.now _ s.cells.now _ s.values.now _ q (c.node_end.ensures a t h (refl, refl, refl, z))
