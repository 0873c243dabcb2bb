use Prim.Native.Nat.{ℕ}
use mathlib.Core.Path.{refl, ap, ◌∙◌}
use mathlib.Core.List.{[], ◌∷◌}
use mathlib.Core.Bool.{Bool}
use Rattle.std.specs.Prelude.{Ok}
use Rattle.model.specs.Graph.{Triple}
use Rattle.model.specs.Books.{fact, nodes, links}
use Rattle.model.specs.declared.Counts.{Counts}
use Rattle.grammar.specs.Syntax.{subject, used, fact_l, line_family}
use Rattle.grammar.specs.Reading.{max_within, arg_at, after, readers_at, line_room, begun_above}
use Rattle.stores.specs.Lines.{line_names, line_values}
use Rattle.itemreader.specs.Answers.{same}
use Rattle.itemreader.proofs.Items.{number_got}
use Rattle.linereader.specs.Storing.{ended_with, line_end, line_body}
use Rattle.linereader.proofs.Bodies.{item-stop, done_stop, done_yes, ended-no, ended-yes, body_is, stop₁, stop₂, stop₃, all₃, fact_cells, fact_more, fact_counted, fact_room}
use Rattle.linereader.proofs.fact_line.Goals as goal

pub returns-in_err-s : goal.returns-in_err-s
returns-in_err-s c =
    let s = c.args in
    let S = s.book.now in
    λ a vs h kinds.
    let b = begun_above a in
    let (m, x, e) = item-stop S a subject same b s.at c.in_err-s.field-0.0 (c.in_err-s.ensures.reads a h kinds) in
    done_stop a s.pools.counts (line_body S a fact_l s.at) _ c.in_err-s.field-0.0 m s.pools.names.now s.cells.now vs
    (body_is S a fact_l s.at ∙ stop₁ S a (line_room S a fact_l) subject (used links ∷ used nodes ∷ []) (line_family.build fact_l) b s.at m x) e c.from_residual.ensures.1

pub read_used-requires : goal.read_used-requires
read_used-requires c = c.in_ok-s.ensures.below.1

pub returns-in_err-p : goal.returns-in_err-p
returns-in_err-p c =
    let s = c.args in
    let S = s.book.now in
    λ a vs h kinds.
    let R = readers_at S a max_within in
    let b = begun_above a in
    let g = number_got (arg_at S a R subject b s.at) c.in_ok-s.s c.in_ok-s.i (c.in_ok-s.ensures.reads a h kinds R b) in
    let (m, x, e) = item-stop S a (used links) same (after subject c.in_ok-s.s b) c.in_ok-s.i c.in_err-p.field-0.0 (c.in_err-p.ensures.reads a h) in
    done_stop a s.pools.counts (line_body S a fact_l s.at) _ c.in_err-p.field-0.0 m s.pools.names.now s.cells.now vs
    (body_is S a fact_l s.at ∙ stop₂ S a (line_room S a fact_l) subject (used links) (used nodes ∷ []) (line_family.build fact_l) b s.at c.in_ok-s.s c.in_ok-s.i g m x) e c.from_residual-in_err-p.ensures.1

pub read_used-requires-2 : goal.read_used-requires-2
read_used-requires-2 c = c.in_ok-p.ensures.below.1

pub returns-in_err-o : goal.returns-in_err-o
returns-in_err-o c =
    let s = c.args in
    let S = s.book.now in
    λ a vs h kinds.
    let R = readers_at S a max_within in
    let b = begun_above a in
    let g = number_got (arg_at S a R subject b s.at) c.in_ok-s.s c.in_ok-s.i (c.in_ok-s.ensures.reads a h kinds R b) in
    let b₁ = after subject c.in_ok-s.s b in
    let g₂ = number_got (arg_at S a R (used links) b₁ c.in_ok-s.i) c.in_ok-p.p c.in_ok-p.j (c.in_ok-p.ensures.reads a h R b₁) in
    let (m, x, e) = item-stop S a (used nodes) same (after (used links) c.in_ok-p.p b₁) c.in_ok-p.j c.in_err-o.field-0.0 (c.in_err-o.ensures.reads a h) in
    done_stop a s.pools.counts (line_body S a fact_l s.at) _ c.in_err-o.field-0.0 m s.pools.names.now s.cells.now vs
    (body_is S a fact_l s.at ∙ stop₃ S a (line_room S a fact_l) subject (used links) (used nodes) [] (line_family.build fact_l) b s.at c.in_ok-s.s c.in_ok-s.i g c.in_ok-p.p c.in_ok-p.j g₂ m x) e c.from_residual-in_err-o.ensures.1

pub line_end-requires : goal.line_end-requires
line_end-requires c = c.in_ok-o.ensures.below.1

pub returns-in_err-done : goal.returns-in_err-done
returns-in_err-done c =
    let s = c.args in
    let S = s.book.now in
    λ a vs h kinds.
    let R = readers_at S a max_within in
    let b = begun_above a in
    let g = number_got (arg_at S a R subject b s.at) c.in_ok-s.s c.in_ok-s.i (c.in_ok-s.ensures.reads a h kinds R b) in
    let b₁ = after subject c.in_ok-s.s b in
    let g₂ = number_got (arg_at S a R (used links) b₁ c.in_ok-s.i) c.in_ok-p.p c.in_ok-p.j (c.in_ok-p.ensures.reads a h R b₁) in
    let b₂ = after (used links) c.in_ok-p.p b₁ in
    let g₃ = number_got (arg_at S a R (used nodes) b₂ c.in_ok-p.j) c.in_ok-o.o c.in_ok-o.k (c.in_ok-o.ensures.reads a h R b₂) in
    let l = fact (record { subject = c.in_ok-s.s; predicate = c.in_ok-p.p; object = c.in_ok-o.o }) in
    let read = body_is S a fact_l s.at ∙ all₃ S a (line_room S a fact_l) subject (used links) (used nodes) (line_family.build fact_l) b s.at c.in_ok-s.s c.in_ok-s.i g c.in_ok-p.p c.in_ok-p.j g₂ c.in_ok-o.o c.in_ok-o.k g₃ in
    let q = c.in_err-done.ensures a l ∙ ap (λ (x : Bool). ended_with (fact_more s.pools.counts) (line_end S a x l c.in_ok-o.k)) (fact_room S a s.pools.counts.facts h.facts_counted) in
    let (m, x, e) = ended-no (fact_more s.pools.counts) (line_end S a (line_room S a fact_l) l c.in_ok-o.k) c.in_err-done.field-0.0 q in
    done_stop a s.pools.counts (line_body S a fact_l s.at) _ c.in_err-done.field-0.0 m s.pools.names.now s.cells.now vs (read ∙ x) e c.from_residual-in_err-done.ensures.1

pub returns : goal.returns
unfolding line_names line_values
returns c =
    let s = c.args in
    let S = s.book.now in
    λ a vs h kinds.
    let R = readers_at S a max_within in
    let b = begun_above a in
    let g = number_got (arg_at S a R subject b s.at) c.in_ok-s.s c.in_ok-s.i (c.in_ok-s.ensures.reads a h kinds R b) in
    let b₁ = after subject c.in_ok-s.s b in
    let g₂ = number_got (arg_at S a R (used links) b₁ c.in_ok-s.i) c.in_ok-p.p c.in_ok-p.j (c.in_ok-p.ensures.reads a h R b₁) in
    let b₂ = after (used links) c.in_ok-p.p b₁ in
    let g₃ = number_got (arg_at S a R (used nodes) b₂ c.in_ok-p.j) c.in_ok-o.o c.in_ok-o.k (c.in_ok-o.ensures.reads a h R b₂) in
    let t : Triple = record { subject = c.in_ok-s.s; predicate = c.in_ok-p.p; object = c.in_ok-o.o } in
    let l = fact t in
    let read = body_is S a fact_l s.at ∙ all₃ S a (line_room S a fact_l) subject (used links) (used nodes) (line_family.build fact_l) b s.at c.in_ok-s.s c.in_ok-s.i g c.in_ok-p.p c.in_ok-p.j g₂ c.in_ok-o.o c.in_ok-o.k g₃ in
    let d : Counts × ℕ = c.in_ok-done.done in
    let q = c.in_ok-done.ensures a l ∙ ap (λ (x : Bool). ended_with (fact_more s.pools.counts) (line_end S a x l c.in_ok-o.k)) (fact_room S a s.pools.counts.facts h.facts_counted) in
    let y = ended-yes S a (line_room S a fact_l) l c.in_ok-o.k (fact_more s.pools.counts) d q in
    done_yes a s.pools.counts (line_body S a fact_l s.at) l d.1 _ s.pools.names.now s.pools.names.now s.cells.now _ vs vs
    (read ∙ y.0)
    (ap Ok (y.1 ∙ ap (λ (n : Counts). (n, d.1)) (fact_counted t s.pools.counts)))
    refl
    (c.put_row.ensures ∙ fact_cells a s.pools.counts.facts c.in_ok-s.s c.in_ok-p.p c.in_ok-o.o s.cells.now h.facts_counted)
    refl
