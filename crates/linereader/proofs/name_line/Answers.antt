use Prim.Native.Nat.{ℕ, ◌+◌}
use mathlib.Core.Path.{ap, ◌∙◌}
use mathlib.Core.Bool.{true}
use native.Mathlib.Omega.{arith}
use lib.ListN.{length}
use lib.Seq.{slice}
use Rattle.std.specs.Prelude.{Ok}
use Rattle.itemreader.specs.Answers.{pool_of}
use Rattle.itemreader.specs.Held.{count_of}
use Rattle.grammar.specs.Syntax.{new}
use Rattle.grammar.specs.Reading.{begun_above}
use Rattle.model.specs.declared.Counts.{Counts}
use Rattle.linereader.specs.Storing.{line_body, line_end, name_line_code, name_line}
use Rattle.linereader.proofs.Bodies.{item-stop, new_got, new_facts, new_place, done_stop, done_yes, ended-no, ended-yes, lone_stop, lone_got, lone_names, lone_cells, lone_values, lone_counted}
use Rattle.linereader.proofs.name_line.Goals as goal

pub returns-in_err-end : goal.returns-in_err-end
returns-in_err-end c =
    let s = c.args in
    let p = pool_of s.pool in
    λ a cs vs h.
    let (m, x, e) = item-stop s.book.now a (new p) length (begun_above a) s.at c.in_err-end.field-0.0 (c.in_err-end.ensures.reads a h) in
    done_stop a s.counts (line_body s.book.now a (name_line_code p) s.at) _ c.in_err-end.field-0.0 m s.names.now cs vs (lone_stop s.book.now a p c.requires.4 s.at m x) e c.from_residual.ensures.1

pub line_end-requires : goal.line_end-requires
line_end-requires c = c.in_ok-end.ensures.below.1

pub returns-in_err-done : goal.returns-in_err-done
returns-in_err-done c =
    let s = c.args in
    let p = pool_of s.pool in
    λ a cs vs h.
    let w = slice (s.at + 1) c.in_ok-end.end s.book.now in
    let g = lone_got s.book.now a p c.requires.4 s.at w c.in_ok-end.end (new_got s.book.now a p (begun_above a) s.at c.in_ok-end.field-0-0 c.in_ok-end.end (c.in_ok-end.ensures.reads a h)) in
    let (m, x, e) = ended-no c.with_name.result (line_end s.book.now a true (name_line p w) c.in_ok-end.end) c.in_err-done.field-0.0 (c.in_err-done.ensures a (name_line p w)) in
    done_stop a s.counts (line_body s.book.now a (name_line_code p) s.at) _ c.in_err-done.field-0.0 m s.names.now cs vs (g ∙ x) e c.from_residual-in_err-done.ensures.1

pub put_new-requires : goal.put_new-requires
put_new-requires c =
    let s = c.args in
    let p = pool_of s.pool in
    let q = c.requires in
    let (a, h) = q.3 in
    let f = new_facts s.book.now a p (begun_above a) s.at c.in_ok-end.field-0-0 c.in_ok-end.end (c.in_ok-end.ensures.reads a h) in
    let l = new_place p (count_of s.counts p) (let m = f.room in let n = h.names_counted p in omega arith) in
    (f.from, f.within, f.short, l, q.1, q.2)

pub returns : goal.returns
returns c =
    let s = c.args in
    let p = pool_of s.pool in
    let lone = c.requires.4 in
    λ a cs vs h.
    let w = slice (s.at + 1) c.in_ok-end.end s.book.now in
    let g = lone_got s.book.now a p lone s.at w c.in_ok-end.end (new_got s.book.now a p (begun_above a) s.at c.in_ok-end.field-0-0 c.in_ok-end.end (c.in_ok-end.ensures.reads a h)) in
    let d : Counts × ℕ = c.in_ok-done.done in
    let y = ended-yes s.book.now a true (name_line p w) c.in_ok-end.end c.with_name.result d (c.in_ok-done.ensures a (name_line p w)) in
    done_yes a s.counts (line_body s.book.now a (name_line_code p) s.at) (name_line p w) d.1 _ s.names.now _ cs cs vs vs
    (g ∙ y.0)
    (ap Ok (y.1 ∙ ap (λ (n : Counts). (n, d.1)) (c.with_name.ensures ∙ lone_counted p lone w s.counts)))
    (c.put_new.ensures ∙ lone_names a w p lone (count_of s.counts p) (h.names_counted p) s.names.now)
    (lone_cells a w p lone cs)
    (lone_values a w p lone vs)
