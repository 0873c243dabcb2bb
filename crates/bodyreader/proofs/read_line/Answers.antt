use mathlib.Core.Path.{refl, sym, ap, ◌∙◌}
use mathlib.Core.Bool.{false}
use lib.ListN.{length, get_or}
use Rattle.std.specs.Prelude.{Ok}
use Rattle.grammar.specs.Syntax.{link_l, line_family}
use Rattle.grammar.specs.Reading.{line_at}
use Rattle.itemreader.proofs.Heads.{headed-word}
use Rattle.linereader.specs.Storing.{line_body}
use Rattle.linereader.proofs.Bodies.{done_no, done_stop, done_same}
use Rattle.bodyreader.proofs.Words.{line-bare, line-unknown, line_word_lem}
use Rattle.bodyreader.proofs.read_line.Goals as goal

pub returns-in_err-k : goal.returns-in_err-k
returns-in_err-k c =
    let s = c.args in
    λ a h kinds.
    let (m, x, e) = line-unknown s.book.now a s.at c.in_err-k.field-0.0 (sym c.in_err-k.ensures.value) in
    done_stop a s.counts (line_at s.book.now a s.at) _ c.in_err-k.field-0.0 m s.names.now s.cells.now s.values.now x e c.from_residual.ensures.1

pub returns-in_default : goal.returns-in_default
returns-in_default c =
    let s = c.args in
    λ a h kinds. done_no a s.counts (line_at s.book.now a s.at) _ 2 s.names.now s.cells.now s.values.now (line-bare s.book.now a s.at (sym c.in_ok-k.ensures.value ∙ ap Ok c.in_default.is)) refl

pub read_body-requires : goal.read_body-requires
read_body-requires c =
    let s = c.args in
    let p = c.requires in
    let w = headed-word 11 1 false (length s.book.now) (Ok c.in_ok-k.field-0) c.in-Some.k c.in-Some.end c.in_ok-k.ensures.headed (ap Ok c.in-Some.is) in
    (w.3, w.0, p.1, p.2, p.3, p.4, p.5, p.6, p.7)

pub returns : goal.returns
returns c =
    let s = c.args in
    let S = s.book.now in
    λ a h kinds. done_same a s.counts (line_at S a s.at) (line_body S a (get_or line_family.codes c.in-Some.k link_l) c.in-Some.end) _ s.names.now _ s.cells.now _ s.values.now _ (line_word_lem S a s.at c.in-Some.k c.in-Some.end (sym c.in_ok-k.ensures.value ∙ ap Ok c.in-Some.is)) (c.read_body.ensures a h kinds)
