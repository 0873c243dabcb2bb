use mathlib.Core.Path.{sym, ap, ◌∙◌}
use mathlib.Core.Bool.{not}
use borrow.Author.Tests.{not-true, not-false}
use Rattle.grammar.specs.Valid.{well_named, reserved}
use Rattle.itemreader.proofs.is_well_named.Goals as goal

pub returns-then-not-is_name : goal.returns-then-not-is_name
unfolding well_named
returns-then-not-is_name c =
    let n = not-true _ c.if-not-is_name.true-raw in
    rw (sym c.is_name.ensures ∙ n)

pub returns-in-Links : goal.returns-in-Links
unfolding well_named reserved
returns-in-Links c =
    let n = not-false _ c.if-not-is_name.false-raw in
    rw (c.in-Links.is, sym c.is_name.ensures ∙ n) (ap not c.is_word.ensures)

pub returns-in-Nodes : goal.returns-in-Nodes
unfolding well_named reserved
returns-in-Nodes c =
    let n = not-false _ c.if-not-is_name.false-raw in
    rw (c.in-Nodes.is, sym c.is_name.ensures ∙ n)

pub returns-in-Types : goal.returns-in-Types
unfolding well_named reserved
returns-in-Types c =
    let n = not-false _ c.if-not-is_name.false-raw in
    rw (c.in-Types.is, sym c.is_name.ensures ∙ n)

pub returns-in-Langs : goal.returns-in-Langs
unfolding well_named reserved
returns-in-Langs c =
    let n = not-false _ c.if-not-is_name.false-raw in
    rw (c.in-Langs.is, sym c.is_name.ensures ∙ n)

pub returns-in-Shapes : goal.returns-in-Shapes
unfolding well_named reserved
returns-in-Shapes c =
    let n = not-false _ c.if-not-is_name.false-raw in
    rw (c.in-Shapes.is, sym c.is_name.ensures ∙ n)
