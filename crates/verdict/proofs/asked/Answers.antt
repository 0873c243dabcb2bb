-- `asked` meets its contract, by whether the entry looks along a path.
use mathlib.Core.Path.{sym, ap, ◌∙◌}
use Prim.Native.Nat.{ℕ}
use borrow.Author.Tests.{lt-ltb}
use lib.Dec.{ltb}
use Rattle.model.specs.Paths.{ends, ends_of}
use Rattle.nodeset.specs.Words.{has, words_of}
use Rattle.tables.specs.Layout.{node_count, path_count, form_first_at}
use Rattle.tables.specs.Decode.{triples_at, path_at}
use Rattle.paths.specs.Images.{image}
use Rattle.paths.specs.Ends.{end_in, end_known}
use Rattle.verdict.proofs.Parts.{looks_path, asked_ends, asked_here}
use Rattle.verdict.proofs.asked.Goals as goal

pub ends_from-requires : goal.ends_from-requires
unfolding end_known
ends_from-requires c =
    let a = c.args in
    let cs = a.tables.cells.now in
    let t = a.tables.made in
    ap (λ (i : ℕ). ltb i (path_count cs)) (c.wide.ensures ∙ c.form_first.ensures) ∙ lt-ltb (form_first_at cs a.e) (path_count cs) (looks_path cs a.e t c.requires (sym c.looks_at_ends.ensures ∙ c.if-looks_at_ends.true))

pub returns-then-looks_at_ends : goal.returns-then-looks_at_ends
unfolding end_in ends_of
returns-then-looks_at_ends c =
    let a = c.args in
    let cs = a.tables.cells.now in
    asked_ends cs a.e a.tables.made c.requires a.nodes.words c.ends_from.result.words (sym c.looks_at_ends.ensures ∙ c.if-looks_at_ends.true)
    (c.ends_from.ensures ∙ ap (λ (i : ℕ). words_of (image (node_count cs) (ends (node_count cs) (triples_at cs) (path_at cs i)) (has a.nodes.words)) 16) (c.wide.ensures ∙ c.form_first.ensures))

pub returns : goal.returns
returns c = let a = c.args in asked_here a.tables.cells.now a.e a.nodes.words (sym c.looks_at_ends.ensures ∙ c.if-looks_at_ends.false)
