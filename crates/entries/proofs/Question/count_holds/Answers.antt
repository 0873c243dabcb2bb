-- `count_holds` meets its contract: the ones of the ANDed words are the ends that conform to the part.
use mathlib.Core.Path.{ap, ◌∙◌}
use Prim.Native.Nat.{ℕ}
use Rattle.model.specs.Paths.{ends, ends_of}
use Rattle.nodeset.specs.Words.{words_of}
use Rattle.tables.specs.Layout.{node_count, form_first_at}
use Rattle.tables.specs.Decode.{triples_at, path_at, upper_of}
use Rattle.paths.specs.Ends.{end_in}
use mathlib.Core.List.{[]}
use Rattle.model.specs.Shapes.{within}
use Rattle.entries.proofs.Ends.{path-ok}
use Rattle.entries.proofs.Codes.{nodes_le, count_path}
use Rattle.entries.proofs.Sets.{size_of}
use Rattle.entries.proofs.Question.count_holds.Goals as goal

pub ends-set-requires : goal.ends-set-requires
ends-set-requires c =
    let a = c.args in
    let cs = a.self.tables.cells.now in
    let p = a.self.asked in
    path-ok cs (c.wide.ensures ∙ c.form_first.ensures) (count_path cs p.tables [] a.self.form p.entry c.requires.0)

pub returns : goal.returns
unfolding end_in ends_of
returns c =
    let a = c.args in
    let cs = a.self.tables.cells.now in
    let p = a.self.asked in
    let s = size_of a.part.now (ends (node_count cs) (triples_at cs) (path_at cs (form_first_at cs a.self.form)) a.self.node.0) (node_count cs) (nodes_le cs p.tables) (c.ends-set.ensures ∙ ap (λ (i : ℕ). words_of (ends (node_count cs) (triples_at cs) (path_at cs i) a.self.node.0) 16) (c.wide.ensures ∙ c.form_first.ensures)) c.requires.1 in
    c.between.ensures ∙ (λ i. within ((c.wide-2.ensures ∙ c.form_third.ensures) i) (upper_of ((c.wide-3.ensures ∙ c.form_fourth.ensures) i)) ((c.count_both-k.ensures ∙ s) i))
