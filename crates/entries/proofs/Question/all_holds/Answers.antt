-- `all_holds` meets its contract: the end set lies in the part.
use mathlib.Core.Path.{ap, ◌∙◌}
use Prim.Native.Nat.{ℕ}
use Rattle.model.specs.Paths.{ends, ends_of}
use native.Mathlib.Omega.{arith}
use Rattle.nodeset.specs.Words.{has, words_of}
use Rattle.tables.specs.Layout.{node_count, form_first_at}
use Rattle.tables.specs.Decode.{triples_at, path_at}
use Rattle.paths.specs.Ends.{end_in}
use mathlib.Core.List.{[]}
use Rattle.model.specs.Shapes.{subset}
use Rattle.conditions.proofs.Searches.{subset-kept}
use Rattle.entries.proofs.Ends.{path-ok}
use Rattle.entries.proofs.Codes.{nodes_le, all_path}
use Rattle.entries.proofs.Sets.{every_of}
use Rattle.entries.proofs.Question.all_holds.Goals as goal

pub ends-set-requires : goal.ends-set-requires
ends-set-requires c =
    let a = c.args in
    let cs = a.self.tables.cells.now in
    let p = a.self.asked in
    path-ok cs (c.wide.ensures ∙ c.form_first.ensures) (all_path cs p.tables [] a.self.form p.entry c.requires)

pub first_outside-requires : goal.first_outside-requires
first_outside-requires c = let r = c.args in omega (arith, c.node_count.ensures, nodes_le r.self.tables.cells.now c.args.self.asked.tables)

pub returns : goal.returns
unfolding end_in ends_of
returns c =
    let a = c.args in
    let cs = a.self.tables.cells.now in
    let p = a.self.asked in
    subset-kept c.node_count.result (has c.ends-set.result.words) (has a.part.now) c.first_outside.result c.first_outside.ensures c.is_none.ensures ∙ ap (λ (n : ℕ). subset n (has c.ends-set.result.words) (has a.part.now)) c.node_count.ensures
    ∙ every_of a.part.now (ends (node_count cs) (triples_at cs) (path_at cs (form_first_at cs a.self.form)) a.self.node.0) (node_count cs) (nodes_le cs p.tables) (c.ends-set.ensures ∙ ap (λ (i : ℕ). words_of (ends (node_count cs) (triples_at cs) (path_at cs i) a.self.node.0) 16) (c.wide.ensures ∙ c.form_first.ensures))
