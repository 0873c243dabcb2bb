-- `spares` meets its contract.
use Prim.Native.Nat.{ℕ, ◌<◌}
use mathlib.Core.Path.{sym, ap, ◌∙◌, subst}
use Rattle.nodeset.specs.Words.{words_of}
use Rattle.closure.specs.Rows.{leads, Within}
use Rattle.model.specs.Repeats.{star}
use Rattle.tables.proofs.WellFormed.{sound}
use Rattle.nearest.proofs.Searching.{spares-reached}
use Rattle.nearest.proofs.spares.Goals as goal

pub search-all-requires : goal.search-all-requires
search-all-requires c = subst (λ (n : ℕ). c.args.v < n) (sym c.requires.2) c.requires.1

pub returns : goal.returns
returns c =
    let a = c.args in
    let pre = c.requires in
    let rows = a.relation.rows.now in
    spares-reached a.tables.cells.now a.tables.values.now rows a.v a.e (sound a.tables.cells.now a.tables.made.ok).nodes (subst (λ (n : ℕ). Within n rows) pre.2 a.relation.within) pre.1 c.search-all.result.nodes.words c.conforming_among-set.result.words
    (c.search-all.ensures.words_value ∙ ap (λ (n : ℕ). words_of (star (leads rows) n a.v) 16) pre.2) c.conforming_among-set.ensures c.intersection.ensures
