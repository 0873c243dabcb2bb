-- `lang_set` meets its contract, by the rows of the path.
use Prim.Native.Nat.{ℕ, ◌-◌, ◌*◌, ◌<◌}
use mathlib.Core.List.{List}
use mathlib.Core.Path.{◌≡◌, ap, ◌∙◌}
use native.Mathlib.Omega.{arith}
use borrow.Author.Rules.{rules}
use borrow.Author.Tests.{lt-ltb}
use lib.ListN.{length, take, drop}
use Rattle.nodeset.specs.Words.{has, nodes_of}
use Rattle.nodeset.proofs.Sets.{has_of}
use Rattle.model.specs.Paths.{ends_of}
use Rattle.model.specs.Shapes.{from}
use Rattle.tables.specs.Layout.{node_count, path_count}
use Rattle.tables.specs.Decode.{graph_at, path_at}
use Rattle.tables.proofs.WellFormed.{sound}
use Rattle.paths.specs.Ends.{end_in, end_known}
use Rattle.paths.specs.declared.End.TheVariants.{Path}
use Rattle.stepsets.specs.Conditions.{holds_of, tagged}
use Rattle.stepsets.proofs.Conditions.{holds_ext}
use Rattle.stepsets.proofs.Nodes.{part-from}
use Rattle.stepsets.proofs.Rows.{row_ends, held_of}
use Rattle.stepsets.proofs.lang_set.Goals as goal

pub fill-requires : goal.fill-requires
unfolding end_known
fill-requires g c = (lt-ltb c.args.path (path_count c.args.rows.now.tables.cells.now) c.requires.0, c.args.rows.now.first_held)

pub returns-clause-words_value : goal.returns-clause-words_value
unfolding end_in ends_of graph_at
returns-clause-words_value g c =
    let a = c.args in
    let t = a.rows.now.tables in
    let cs = t.cells.now in
    let vs = t.values.now in
    let rows = c.fill.new.rows in
    c.nodes_where.ensures (λ v. holds_of cs vs a.condition (from (graph_at cs vs) (path_at cs a.path) v) (tagged cs) v)
    (λ v yes l k.
    let low : v.0 < node_count cs = omega (arith, l, c.node_count.ensures) in
    let h : yes ≡ holds_of cs vs a.condition (has (take (length rows - 16 * v.0) (drop (16 * v.0) rows))) (has (c.languages-set.result.words)) v.0 = search rules in
    h
    ∙ holds_ext cs vs (sound cs t.made.ok)
    (λ w lw. ap (λ (d : List ℕ). has d w) (part-from rows (16 * v.0)) ∙ row_ends cs t.index.now t.made (Path a.path) (held_of c.fill.ensures.new_of c.fill.ensures.held) v.0 low w lw)
    (λ w lw. has_of (tagged cs) 16 c.languages-set.ensures w lw) v.0 a.condition)
    ∙ ap (nodes_of (λ v. holds_of cs vs a.condition (from (graph_at cs vs) (path_at cs a.path) v) (tagged cs) v)) c.node_count.ensures
