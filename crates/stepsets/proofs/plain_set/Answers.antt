use mathlib.Core.Bool.{false}
use mathlib.Core.Path.{◌≡◌, ap, ◌∙◌}
use native.Mathlib.Omega.{arith}
use borrow.Author.Rules.{rules}
use lib.ListN.{replicate}
use Rattle.nodeset.specs.Words.{has, nodes_of}
use Rattle.nodeset.proofs.Sets.{has_zeros}
use Rattle.tables.proofs.WellFormed.{sound}
use Rattle.stepsets.specs.Conditions.{holds_of}
use Rattle.stepsets.proofs.Conditions.{holds_ext}
use Rattle.stepsets.proofs.plain_set.Goals as goal

pub nodes_where-requires : goal.nodes_where-requires
nodes_where-requires c = (omega (arith, c.node_count.ensures, (sound c.args.tables.cells.now c.args.tables.made.ok).nodes), λ v l. search rules)

pub returns : goal.returns
returns c =
    let t = c.args.tables in
    let cs = t.cells.now in
    c.nodes_where.ensures (λ v. holds_of cs t.values.now c.args.condition (λ w. false) (λ w. false) v)
    (λ v yes l k.
    let h : yes ≡ holds_of cs t.values.now c.args.condition (has (replicate 16 0)) (has (replicate 16 0)) v.0 = search rules in
    h ∙ holds_ext cs t.values.now (sound cs t.made.ok) (λ w lw. has_zeros 16 w) (λ w lw. has_zeros 16 w) v.0 c.args.condition)
    ∙ ap (nodes_of (λ v. holds_of cs t.values.now c.args.condition (λ w. false) (λ w. false) v)) c.node_count.ensures
