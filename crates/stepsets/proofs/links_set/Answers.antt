-- `links_set` meets its contract: the set of listed links has the links of the list.
use mathlib.Core.Bool.{false}
use mathlib.Core.List.{[]}
use mathlib.Core.Path.{◌≡◌, ap, ◌∙◌}
use native.Mathlib.Omega.{arith}
use borrow.Author.Rules.{rules}
use lib.ListN.{replicate}
use Rattle.base.specs.Lists.{member}
use Rattle.nodeset.specs.Words.{has, nodes_of}
use Rattle.nodeset.proofs.Sets.{has_zeros}
use Rattle.tables.specs.Layout.{form_first_at, form_second_at}
use Rattle.tables.specs.Decode.{items_at}
use Rattle.tables.proofs.WellFormed.{sound}
use Rattle.conditions.proofs.Items.{links-has}
use Rattle.entries.proofs.Codes.{closed-links}
use Rattle.stepsets.specs.Conditions.{holds_of}
use Rattle.stepsets.proofs.Conditions.{holds_ext}
use Rattle.stepsets.proofs.links_set.Goals as goal

pub nodes_where-requires : goal.nodes_where-requires
nodes_where-requires c = (omega (arith, c.node_count.ensures, (sound c.args.tables.cells.now c.args.tables.made.ok).nodes), λ v l. search rules)

pub returns : goal.returns
returns c =
    let a = c.args in
    let pre = c.requires in
    let t = a.tables in
    let cs = t.cells.now in
    let vs = t.values.now in
    let s = sound cs t.made.ok in
    let i = form_first_at cs a.e in
    let n = form_second_at cs a.e in
    let links = c.listed_links-links in
    c.nodes_where.ensures (λ v. holds_of cs vs a.condition (λ w. false) (λ l. member l (items_at cs i n)) v)
    (λ v yes l k.
    let h : yes ≡ holds_of cs vs a.condition (has (replicate 16 0)) (has links.result.words) v.0 = search rules in
    h ∙ holds_ext cs vs s (λ w lw. has_zeros 16 w) (λ w lw. links-has cs i n (closed-links cs t.made [] a.e pre.0 pre.1) s.links links.ensures w) v.0 a.condition)
    ∙ ap (nodes_of (λ v. holds_of cs vs a.condition (λ w. false) (λ l. member l (items_at cs i n)) v)) c.node_count.ensures
