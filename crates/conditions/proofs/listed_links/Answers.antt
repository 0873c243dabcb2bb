-- `listed_links` meets its contract. The invariant: the set has the first k links of the list.
use Prim.Native.Nat.{ℕ, ◌+◌, ◌-◌}
use lib.ListN.{replicate}
use mathlib.Core.Path.{◌≡◌, ap, ◌∙◌, subst}
use native.Mathlib.Omega.{arith}
use Rattle.nodeset.specs.Words.{words_of}
use Rattle.tables.specs.Layout.{item_at, form_first_at, form_second_at}
use Rattle.conditions.specs.Pairs.{link_words}
use Rattle.conditions.proofs.Items.{begun, links-none, links-more, links-all}
use Rattle.conditions.proofs.listed_links.Goals as goal

pub loop-i-init : goal.loop-i-init
loop-i-init c =
    let a = c.args in
    let from : ℕ = form_first_at a.cells.now a.e in
    (c.wide-from.ensures ∙ c.form_first.ensures, subst (λ (k : ℕ). replicate link_words 0 ≡ words_of (begun a.cells.now from k) link_words) (omega arith) (links-none a.cells.now from))

pub loop-i-preserved : goal.loop-i-preserved
loop-i-preserved c =
    let a = c.args in
    let cs = a.cells.now in
    let l = c.loop-i in
    let from : ℕ = form_first_at cs a.e in
    let at : l.i ≡ from + (l.i - c.wide-from.result) = omega (arith, l.invariant.0, l.auto) in
    let next : (l.i - c.wide-from.result) + 1 ≡ (l.i + 1) - c.wide-from.result = omega (arith, l.auto) in
    (l.invariant.0, links-more cs from (l.i - c.wide-from.result) l.invariant.1 (c.item_link.ensures ∙ ap (item_at cs) at) c.insert.ensures ∙ ap (λ (k : ℕ). words_of (begun cs from k) link_words) next)

pub returns : goal.returns
returns c =
    let a = c.args in
    let l = c.loop-i in
    let q : l.i - c.wide-from.result ≡ form_second_at a.cells.now a.e = omega (arith, c.loop-i-test, l.auto, c.wide-count.ensures, c.form_second.ensures) in
    links-all a.cells.now (form_first_at a.cells.now a.e) (form_second_at a.cells.now a.e) (l.i - c.wide-from.result) q l.invariant.1
