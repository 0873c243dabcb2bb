-- `sub_class_link` meets its contract. The invariant: no link before link k has the name.
use Prim.Native.Nat.{ℕ, ◌<◌}
use mathlib.Core.Bool.{Bool}
use mathlib.Core.Path.{refl, sym, ◌∙◌, subst}
use native.Mathlib.Omega.{arith}
use Rattle.base.specs.Bytes.{eql}
use Rattle.base.specs.Lists.{allb}
use Rattle.base.proofs.Least.{none_more}
use Rattle.model.specs.Books.{under}
use Rattle.tables.specs.Layout.{link_count}
use Rattle.tables.specs.Names.{link_name_at, sub_class_at}
use Rattle.tables.proofs.WellFormed.{sound}
use Rattle.targets.proofs.Names.{found_here, found_none}
use Rattle.targets.proofs.sub_class_link.Goals as goal

pub loop-k-init : goal.loop-k-init
loop-k-init c = (omega arith, λ j l. absurd (omega arith))

pub is_named-requires : goal.is_named-requires
unfolding allb
is_named-requires c = (omega (arith, c.requires.0, c.loop-k-test.true, (sound c.args.cells.now c.requires.1).links, c.link_count-count.ensures), omega arith, refl)

pub loop-k-preserved : goal.loop-k-preserved
loop-k-preserved c =
    let l = c.loop-k in
    (omega (arith, c.loop-k-test.true), none_more (λ j. eql under (link_name_at c.args.names.now j)) l.k l.invariant.1 (sym c.is_named.ensures ∙ c.if-is_named.false))

pub returns-then-is_named : goal.returns-then-is_named
unfolding sub_class_at
returns-then-is_named c =
    let l = c.loop-k in
    let p : ℕ → Bool = λ j. eql under (link_name_at c.args.names.now j) in
    found_here p (link_count c.args.cells.now) l.k (subst (λ (n : ℕ). l.k < n) c.link_count-count.ensures c.loop-k-test.true) l.invariant.1 (sym c.is_named.ensures ∙ c.if-is_named.true)

pub returns : goal.returns
unfolding sub_class_at
returns c =
    let l = c.loop-k in
    let p : ℕ → Bool = λ j. eql under (link_name_at c.args.names.now j) in
    found_none p (link_count c.args.cells.now) (λ j m. l.invariant.1 j (omega (arith, m, c.link_count-count.ensures, c.loop-k-test.false)))
