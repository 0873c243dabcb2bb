-- `target_set` meets its contract: From, Into and Typed by the facts of one link each.
use Prim.Native.Nat.{ℕ}
use mathlib.Core.Path.{ap, ◌∙◌, subst}
use lib.Dec.{ltb}
use Rattle.nodeset.specs.Words.{words_of, nodes_of}
use Rattle.tables.specs.Layout.{node_count}
use Rattle.targets.specs.Classes.{sub_of}
use Rattle.targets.specs.Targets.{TargetOk}
use Rattle.targets.specs.declared.Target.{Target}
use Rattle.targets.proofs.Targets.{from_all, into_all, typed_all}
use Rattle.targets.proofs.target_set.Goals as goal

pub class_set-set-requires : goal.class_set-set-requires
class_set-set-requires c = subst (λ (x : Target). TargetOk c.args.tables.cells.now x) c.in-Typed.is c.requires

pub returns-in-From : goal.returns-in-From
returns-in-From c =
    let a = c.args in
    let cs = a.tables.cells.now in
    let whole = c.whole-all.ensures ∙ ap (λ (n : ℕ). words_of (λ v. ltb v n) 16) c.node_count.ensures in
    rw c.in-From.is (c.link_ends.ensures ∙ (λ i. nodes_of (λ v. from_all cs a.tables.index.now a.tables.made (sub_of a.sub) c.in-From.link.0 whole v i) (node_count cs)))

pub returns-in-Into : goal.returns-in-Into
returns-in-Into c =
    let a = c.args in
    let cs = a.tables.cells.now in
    let whole = c.whole-all.ensures ∙ ap (λ (n : ℕ). words_of (λ v. ltb v n) 16) c.node_count.ensures in
    rw c.in-Into.is (c.link_ends-in-Into.ensures ∙ (λ i. nodes_of (λ v. into_all cs a.tables.index.now a.tables.made (sub_of a.sub) c.in-Into.link.0 whole v i) (node_count cs)))

pub returns-in-Typed : goal.returns-in-Typed
returns-in-Typed c =
    let a = c.args in
    let cs = a.tables.cells.now in
    let low = subst (λ (x : Target). TargetOk cs x) c.in-Typed.is c.requires in
    rw c.in-Typed.is (c.link_ends-in-Typed.ensures ∙ (λ i. nodes_of (λ v. typed_all cs a.tables.index.now a.tables.made (sub_of a.sub) c.in-Typed.c.0 low c.class_set-set.ensures v i) (node_count cs)))
