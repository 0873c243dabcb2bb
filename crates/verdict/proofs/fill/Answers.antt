-- `fill` meets its contract. The invariant: all nodes before the next are settled, and nothing that was known is lost.
use mathlib.Core.List.{List}
use mathlib.Core.Path.{refl, sym, ap, ap₂, ◌∙◌, subst}
use Prim.Native.Nat.{ℕ, ◌+◌, ◌<◌}
use native.Mathlib.Omega.{arith}
use Rattle.base.specs.Least.{next_from}
use Rattle.nodeset.specs.Words.{has}
use Rattle.nodeset.specs.declared.Iter.{Iter}
use Rattle.tables.specs.Layout.{node_count}
use Rattle.entries.proofs.Codes.{nodes_le}
use Rattle.verdict.proofs.Known.{ready}
use Rattle.verdict.proofs.Settling.{Filling, filling_none, filling_more, filling_all, entry_lt}
use Rattle.verdict.proofs.fill.Goals as goal
use Rattle.verdict.proofs.fill.Goals.{In-Some}

pub decide-set-requires : goal.decide-set-requires
decide-set-requires c = c.requires

pub loop-x-init : goal.loop-x-init
loop-x-init c =
    let m = c.args.memo.now in
    let made = c.below-x-items.ensures in
    let same = c.into_iter-x-iterator.ensures.into_iter_gives in (
      ap (λ (s : Iter). s.n) same ∙ made.bound ∙ c.node_count-n.ensures,
      ap (λ (s : Iter). s.words.now) same ∙ made.set,
      refl,
      filling_none (ready m c.requires.0) refl (ap (λ (s : Iter). s.next) same ∙ made.first ∙ ap (next_from (has c.args.nodes.words) 0) c.node_count-n.ensures),
    )

-- what has been filled where x comes next
filled : (c : In-Some) → let m = c.args.memo.now in Filling m.tables.cells.now m.tables.values.now m.words c.loop-x.memo.words c.args.e c.args.nodes.words (node_count m.tables.cells.now) c.in-Some.x
filled c =
    let m = c.args.memo.now in
    subst (λ (u : ℕ). Filling m.tables.cells.now m.tables.values.now m.words c.loop-x.memo.words c.args.e c.args.nodes.words (node_count m.tables.cells.now) u) (sym c.in-Some.ensures.steps.0) c.loop-x.invariant.3

low : (c : In-Some) → c.in-Some.x < node_count c.args.memo.now.tables.cells.now
low c = omega (arith, c.in-Some.ensures.steps.1, c.loop-x.invariant.0)

pub overflow_cast-x : goal.overflow_cast-x
overflow_cast-x c = let t = c.args.memo.now.tables in omega (arith, c.in-Some.ensures.steps.1, c.loop-x.invariant.0, nodes_le t.cells.now t.made)

pub remember-requires : goal.remember-requires
remember-requires c =
    let i = (goal.at.remember-requires c).In-Some in
    rw c.loop-x.invariant.2 (entry_lt (ready c.args.memo.now c.requires.0), low i, c.test.ensures ∙ c.decide-set.ensures c.in-Some.x (low i) ((filled i).passed.hit (low i)))

pub loop-x-preserved : goal.loop-x-preserved
loop-x-preserved c =
    let i = (goal.at.loop-x-preserved c).In-Some in
    let m = c.args.memo.now in
    let (same, ends, tables, all) = c.loop-x.invariant in
    let step = c.in-Some.ensures.steps in
    let next = step.2 ∙ ap₂ (λ (ws : List ℕ) (m : ℕ). next_from (has ws) (c.in-Some.x + 1) m) ends same in (
      step.4 ∙ same,
      step.3 ∙ ends,
      c.remember.ensures.tables ∙ tables,
      filling_more (filled i) m.tables.made (entry_lt (ready m c.requires.0)) (low i) (c.test.ensures ∙ c.decide-set.ensures c.in-Some.x (low i) ((filled i).passed.hit (low i))) c.remember.ensures.words (c.remember.new.self.size ∙ sym c.loop-x.memo.size) next,
    )

pub returns : goal.returns
returns c = record { tables = c.loop-x.invariant.2; settled = filling_all c.loop-x.invariant.3 (omega (arith, c.in-None.ensures.steps, c.loop-x.invariant.0)) }
