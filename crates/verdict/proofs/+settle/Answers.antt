-- `settle` meets its contract: it calls itself on entries before its own.
use mathlib.Core.Path.{refl, sym, ◌∙◌}
use native.Mathlib.Omega.{arith}
use Rattle.base.proofs.Bools.{never_both}
use Rattle.verdict.proofs.Known.{ready, settled_over}
use Rattle.verdict.proofs.Parts.{parts-lower}
use Rattle.verdict.proofs.Settling.{entry_lt, settled-none, settled-all, parts-settled}
use Rattle.verdict.proofs.+settle.Goals as goal

pub unsettled-nodes-requires : goal.unsettled-nodes-requires
unsettled-nodes-requires t c = entry_lt (ready c.args.memo.now c.requires)

pub returns-then-none_below : goal.returns-then-none_below
returns-then-none_below t c = record { tables = refl; settled = settled-none (ready c.args.memo.now c.requires) c.args.want.words c.unsettled-nodes.ensures c.node_count.ensures (sym c.none_below.ensures ∙ c.if-none_below.true) }

pub settle-requires : goal.settle-requires
settle-requires t c =
    let m = c.args.memo.now in
    let low = parts-lower m.tables.cells.now c.args.e m.tables.made c.requires (sym c.has_parts.ensures ∙ c.if-has_parts.true) in
    (omega (arith, c.first_part.ensures, low.0, c.decreases), omega (arith, c.first_part.ensures, low.0, c.requires))

pub settle-requires-then-has_parts : goal.settle-requires-then-has_parts
settle-requires-then-has_parts t c =
    let m = c.args.memo.now in
    let low = parts-lower m.tables.cells.now c.args.e m.tables.made c.requires (sym c.has_parts.ensures ∙ c.if-has_parts.true) in
    (omega (arith, c.second_part.ensures, low.1, c.decreases), rw c.settle.ensures.tables (omega (arith, c.second_part.ensures, low.1, c.requires)))

pub fill-requires : goal.fill-requires
fill-requires t c =
    let s = c.settle.ensures in
    let t = c.settle-then-has_parts.ensures in
    rw (t.tables ∙ s.tables) (c.requires, parts-settled c.args.e c.unsettled-nodes.result.words c.asked-looked.ensures c.first_part.ensures s.settled c.second_part.ensures (settled_over s.tables t.settled))

pub returns-then-has_parts : goal.returns-then-has_parts
returns-then-has_parts t c =
    let s = c.settle.ensures in
    let t = c.settle-then-has_parts.ensures in
    record {
      tables = c.fill.ensures.tables ∙ t.tables ∙ s.tables;
      settled = settled-all (ready c.args.memo.now c.requires) c.args.want.words c.unsettled-nodes.ensures (λ m h. t.settled.grows m (s.settled.grows m h)) (settled_over (t.tables ∙ s.tables) c.fill.ensures.settled);
    }

pub fill-requires-2 : goal.fill-requires-2
fill-requires-2 t c = (c.requires, λ v l h p. absurd (never_both p (sym c.has_parts.ensures ∙ c.if-has_parts.false)))

pub returns : goal.returns
returns t c = record { tables = c.fill-2.ensures.tables; settled = settled-all (ready c.args.memo.now c.requires) c.args.want.words c.unsettled-nodes.ensures (λ m h. h) c.fill-2.ensures.settled }
