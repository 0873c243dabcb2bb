use Prim.Native.Nat.{ℕ, ◌+◌, ◌-◌, ◌%◌, ◌≤◌}
use mathlib.Core.Path.{◌≡◌, sym, ap, ◌∙◌, subst}
use mathlib.Core.Bool.{Bool, cond}
use native.Mathlib.Nat.{mod-lt}
use native.Mathlib.Omega.{arith}
use lib.ListN.{get_or}
use lib.Seq.{slice}
use Rattle.base.specs.Bytes.{eql}
use Rattle.text.specs.Pool.{padded, place}
use Rattle.text.proofs.Hashes.{Walk, walk_begins, walk_more, walk_ends}
use Rattle.text.proofs.find_chained.Goals as goal
use Rattle.text.proofs.find_chained.Goals.{After-cell-e-in-loop-e, then-same_name, else-same_name}
use Rattle.std.specs.Prelude.{Option, Some}

pub overflow_add-heads : goal.overflow_add-heads
overflow_add-heads c =
    let m = mod-lt c.hash.result c.requires.6 in
    omega arith

pub loop-e-init : goal.loop-e-init
loop-e-init c =
    let a = c.args in
    walk_begins a.names.now a.base a.count a.slots (slice a.at a.end a.book.now) c.requires.7 c.cell-e.result c.requires.6
    (c.cell-e.ensures ∙ ap (λ (h : ℕ). get_or a.index.now (a.heads + h % a.slots) 0) c.hash.ensures)

-- what the loop holds after one item more
more : (c : After-cell-e-in-loop-e)
    → let l = c.loop-e in
    let a = c.args in
    (c.cell-e-in-loop-e.result ≤ l.e - 1) × Walk a.names.now a.base a.count a.slots (slice a.at a.end a.book.now) c.cell-e-in-loop-e.result (cond (eql (padded (slice a.at a.end a.book.now)) (place a.names.now a.base (l.e - 1))) (Some (l.e - 1)) l.found)
more c =
    let l = c.loop-e in
    let a = c.args in
    walk_more a.names.now a.base a.count a.slots (slice a.at a.end a.book.now) c.requires.7 l.e (l.e - 1) c.cell-e-in-loop-e.result l.found (omega (arith, c.loop-e-test.true)) l.invariant c.cell-e-in-loop-e.ensures

pub loop-e-smaller : goal.loop-e-smaller
loop-e-smaller c =
    let m = (more (goal.at.loop-e-smaller c).After-cell-e-in-loop-e).0 in
    let t = c.loop-e-test.true in
    omega arith

pub loop-e-preserved : goal.loop-e-preserved
loop-e-preserved c =
    let l = c.loop-e in
    let a = c.args in
    let m = (more (goal.at.loop-e-preserved c).After-cell-e-in-loop-e).1 in
    let W : Option ℕ → Type 0 = λ f. Walk a.names.now a.base a.count a.slots (slice a.at a.end a.book.now) c.cell-e-in-loop-e.result f in
    elim c.if-same_name.branch [
      | then-same_name w ↦ subst W (ap (λ (b : Bool). cond b (Some (l.e - 1)) l.found) (sym w.if-same_name.ensures) ∙ sym w.found-is) m
      | else-same_name w ↦ subst W (ap (λ (b : Bool). cond b (Some (l.e - 1)) l.found) (sym w.if-same_name.ensures) ∙ sym w.found-is) m
    ]

pub returns : goal.returns
returns c =
    let a = c.args in
    let l = c.loop-e in
    let e : l.e ≡ 0 = omega (arith, c.loop-e-test.false) in
    sym (walk_ends a.names.now a.base a.count a.slots (slice a.at a.end a.book.now) l.e l.found e l.invariant)
