use Prim.Native.Nat.{ℕ, ◌-◌}
use mathlib.Core.Path.{◌≡◌, refl, sym, ap, ◌∙◌}
use mathlib.Core.Bool.{true}
use mathlib.Core.List.{List}
use native.Mathlib.Omega.{arith}
use lib.ListN.{take, drop}
use lib.Seq.{slice}
use Rattle.text.specs.Decimals.{is_mag, mag_of}
use Rattle.text.proofs.Decimals.{digits-first, value-step, value_none, value-over, mag_digits, mag_not, mag_over, mag_is}
use Rattle.text.proofs.Parts.{part_cut}
use Rattle.text.proofs.magnitude.Goals as goal

pub returns-then-not-is_mag : goal.returns-then-not-is_mag
returns-then-not-is_mag c =
    let a = c.args in
    sym (mag_not (slice a.at a.end a.book.now) (sym c.is_mag.ensures ∙ c.if-not-is_mag.true))

pub loop-b-init : goal.loop-b-init
loop-b-init c =
    let a = c.args in
    let w : List ℕ = take (a.end - a.at) (drop a.at a.book.now) in
    let m : is_mag w ≡ true = ap is_mag (part_cut a.book.now a.at a.end c.requires.0) ∙ sym c.is_mag.ensures ∙ c.if-not-is_mag.false in
    (omega arith, mag_digits w m, refl, m)

pub returns-then-v-ge1000000000000000000 : goal.returns-then-v-ge1000000000000000000
returns-then-v-ge1000000000000000000 c =
    let a = c.args in
    let l = c.loop-b in
    let w : List ℕ = take (a.end - a.at) (drop a.at a.book.now) in
    sym (ap mag_of (sym (part_cut a.book.now a.at a.end c.requires.0)) ∙ mag_over w l.invariant.3 (rw l.invariant.2 (value-over w l.b-index c.loop-b-test.true l.v c.if-v-ge1000000000000000000.true)))

pub overflow_sub-v : goal.overflow_sub-v
overflow_sub-v c =
    let a = c.args in
    (digits-first (take (a.end - a.at) (drop a.at a.book.now)) c.loop-b.b-index c.loop-b-test.true c.loop-b.invariant.1).0

pub loop-b-preserved : goal.loop-b-preserved
loop-b-preserved c =
    let a = c.args in
    let l = c.loop-b in
    let w : List ℕ = take (a.end - a.at) (drop a.at a.book.now) in
    let d = digits-first w l.b-index c.loop-b-test.true l.invariant.1 in
    (omega arith, d.2, l.invariant.2 ∙ value-step w l.b-index c.loop-b-test.true l.v, l.invariant.3)

pub returns : goal.returns
returns c =
    let a = c.args in
    let l = c.loop-b in
    let w : List ℕ = take (a.end - a.at) (drop a.at a.book.now) in
    sym (ap mag_of (sym (part_cut a.book.now a.at a.end c.requires.0)) ∙ mag_is w l.invariant.3 l.v (l.invariant.2 ∙ value_none l.v w l.b-index (omega (arith, c.loop-b-test.false))) l.invariant.0)
