-- `index_table` meets its contract, by the laws of the tables' facts as lent parts.
use Prim.Native.Nat.{ℕ, ◌+◌}
use mathlib.Core.List.{List}
use mathlib.Core.Path.{◌≡◌, refl, ap, ◌∙◌}
use native.Mathlib.Nat.{zero-add}
use native.Mathlib.Omega.{arith}
use lib.ListN.{length, get_or, length-replicate, get_or-replicate}
use Rattle.paths.specs.Facts.{subject_heads, index_count}
use Rattle.paths.proofs.Parts.{lent-links, lent_index, lent-subjects, lent-subject_index}
use Rattle.paths.proofs.Indexes.{chains-kept}
use Rattle.paths.proofs.index_table.Goals as goal

pub index_facts-requires : goal.index_facts-requires
index_facts-requires c =
    let pre = c.requires in
    let l = lent-links c.args.cells.now pre.2 pre.1 c.fact_count-len.ensures in
    let all : length c.args.index.now ≡ index_count = ap length pre.0 ∙ length-replicate {A = ℕ} index_count 0 in
    (omega (arith, all, l.0), omega (arith, all), l.0, l.1, l.2, λ h k. ap (λ (w : List ℕ). get_or w (0 + h) 0) pre.0 ∙ get_or-replicate index_count (0 + h) 0 0 (omega (arith, zero-add h)))

pub index_facts-requires-2 : goal.index_facts-requires-2
index_facts-requires-2 c =
    let pre = c.requires in
    let l = lent-subjects c.args.cells.now pre.2 pre.1 c.fact_count-len.ensures in
    let all : length c.index_facts.new.index ≡ index_count = c.index_facts.auto.index ∙ ap length pre.0 ∙ length-replicate {A = ℕ} index_count 0 in
    (omega (arith, all, l.0), omega (arith, all), l.0, l.1, l.2, λ h k. c.index_facts.ensures.above (subject_heads + h) (omega (arith, l.0)) ∙ ap (λ (w : List ℕ). get_or w (subject_heads + h) 0) pre.0 ∙ get_or-replicate index_count (subject_heads + h) 0 0 (omega arith))

pub returns : goal.returns
returns c =
    let cs = c.args.cells.now in
    let pre = c.requires in
    let e = c.fact_count-len.ensures in
    let first = c.index_facts in
    let second = c.index_facts-2 in
    let l = lent-links cs pre.2 pre.1 e in
    (lent_index cs pre.2 e (chains-kept (omega (arith, l.0)) refl second.ensures first.ensures.chained), lent-subject_index cs pre.2 e second.ensures.chained)
