-- `entry_holds` meets its contract, arm by arm.
use mathlib.Core.Bool.{Bool, not, ◌&&◌, ◌||◌}
use mathlib.Core.Path.{◌≡◌, sym, ap, ap₂, ◌∙◌}
use Prim.Native.Nat.{◌≤◌, zero-le}
use native.Mathlib.Omega.{arith}
use Rattle.tables.specs.Codes as codes
use Rattle.conditions.proofs.Terms.{past}
use Rattle.verdict.proofs.Known.{ready, enough}
use Rattle.verdict.proofs.Parts.{parts_by}
use Rattle.verdict.proofs.Holds.{node_lt, first_lt, second_lt, code_le, row_low, holds-top, holds-is, holds-shape, holds_and, holds_or, holds_not, holds-count, holds-all, holds-closed}
use Rattle.verdict.proofs.entry_holds.Goals as goal

pub known-requires : goal.known-requires
known-requires c = (first_lt (enough c.args.memo.now c.requires) c.first_part-a.result c.first_part-a.ensures (parts_by c.args.memo.now.tables.cells.now c.args.e codes.form_shape (sym c.form_code.ensures ∙ c.in-2.is)), node_lt (enough c.args.memo.now c.requires))

pub known-requires-in-3 : goal.known-requires-in-3
known-requires-in-3 c = (first_lt (enough c.args.memo.now c.requires) c.first_part-a.result c.first_part-a.ensures (parts_by c.args.memo.now.tables.cells.now c.args.e codes.form_and (sym c.form_code.ensures ∙ c.in-3.is)), node_lt (enough c.args.memo.now c.requires))

pub known-requires-in-3-2 : goal.known-requires-in-3-2
known-requires-in-3-2 c = (second_lt (enough c.args.memo.now c.requires) c.second_part-b.result c.second_part-b.ensures (parts_by c.args.memo.now.tables.cells.now c.args.e codes.form_and (sym c.form_code.ensures ∙ c.in-3.is)), node_lt (enough c.args.memo.now c.requires))

pub known-requires-in-4 : goal.known-requires-in-4
known-requires-in-4 c = (first_lt (enough c.args.memo.now c.requires) c.first_part-a.result c.first_part-a.ensures (parts_by c.args.memo.now.tables.cells.now c.args.e codes.form_or (sym c.form_code.ensures ∙ c.in-4.is)), node_lt (enough c.args.memo.now c.requires))

pub known-requires-in-4-2 : goal.known-requires-in-4-2
known-requires-in-4-2 c = (second_lt (enough c.args.memo.now c.requires) c.second_part-b.result c.second_part-b.ensures (parts_by c.args.memo.now.tables.cells.now c.args.e codes.form_or (sym c.form_code.ensures ∙ c.in-4.is)), node_lt (enough c.args.memo.now c.requires))

pub known-requires-in-5 : goal.known-requires-in-5
known-requires-in-5 c = (first_lt (enough c.args.memo.now c.requires) c.first_part-a.result c.first_part-a.ensures (parts_by c.args.memo.now.tables.cells.now c.args.e codes.form_not (sym c.form_code.ensures ∙ c.in-5.is)), node_lt (enough c.args.memo.now c.requires))

pub overflow_mul-a : goal.overflow_mul-a
overflow_mul-a c = let l = first_lt (enough c.args.memo.now c.requires) c.first_part-a.result c.first_part-a.ensures (parts_by c.args.memo.now.tables.cells.now c.args.e codes.form_count (sym c.form_code.ensures ∙ c.in-13.is)) in omega arith

pub row-part-requires : goal.row-part-requires
row-part-requires c = let l = first_lt (enough c.args.memo.now c.requires) c.first_part-a.result c.first_part-a.ensures (parts_by c.args.memo.now.tables.cells.now c.args.e codes.form_count (sym c.form_code.ensures ∙ c.in-13.is)) in omega (arith, c.args.memo.now.size)

pub count_holds-requires : goal.count_holds-requires
count_holds-requires c = ((sym c.form_code.ensures ∙ c.in-13.is), row_low (enough c.args.memo.now c.requires) c.first_part-a.result c.first_part-a.ensures c.row-part.ensures)

pub overflow_mul-a-in-14 : goal.overflow_mul-a-in-14
overflow_mul-a-in-14 c = let l = first_lt (enough c.args.memo.now c.requires) c.first_part-a.result c.first_part-a.ensures (parts_by c.args.memo.now.tables.cells.now c.args.e codes.form_all (sym c.form_code.ensures ∙ c.in-14.is)) in omega arith

pub row-part-requires-in-14 : goal.row-part-requires-in-14
row-part-requires-in-14 c = let l = first_lt (enough c.args.memo.now c.requires) c.first_part-a.result c.first_part-a.ensures (parts_by c.args.memo.now.tables.cells.now c.args.e codes.form_all (sym c.form_code.ensures ∙ c.in-14.is)) in omega (arith, c.args.memo.now.size)

pub all_holds-requires : goal.all_holds-requires
all_holds-requires c = sym c.form_code.ensures ∙ c.in-14.is

pub links_hold-requires : goal.links_hold-requires
links_hold-requires c = sym c.form_code.ensures ∙ c.in-17.is

pub lang_holds-requires : goal.lang_holds-requires
lang_holds-requires c = sym c.form_code.ensures ∙ c.in-20.is

pub test_holds-requires : goal.test_holds-requires
test_holds-requires c =
    let k : codes.form_kind ≤ c.form_code.result = past c.form_code.result 0 6 zero-le c.in-6-to-12.in_default-own.rest.0.0.0.0 in
    (c.requires.1, omega (arith, c.form_code.ensures), omega (arith, c.in-6-to-12.if-this-lt13-own.true, c.form_code.ensures))

pub sets_hold-requires : goal.sets_hold-requires
sets_hold-requires c =
    let k = c.form_code.result in
    let q = c.form_code.ensures in
    let n13 : k ≡ codes.form_count → ⊥ = c.in_default.in_default-own.rest.0.0.0.1 in
    let n14 : k ≡ codes.form_all → ⊥ = c.in_default.in_default-own.rest.0.0.1 in
    let n17 : k ≡ codes.form_closed → ⊥ = c.in_default.in_default-own.rest.0.1 in
    let n20 : k ≡ codes.form_onelang → ⊥ = c.in_default.in_default-own.rest.1 in
    (omega (arith, c.in_default.if-this-lt13-own.false, q), omega (arith, code_le (ready c.args.memo.now c.requires.0), q), λ h. n17 (q ∙ h))

pub returns-in-0 : goal.returns-in-0
returns-in-0 c = holds-top (enough c.args.memo.now c.requires) (sym c.form_code.ensures ∙ c.in-0.is)

pub returns-in-1 : goal.returns-in-1
returns-in-1 c = c.eq.ensures ∙ holds-is (enough c.args.memo.now c.requires) (sym c.form_code.ensures ∙ c.in-1.is) c.form_node.result.0 c.form_node.ensures

pub returns-in-2 : goal.returns-in-2
returns-in-2 c = c.known.ensures ∙ holds-shape (enough c.args.memo.now c.requires) c.first_part-a.result c.first_part-a.ensures (sym c.form_code.ensures ∙ c.in-2.is)

pub returns-in-3 : goal.returns-in-3
returns-in-3 c = ap₂ (λ (s t : Bool). s && t) c.known-in-3.ensures c.known-in-3-2.ensures ∙ holds_and (enough c.args.memo.now c.requires) c.first_part-a.result c.first_part-a.ensures c.second_part-b.result c.second_part-b.ensures (sym c.form_code.ensures ∙ c.in-3.is)

pub returns-in-4 : goal.returns-in-4
returns-in-4 c = ap₂ (λ (s t : Bool). s || t) c.known-in-4.ensures c.known-in-4-2.ensures ∙ holds_or (enough c.args.memo.now c.requires) c.first_part-a.result c.first_part-a.ensures c.second_part-b.result c.second_part-b.ensures (sym c.form_code.ensures ∙ c.in-4.is)

pub returns-in-5 : goal.returns-in-5
returns-in-5 c = ap not c.known-in-5.ensures ∙ holds_not (enough c.args.memo.now c.requires) c.first_part-a.result c.first_part-a.ensures (sym c.form_code.ensures ∙ c.in-5.is)

pub returns-in-13 : goal.returns-in-13
returns-in-13 c = c.count_holds.ensures ∙ holds-count (enough c.args.memo.now c.requires) c.first_part-a.result c.first_part-a.ensures c.row-part.ensures (sym c.form_code.ensures ∙ c.in-13.is)

pub returns-in-14 : goal.returns-in-14
returns-in-14 c = c.all_holds.ensures ∙ holds-all (enough c.args.memo.now c.requires) c.first_part-a.result c.first_part-a.ensures c.row-part-in-14.ensures (sym c.form_code.ensures ∙ c.in-14.is)

pub returns-in-17 : goal.returns-in-17
returns-in-17 c = c.links_hold.ensures ∙ holds-closed (enough c.args.memo.now c.requires) (sym c.form_code.ensures ∙ c.in-17.is)

pub returns-in-20 : goal.returns-in-20
returns-in-20 c = c.lang_holds.ensures

pub returns-in-6-to-12 : goal.returns-in-6-to-12
returns-in-6-to-12 c = c.test_holds.ensures

pub returns-in_default : goal.returns-in_default
returns-in_default c = c.sets_hold.ensures
