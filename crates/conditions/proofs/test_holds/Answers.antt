-- `test_holds` meets its contract, by the code of the entry.
use mathlib.Core.Path.{sym, ap, ◌∙◌}
use mathlib.Core.Bool.{◌&&◌}
use Prim.Native.Nat.{ℕ, ◌≤◌}
use native.Mathlib.Omega.{arith}
use lib.Signed.{lt_z, le_z}
use Rattle.base.specs.Lists.{member}
use Rattle.model.specs.Shapes.{node_kind, datatype, satisfies, conforms}
use Rattle.tables.specs.Codes as codes
use Rattle.tables.specs.Layout.{form_first_at, form_second_at, limit_at}
use Rattle.tables.specs.Entries.{entry_of}
use Rattle.tables.specs.Decode.{term_at, graph_at, kind_of, items_at, shape_of}
use Rattle.conditions.proofs.Terms.{value_test, language_test, entry_by_lem, read_back, past}
use Rattle.conditions.proofs.test_holds.Goals as goal

pub returns-in-6 : goal.returns-in-6
unfolding entry_of shape_of conforms graph_at satisfies
returns-in-6 c =
    let a = c.args in
    let cs = a.cells.now in
    let vs = a.values.now in
    c.kind_holds.ensures vs ∙ ap (λ (k : ℕ). satisfies (node_kind (kind_of k)) (term_at cs vs a.v.0)) c.form_first-a.ensures ∙ entry_by_lem cs vs a.e a.v.0 codes.form_kind (sym c.form_code.ensures ∙ c.in-6.is)

pub returns-in-7 : goal.returns-in-7
unfolding entry_of shape_of conforms graph_at satisfies
returns-in-7 c =
    let a = c.args in
    let cs = a.cells.now in
    let vs = a.values.now in
    c.datatype_holds.ensures vs ∙ ap (λ (k : ℕ). satisfies (datatype k) (term_at cs vs a.v.0)) c.form_first-a.ensures ∙ entry_by_lem cs vs a.e a.v.0 codes.form_datatype (sym c.form_code.ensures ∙ c.in-7.is)

pub returns-in-8 : goal.returns-in-8
unfolding entry_of shape_of conforms graph_at satisfies
returns-in-8 c =
    let a = c.args in
    let cs = a.cells.now in
    let vs = a.values.now in
    (λ i. c.has_language.ensures i && (c.listed.ensures ∙ (λ j. member (c.node_lang.ensures j) (items_at cs (c.form_first-a.ensures j) (c.form_second.ensures j)))) i) ∙ sym (language_test cs vs a.v.0 c.requires.0 (λ l. member l (items_at cs (form_first_at cs a.e) (form_second_at cs a.e)))) ∙ entry_by_lem cs vs a.e a.v.0 codes.form_lang (sym c.form_code.ensures ∙ c.in-8.is)

pub returns-in-9 : goal.returns-in-9
unfolding entry_of shape_of conforms graph_at satisfies
returns-in-9 c =
    let a = c.args in
    let cs = a.cells.now in
    let vs = a.values.now in
    (λ i. c.has_number.ensures i && le_z (read_back c.limit.result c.limit.type_inv c.limit.ensures i) (read_back c.number.result c.number.type_inv c.number.ensures i)) ∙ sym (value_test cs vs a.v.0 c.requires.0 (λ y. le_z (limit_at vs a.e) y)) ∙ entry_by_lem cs vs a.e a.v.0 codes.form_from (sym c.form_code.ensures ∙ c.in-9.is)

pub returns-in-10 : goal.returns-in-10
unfolding entry_of shape_of conforms graph_at satisfies
returns-in-10 c =
    let a = c.args in
    let cs = a.cells.now in
    let vs = a.values.now in
    (λ i. c.has_number-in-10.ensures i && lt_z (read_back c.limit-in-10.result c.limit-in-10.type_inv c.limit-in-10.ensures i) (read_back c.number-in-10.result c.number-in-10.type_inv c.number-in-10.ensures i)) ∙ sym (value_test cs vs a.v.0 c.requires.0 (λ y. lt_z (limit_at vs a.e) y)) ∙ entry_by_lem cs vs a.e a.v.0 codes.form_above (sym c.form_code.ensures ∙ c.in-10.is)

pub returns-in-11 : goal.returns-in-11
unfolding entry_of shape_of conforms graph_at satisfies
returns-in-11 c =
    let a = c.args in
    let cs = a.cells.now in
    let vs = a.values.now in
    (λ i. c.has_number-in-11.ensures i && le_z (read_back c.number-in-11.result c.number-in-11.type_inv c.number-in-11.ensures i) (read_back c.limit-in-11.result c.limit-in-11.type_inv c.limit-in-11.ensures i)) ∙ sym (value_test cs vs a.v.0 c.requires.0 (λ y. le_z y (limit_at vs a.e))) ∙ entry_by_lem cs vs a.e a.v.0 codes.form_to (sym c.form_code.ensures ∙ c.in-11.is)

pub returns-in_default : goal.returns-in_default
unfolding entry_of shape_of conforms graph_at satisfies
returns-in_default c =
    let a = c.args in
    let cs = a.cells.now in
    let vs = a.values.now in
    (λ i. c.has_number-in_default.ensures i && lt_z (read_back c.number-in_default.result c.number-in_default.type_inv c.number-in_default.ensures i) (read_back c.limit-in_default.result c.limit-in_default.type_inv c.limit-in_default.ensures i)) ∙ sym (value_test cs vs a.v.0 c.requires.0 (λ y. lt_z y (limit_at vs a.e))) ∙ entry_by_lem cs vs a.e a.v.0 codes.form_below (sym c.form_code.ensures ∙ (let h : 12 ≤ c.form_code.result = past c.form_code.result 6 6 (omega (arith, c.requires, c.form_code.ensures)) c.in_default.in_default-own.rest in omega (arith, c.requires, c.form_code.ensures)))
