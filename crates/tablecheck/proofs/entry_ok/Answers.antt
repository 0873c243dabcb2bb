use Prim.Native.Nat.{ℕ, suc, zero-le}
use mathlib.Core.Path.{refl, ap, ap₂, ◌∙◌}
use mathlib.Core.Bool.{◌&&◌}
use lib.Dec.{ltb}
use Rattle.tables.specs.Codes as codes
use Rattle.tables.specs.Layout.{node_count, link_count}
use Rattle.tables.specs.Entries.{entry_of}
use Rattle.tables.specs.WellFormed.{items_ok, entry_ok, end_number_ok}
use Rattle.tablecheck.proofs.Codes.{next, case_is, case_in, case_past, read_twice, entry_by, entry_by_lem, entry-unknown}
use Rattle.tablecheck.proofs.entry_ok.Goals as goal

pub returns-in-0 : goal.returns-in-0
unfolding entry_of entry_ok
returns-in-0 c = case_is (entry_by c.args.cells.now c.args.e c.form_first-a.result c.form_second-b.result) c.form_code.result (entry_by_lem c.args.cells.now c.args.e c.form_first-a.result c.form_second-b.result c.form_code.result c.form_first-a.ensures c.form_second-b.ensures c.form_code.ensures) codes.form_true c.in-0.is refl

pub returns-in-1 : goal.returns-in-1
unfolding entry_of entry_ok
returns-in-1 c = case_is (entry_by c.args.cells.now c.args.e c.form_first-a.result c.form_second-b.result) c.form_code.result (entry_by_lem c.args.cells.now c.args.e c.form_first-a.result c.form_second-b.result c.form_code.result c.form_first-a.ensures c.form_second-b.ensures c.form_code.ensures) codes.form_is c.in-1.is (read_twice (node_count c.args.cells.now) c.node_there.ensures c.form_node.ensures c.form_first-a.ensures)

pub returns-in-2 : goal.returns-in-2
unfolding entry_of entry_ok
returns-in-2 c = case_is (entry_by c.args.cells.now c.args.e c.form_first-a.result c.form_second-b.result) c.form_code.result (entry_by_lem c.args.cells.now c.args.e c.form_first-a.result c.form_second-b.result c.form_code.result c.form_first-a.ensures c.form_second-b.ensures c.form_code.ensures) codes.form_shape c.in-2.is c.shape_before.ensures

pub returns-in-5 : goal.returns-in-5
unfolding entry_of entry_ok
returns-in-5 c = case_is (entry_by c.args.cells.now c.args.e c.form_first-a.result c.form_second-b.result) c.form_code.result (entry_by_lem c.args.cells.now c.args.e c.form_first-a.result c.form_second-b.result c.form_code.result c.form_first-a.ensures c.form_second-b.ensures c.form_code.ensures) codes.form_not c.in-5.is c.below.ensures

pub returns-in-6 : goal.returns-in-6
unfolding entry_of entry_ok
returns-in-6 c = case_is (entry_by c.args.cells.now c.args.e c.form_first-a.result c.form_second-b.result) c.form_code.result (entry_by_lem c.args.cells.now c.args.e c.form_first-a.result c.form_second-b.result c.form_code.result c.form_first-a.ensures c.form_second-b.ensures c.form_code.ensures) codes.form_kind c.in-6.is refl

pub returns-in-7 : goal.returns-in-7
unfolding entry_of entry_ok
returns-in-7 c = case_is (entry_by c.args.cells.now c.args.e c.form_first-a.result c.form_second-b.result) c.form_code.result (entry_by_lem c.args.cells.now c.args.e c.form_first-a.result c.form_second-b.result c.form_code.result c.form_first-a.ensures c.form_second-b.ensures c.form_code.ensures) codes.form_datatype c.in-7.is (c.below-in-7.ensures ∙ ap (ltb _) c.type_count.ensures)

pub returns-in-8 : goal.returns-in-8
unfolding entry_of entry_ok
returns-in-8 c = case_is (entry_by c.args.cells.now c.args.e c.form_first-a.result c.form_second-b.result) c.form_code.result (entry_by_lem c.args.cells.now c.args.e c.form_first-a.result c.form_second-b.result c.form_code.result c.form_first-a.ensures c.form_second-b.ensures c.form_code.ensures) codes.form_lang c.in-8.is (c.items_ok.ensures ∙ ap (λ (b : ℕ). items_ok c.args.cells.now b c.form_first-a.result c.form_second-b.result) c.lang_count.ensures)

pub returns-in-13 : goal.returns-in-13
unfolding entry_of entry_ok
returns-in-13 c = case_is (entry_by c.args.cells.now c.args.e c.form_first-a.result c.form_second-b.result) c.form_code.result (entry_by_lem c.args.cells.now c.args.e c.form_first-a.result c.form_second-b.result c.form_code.result c.form_first-a.ensures c.form_second-b.ensures c.form_code.ensures) codes.form_count c.in-13.is (cc)

pub returns-in-14 : goal.returns-in-14
unfolding entry_of entry_ok
returns-in-14 c = case_is (entry_by c.args.cells.now c.args.e c.form_first-a.result c.form_second-b.result) c.form_code.result (entry_by_lem c.args.cells.now c.args.e c.form_first-a.result c.form_second-b.result c.form_code.result c.form_first-a.ensures c.form_second-b.ensures c.form_code.ensures) codes.form_all c.in-14.is (ap₂ ◌&&◌ (c.below-in-14.ensures ∙ ap (ltb _) c.path_count.ensures) c.below-in-14-2.ensures)

pub returns-in-17 : goal.returns-in-17
unfolding entry_of entry_ok
returns-in-17 c = case_is (entry_by c.args.cells.now c.args.e c.form_first-a.result c.form_second-b.result) c.form_code.result (entry_by_lem c.args.cells.now c.args.e c.form_first-a.result c.form_second-b.result c.form_code.result c.form_first-a.ensures c.form_second-b.ensures c.form_code.ensures) codes.form_closed c.in-17.is (c.items_ok-in-17.ensures ∙ ap (λ (b : ℕ). items_ok c.args.cells.now b c.form_first-a.result c.form_second-b.result) c.link_count.ensures)

pub returns-in-20 : goal.returns-in-20
unfolding entry_of entry_ok
returns-in-20 c = case_is (entry_by c.args.cells.now c.args.e c.form_first-a.result c.form_second-b.result) c.form_code.result (entry_by_lem c.args.cells.now c.args.e c.form_first-a.result c.form_second-b.result c.form_code.result c.form_first-a.ensures c.form_second-b.ensures c.form_code.ensures) codes.form_onelang c.in-20.is (c.below-in-20.ensures ∙ ap (ltb _) c.path_count-in-20.ensures)

pub returns-in-3 : goal.returns-in-3
unfolding entry_of entry_ok
returns-in-3 c = case_in (entry_by c.args.cells.now c.args.e c.form_first-a.result c.form_second-b.result) c.form_code.result (entry_by_lem c.args.cells.now c.args.e c.form_first-a.result c.form_second-b.result c.form_code.result c.form_first-a.ensures c.form_second-b.ensures c.form_code.ensures) codes.form_and 2 (next codes.form_shape c.form_code.result (next codes.form_is c.form_code.result (next codes.form_true c.form_code.result zero-le c.in-3.in_default-own.rest.0.0.0.0.0.0.0.0.0.0.1) c.in-3.in_default-own.rest.0.0.0.0.0.0.0.0.0.1) c.in-3.in_default-own.rest.0.0.0.0.0.0.0.0.1) c.in-3.if-this-lt5-own.true (ap₂ ◌&&◌ c.below-in-3.ensures c.below-in-3-2.ensures, (ap₂ ◌&&◌ c.below-in-3.ensures c.below-in-3-2.ensures, tt))

pub returns-in-9-to-12 : goal.returns-in-9-to-12
unfolding entry_of entry_ok
returns-in-9-to-12 c = case_in (entry_by c.args.cells.now c.args.e c.form_first-a.result c.form_second-b.result) c.form_code.result (entry_by_lem c.args.cells.now c.args.e c.form_first-a.result c.form_second-b.result c.form_code.result c.form_first-a.ensures c.form_second-b.ensures c.form_code.ensures) codes.form_from 4 (next codes.form_lang c.form_code.result (next codes.form_datatype c.form_code.result (next codes.form_kind c.form_code.result (next codes.form_not c.form_code.result c.in-9-to-12.if-this-lt5-own.false c.in-9-to-12.in_default-own.rest.0.0.0.0.0.0.0.1) c.in-9-to-12.in_default-own.rest.0.0.0.0.0.0.1) c.in-9-to-12.in_default-own.rest.0.0.0.0.0.1) c.in-9-to-12.in_default-own.rest.0.0.0.0.1) c.in-9-to-12.if-this-lt13-own.true (refl, (refl, (refl, (refl, tt))))

pub returns-in-15 : goal.returns-in-15
unfolding entry_of entry_ok
returns-in-15 c = case_in (entry_by c.args.cells.now c.args.e c.form_first-a.result c.form_second-b.result) c.form_code.result (entry_by_lem c.args.cells.now c.args.e c.form_first-a.result c.form_second-b.result c.form_code.result c.form_first-a.ensures c.form_second-b.ensures c.form_code.ensures) codes.form_equal 2 (next codes.form_all c.form_code.result (next codes.form_count c.form_code.result c.in-15.if-this-lt13-own.false c.in-15.in_default-own.rest.0.0.0.1) c.in-15.in_default-own.rest.0.0.1) c.in-15.if-this-lt17-own.true (ap₂ ◌&&◌ (c.end_ok.ensures ∙ ap (end_number_ok _) c.wide.ensures) (read_twice (link_count c.args.cells.now) c.link_there.ensures c.form_link.ensures c.form_second-b.ensures), (ap₂ ◌&&◌ (c.end_ok.ensures ∙ ap (end_number_ok _) c.wide.ensures) (read_twice (link_count c.args.cells.now) c.link_there.ensures c.form_link.ensures c.form_second-b.ensures), tt))

pub returns-in-18 : goal.returns-in-18
unfolding entry_of entry_ok
returns-in-18 c = case_in (entry_by c.args.cells.now c.args.e c.form_first-a.result c.form_second-b.result) c.form_code.result (entry_by_lem c.args.cells.now c.args.e c.form_first-a.result c.form_second-b.result c.form_code.result c.form_first-a.ensures c.form_second-b.ensures c.form_code.ensures) codes.form_less 2 (next codes.form_closed c.form_code.result c.in-18.if-this-lt17-own.false c.in-18.in_default-own.rest.0.1) c.in-18.if-this-lt20-own.true (ap₂ ◌&&◌ (c.below-in-18.ensures ∙ ap (ltb _) c.path_count-in-18.ensures) (read_twice (link_count c.args.cells.now) c.link_there-in-18.ensures c.form_link-in-18.ensures c.form_second-b.ensures), (ap₂ ◌&&◌ (c.below-in-18.ensures ∙ ap (ltb _) c.path_count-in-18.ensures) (read_twice (link_count c.args.cells.now) c.link_there-in-18.ensures c.form_link-in-18.ensures c.form_second-b.ensures), tt))

pub returns-in-21-to-65535 : goal.returns-in-21-to-65535
unfolding entry_of entry_ok
returns-in-21-to-65535 c = case_past (entry_by c.args.cells.now c.args.e c.form_first-a.result c.form_second-b.result) c.form_code.result (entry_by_lem c.args.cells.now c.args.e c.form_first-a.result c.form_second-b.result c.form_code.result c.form_first-a.ensures c.form_second-b.ensures c.form_code.ensures) (suc codes.form_onelang) (next codes.form_onelang c.form_code.result c.in-21-to-65535.if-this-lt20-own.false c.in-21-to-65535.in_default-own.rest.1) (λ j l. entry-unknown c.args.cells.now c.args.e c.form_first-a.result c.form_second-b.result j l)
