use Prim.Native.Nat.{zero-le}
use mathlib.Core.Path.{refl, ap, ap₂}
use mathlib.Core.Bool.{◌&&◌}
use lib.Dec.{ltb}
use Rattle.tables.specs.Layout.{node_count, link_count}
use Rattle.plan.specs.Steps.{step_of}
use Rattle.plan.specs.WellFormed.{step_ok}
use Rattle.tablecheck.proofs.Codes.{next, case_is, case_in, case_past, read_twice}
use Rattle.plancheck.proofs.Codes.{step_by_lem, step_by, step-unknown}
use Rattle.plancheck.proofs.step_ok.Goals as goal

pub returns-in-8 : goal.returns-in-8
unfolding step_of step_ok
returns-in-8 c = case_is (step_by_lem c.args.cells.now c.args.plan.now c.args.k c.step_first-a.result c.step_second-b.result) c.step_code.result (step_by c.args.cells.now c.args.plan.now c.args.k c.step_first-a.result c.step_second-b.result c.step_code.result c.step_first-a.ensures c.step_second-b.ensures c.step_code.ensures) 8 c.in-8.is (cc)

pub returns-in-9 : goal.returns-in-9
unfolding step_of step_ok
returns-in-9 c = case_is (step_by_lem c.args.cells.now c.args.plan.now c.args.k c.step_first-a.result c.step_second-b.result) c.step_code.result (step_by c.args.cells.now c.args.plan.now c.args.k c.step_first-a.result c.step_second-b.result c.step_code.result c.step_first-a.ensures c.step_second-b.ensures c.step_code.ensures) 9 c.in-9.is (ap₂ ◌&&◌ (ap (ltb _) c.path_count.ensures) refl)

pub returns-in-24 : goal.returns-in-24
unfolding step_of step_ok
returns-in-24 c = case_is (step_by_lem c.args.cells.now c.args.plan.now c.args.k c.step_first-a.result c.step_second-b.result) c.step_code.result (step_by c.args.cells.now c.args.plan.now c.args.k c.step_first-a.result c.step_second-b.result c.step_code.result c.step_first-a.ensures c.step_second-b.ensures c.step_code.ensures) 24 c.in-24.is (read_twice (node_count c.args.cells.now) c.node_there.ensures c.step_node.ensures c.step_first-a.ensures)

pub returns-in-0 : goal.returns-in-0
unfolding step_of step_ok
returns-in-0 c = case_in (step_by_lem c.args.cells.now c.args.plan.now c.args.k c.step_first-a.result c.step_second-b.result) c.step_code.result (step_by c.args.cells.now c.args.plan.now c.args.k c.step_first-a.result c.step_second-b.result c.step_code.result c.step_first-a.ensures c.step_second-b.ensures c.step_code.ensures) 0 2 zero-le c.in-0.if-this-lt2-own.true (refl, (refl, tt))

pub returns-in-2 : goal.returns-in-2
unfolding step_of step_ok
returns-in-2 c = case_in (step_by_lem c.args.cells.now c.args.plan.now c.args.k c.step_first-a.result c.step_second-b.result) c.step_code.result (step_by c.args.cells.now c.args.plan.now c.args.k c.step_first-a.result c.step_second-b.result c.step_code.result c.step_first-a.ensures c.step_second-b.ensures c.step_code.ensures) 2 2 c.in-2.if-this-lt2-own.false c.in-2.if-this-lt4-own.true (read_twice (node_count c.args.cells.now) c.node_there-in-2.ensures c.step_node-in-2.ensures c.step_first-a.ensures, (read_twice (node_count c.args.cells.now) c.node_there-in-2.ensures c.step_node-in-2.ensures c.step_first-a.ensures, tt))

pub returns-in-4 : goal.returns-in-4
unfolding step_of step_ok
returns-in-4 c = case_in (step_by_lem c.args.cells.now c.args.plan.now c.args.k c.step_first-a.result c.step_second-b.result) c.step_code.result (step_by c.args.cells.now c.args.plan.now c.args.k c.step_first-a.result c.step_second-b.result c.step_code.result c.step_first-a.ensures c.step_second-b.ensures c.step_code.ensures) 4 2 c.in-4.if-this-lt4-own.false c.in-4.if-this-lt6-own.true (c.test_ok.ensures, (c.test_ok.ensures, tt))

pub returns-in-6 : goal.returns-in-6
unfolding step_of step_ok
returns-in-6 c = case_in (step_by_lem c.args.cells.now c.args.plan.now c.args.k c.step_first-a.result c.step_second-b.result) c.step_code.result (step_by c.args.cells.now c.args.plan.now c.args.k c.step_first-a.result c.step_second-b.result c.step_code.result c.step_first-a.ensures c.step_second-b.ensures c.step_code.ensures) 6 2 c.in-6.if-this-lt6-own.false c.in-6.if-this-lt8-own.true (refl, (refl, tt))

pub returns-in-10-to-13 : goal.returns-in-10-to-13
unfolding step_of step_ok
returns-in-10-to-13 c = case_in (step_by_lem c.args.cells.now c.args.plan.now c.args.k c.step_first-a.result c.step_second-b.result) c.step_code.result (step_by c.args.cells.now c.args.plan.now c.args.k c.step_first-a.result c.step_second-b.result c.step_code.result c.step_first-a.ensures c.step_second-b.ensures c.step_code.ensures) 10 4 (next 9 c.step_code.result (next 8 c.step_code.result c.in-10-to-13.if-this-lt8-own.false c.in-10-to-13.in_default-own.rest.0.0.1) c.in-10-to-13.in_default-own.rest.0.1) c.in-10-to-13.if-this-lt14-own.true (ap₂ ◌&&◌ c.end_ok.ensures (read_twice (link_count c.args.cells.now) c.link_there.ensures c.step_second_link.ensures c.step_second-b.ensures), (ap₂ ◌&&◌ c.end_ok.ensures (read_twice (link_count c.args.cells.now) c.link_there.ensures c.step_second_link.ensures c.step_second-b.ensures), (ap₂ ◌&&◌ c.end_ok.ensures (read_twice (link_count c.args.cells.now) c.link_there.ensures c.step_second_link.ensures c.step_second-b.ensures), (ap₂ ◌&&◌ c.end_ok.ensures (read_twice (link_count c.args.cells.now) c.link_there.ensures c.step_second_link.ensures c.step_second-b.ensures), tt))))

pub returns-in-14 : goal.returns-in-14
unfolding step_of step_ok
returns-in-14 c = case_in (step_by_lem c.args.cells.now c.args.plan.now c.args.k c.step_first-a.result c.step_second-b.result) c.step_code.result (step_by c.args.cells.now c.args.plan.now c.args.k c.step_first-a.result c.step_second-b.result c.step_code.result c.step_first-a.ensures c.step_second-b.ensures c.step_code.ensures) 14 2 c.in-14.if-this-lt14-own.false c.in-14.if-this-lt16-own.true (c.closed_ok.ensures, (c.closed_ok.ensures, tt))

pub returns-in-16-to-19 : goal.returns-in-16-to-19
unfolding step_of step_ok
returns-in-16-to-19 c = case_in (step_by_lem c.args.cells.now c.args.plan.now c.args.k c.step_first-a.result c.step_second-b.result) c.step_code.result (step_by c.args.cells.now c.args.plan.now c.args.k c.step_first-a.result c.step_second-b.result c.step_code.result c.step_first-a.ensures c.step_second-b.ensures c.step_code.ensures) 16 4 c.in-16-to-19.if-this-lt16-own.false c.in-16-to-19.if-this-lt20-own.true (ap₂ ◌&&◌ (ap (ltb _) c.path_count-in-16-to-19.ensures) (read_twice (link_count c.args.cells.now) c.link_there-in-16-to-19.ensures c.step_second_link-in-16-to-19.ensures c.step_second-b.ensures), (ap₂ ◌&&◌ (ap (ltb _) c.path_count-in-16-to-19.ensures) (read_twice (link_count c.args.cells.now) c.link_there-in-16-to-19.ensures c.step_second_link-in-16-to-19.ensures c.step_second-b.ensures), (ap₂ ◌&&◌ (ap (ltb _) c.path_count-in-16-to-19.ensures) (read_twice (link_count c.args.cells.now) c.link_there-in-16-to-19.ensures c.step_second_link-in-16-to-19.ensures c.step_second-b.ensures), (ap₂ ◌&&◌ (ap (ltb _) c.path_count-in-16-to-19.ensures) (read_twice (link_count c.args.cells.now) c.link_there-in-16-to-19.ensures c.step_second_link-in-16-to-19.ensures c.step_second-b.ensures), tt))))

pub returns-in-20 : goal.returns-in-20
unfolding step_of step_ok
returns-in-20 c = case_in (step_by_lem c.args.cells.now c.args.plan.now c.args.k c.step_first-a.result c.step_second-b.result) c.step_code.result (step_by c.args.cells.now c.args.plan.now c.args.k c.step_first-a.result c.step_second-b.result c.step_code.result c.step_first-a.ensures c.step_second-b.ensures c.step_code.ensures) 20 2 c.in-20.if-this-lt20-own.false c.in-20.if-this-lt22-own.true (ap (ltb _) c.path_count-in-20.ensures, (ap (ltb _) c.path_count-in-20.ensures, tt))

pub returns-in-22 : goal.returns-in-22
unfolding step_of step_ok
returns-in-22 c = case_in (step_by_lem c.args.cells.now c.args.plan.now c.args.k c.step_first-a.result c.step_second-b.result) c.step_code.result (step_by c.args.cells.now c.args.plan.now c.args.k c.step_first-a.result c.step_second-b.result c.step_code.result c.step_first-a.ensures c.step_second-b.ensures c.step_code.ensures) 22 2 c.in-22.if-this-lt22-own.false c.in-22.if-this-lt24-own.true (read_twice (link_count c.args.cells.now) c.link_there-in-22.ensures c.step_link.ensures c.step_first-a.ensures, (read_twice (link_count c.args.cells.now) c.link_there-in-22.ensures c.step_link.ensures c.step_first-a.ensures, tt))

pub returns-in-25-to-65535 : goal.returns-in-25-to-65535
unfolding step_of step_ok
returns-in-25-to-65535 c = case_past (step_by_lem c.args.cells.now c.args.plan.now c.args.k c.step_first-a.result c.step_second-b.result) c.step_code.result (step_by c.args.cells.now c.args.plan.now c.args.k c.step_first-a.result c.step_second-b.result c.step_code.result c.step_first-a.ensures c.step_second-b.ensures c.step_code.ensures) 25 (next 24 c.step_code.result c.in-25-to-65535.if-this-lt24-own.false c.in-25-to-65535.in_default-own.rest.1) (λ j l. step-unknown c.args.cells.now c.args.plan.now c.args.k c.step_first-a.result c.step_second-b.result j l)
