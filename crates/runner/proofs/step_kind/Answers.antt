-- `step_kind` meets its contract, arm by arm.
-- what is known after the step's code has been read, which all arms share
use Prim.Native.Nat.{zero-le}
use mathlib.Core.Path.{refl}
use Rattle.plan.specs.Steps.{step_of, step_unknown}
use Rattle.base.proofs.Codes.{nots_past}
use Rattle.paths.specs.declared.End.{End}
use Rattle.stepsets.specs.declared.Condition.TheVariants.{Is, IsNot, Equal, Unequal, Apart, Meet, Less, NotLess, LessEq, NotLessEq}
use Rattle.targets.specs.declared.Target.TheVariants.{From, Into, Typed}
use Rattle.runner.specs.declared.Kind.TheVariants.{Node, Ends, Selected}
use Rattle.runner.specs.Kinds.{kind_of}
use Rattle.runner.proofs.Arms.{Read, arm, arm_unknown, by_node_lem, by_link, by_second, by_ends}
use Rattle.runner.proofs.step_kind.Goals as goal
use Rattle.runner.proofs.step_kind.Goals.{After-step_code}

abbrev read : After-step_code → Read
read c = record {
  ps = c.args.plan.now;
  k = c.args.k;
  a = c.step_first-a.result;
  b = c.step_second-b.result;
  lo = c.step_third-lo.result;
  hi = c.step_fourth-hi.result;
  c = c.step_node-c.result;
  p = c.step_link-p.result;
  l = c.step_second_link-l.result;
  end = c.end_at-end.result;
  code = c.step_code.result;
  first = c.step_first-a.ensures;
  second = c.step_second-b.ensures;
  third = c.step_third-lo.ensures;
  fourth = c.step_fourth-hi.ensures;
  first-node = c.step_node-c.ensures;
  first-link = c.step_link-p.ensures;
  second-link = c.step_second_link-l.ensures;
  at = c.end_at-end.ensures;
  same = c.step_code.ensures;
}

pub returns-in-0 : goal.returns-in-0
unfolding step_of kind_of
returns-in-0 c = arm (read (goal.at.returns-in-0 c).After-step_code) c.in-0.is refl

pub returns-in-1 : goal.returns-in-1
unfolding step_of kind_of
returns-in-1 c = arm (read (goal.at.returns-in-1 c).After-step_code) c.in-1.is refl

pub returns-in-2 : goal.returns-in-2
unfolding step_of kind_of
returns-in-2 c = arm (read (goal.at.returns-in-2 c).After-step_code) c.in-2.is (by_node_lem (read (goal.at.returns-in-2 c).After-step_code) (λ x. Node (Is x)))

pub returns-in-3 : goal.returns-in-3
unfolding step_of kind_of
returns-in-3 c = arm (read (goal.at.returns-in-3 c).After-step_code) c.in-3.is (by_node_lem (read (goal.at.returns-in-3 c).After-step_code) (λ x. Node (IsNot x)))

pub returns-in-4 : goal.returns-in-4
unfolding step_of kind_of
returns-in-4 c = arm (read (goal.at.returns-in-4 c).After-step_code) c.in-4.is refl

pub returns-in-5 : goal.returns-in-5
unfolding step_of kind_of
returns-in-5 c = arm (read (goal.at.returns-in-5 c).After-step_code) c.in-5.is refl

pub returns-in-6 : goal.returns-in-6
unfolding step_of kind_of
returns-in-6 c = arm (read (goal.at.returns-in-6 c).After-step_code) c.in-6.is refl

pub returns-in-7 : goal.returns-in-7
unfolding step_of kind_of
returns-in-7 c = arm (read (goal.at.returns-in-7 c).After-step_code) c.in-7.is refl

pub returns-in-8 : goal.returns-in-8
unfolding step_of kind_of
returns-in-8 c = arm (read (goal.at.returns-in-8 c).After-step_code) c.in-8.is refl

pub returns-in-9 : goal.returns-in-9
unfolding step_of kind_of
returns-in-9 c = arm (read (goal.at.returns-in-9 c).After-step_code) c.in-9.is refl

pub returns-in-10 : goal.returns-in-10
unfolding step_of kind_of
returns-in-10 c = arm (read (goal.at.returns-in-10 c).After-step_code) c.in-10.is (by_ends (read (goal.at.returns-in-10 c).After-step_code) (Ends Equal))

pub returns-in-11 : goal.returns-in-11
unfolding step_of kind_of
returns-in-11 c = arm (read (goal.at.returns-in-11 c).After-step_code) c.in-11.is (by_ends (read (goal.at.returns-in-11 c).After-step_code) (Ends Unequal))

pub returns-in-12 : goal.returns-in-12
unfolding step_of kind_of
returns-in-12 c = arm (read (goal.at.returns-in-12 c).After-step_code) c.in-12.is (by_ends (read (goal.at.returns-in-12 c).After-step_code) (Ends Apart))

pub returns-in-13 : goal.returns-in-13
unfolding step_of kind_of
returns-in-13 c = arm (read (goal.at.returns-in-13 c).After-step_code) c.in-13.is (by_ends (read (goal.at.returns-in-13 c).After-step_code) (Ends Meet))

pub returns-in-14 : goal.returns-in-14
unfolding step_of kind_of
returns-in-14 c = arm (read (goal.at.returns-in-14 c).After-step_code) c.in-14.is refl

pub returns-in-15 : goal.returns-in-15
unfolding step_of kind_of
returns-in-15 c = arm (read (goal.at.returns-in-15 c).After-step_code) c.in-15.is refl

pub returns-in-16 : goal.returns-in-16
unfolding step_of kind_of
returns-in-16 c = arm (read (goal.at.returns-in-16 c).After-step_code) c.in-16.is (by_second (read (goal.at.returns-in-16 c).After-step_code) (λ x. Ends Less (End.Path c.step_first-a.result) x))

pub returns-in-17 : goal.returns-in-17
unfolding step_of kind_of
returns-in-17 c = arm (read (goal.at.returns-in-17 c).After-step_code) c.in-17.is (by_second (read (goal.at.returns-in-17 c).After-step_code) (λ x. Ends NotLess (End.Path c.step_first-a.result) x))

pub returns-in-18 : goal.returns-in-18
unfolding step_of kind_of
returns-in-18 c = arm (read (goal.at.returns-in-18 c).After-step_code) c.in-18.is (by_second (read (goal.at.returns-in-18 c).After-step_code) (λ x. Ends LessEq (End.Path c.step_first-a.result) x))

pub returns-in-19 : goal.returns-in-19
unfolding step_of kind_of
returns-in-19 c = arm (read (goal.at.returns-in-19 c).After-step_code) c.in-19.is (by_second (read (goal.at.returns-in-19 c).After-step_code) (λ x. Ends NotLessEq (End.Path c.step_first-a.result) x))

pub returns-in-20 : goal.returns-in-20
unfolding step_of kind_of
returns-in-20 c = arm (read (goal.at.returns-in-20 c).After-step_code) c.in-20.is refl

pub returns-in-21 : goal.returns-in-21
unfolding step_of kind_of
returns-in-21 c = arm (read (goal.at.returns-in-21 c).After-step_code) c.in-21.is refl

pub returns-in-22 : goal.returns-in-22
unfolding step_of kind_of
returns-in-22 c = arm (read (goal.at.returns-in-22 c).After-step_code) c.in-22.is (by_link (read (goal.at.returns-in-22 c).After-step_code) (λ x. Selected (From x)))

pub returns-in-23 : goal.returns-in-23
unfolding step_of kind_of
returns-in-23 c = arm (read (goal.at.returns-in-23 c).After-step_code) c.in-23.is (by_link (read (goal.at.returns-in-23 c).After-step_code) (λ x. Selected (Into x)))

pub returns-in-24 : goal.returns-in-24
unfolding step_of kind_of
returns-in-24 c = arm (read (goal.at.returns-in-24 c).After-step_code) c.in-24.is (by_node_lem (read (goal.at.returns-in-24 c).After-step_code) (λ x. Selected (Typed x)))

pub returns-in-25-to-65535 : goal.returns-in-25-to-65535
returns-in-25-to-65535 c = arm_unknown (read (goal.at.returns-in-25-to-65535 c).After-step_code) (nots_past _ c.step_code.result 0 step_unknown zero-le c.in-25-to-65535.in-25-to-65535-own.rest)
