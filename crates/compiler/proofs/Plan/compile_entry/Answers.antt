-- `compile_entry` meets its contract, arm by arm.
-- what is known after the entry's code has been read, which all arms share
use Prim.Native.Nat.{zero-le}
use mathlib.Core.Path.{refl}
use Rattle.tables.specs.Codes as codes
use Rattle.plan.specs.Steps.{numbers_of}
use Rattle.base.proofs.Codes.{nots_past}
use Rattle.compiler.specs.Stores.{no_pair}
use Rattle.compiler.proofs.Laws.{two_as}
use Rattle.compiler.proofs.Arms.{Read, arm_top, arm_is, arm_shape, arm_conj, arm_disj, arm_neg, arm_test, arm_count, arm_all, arm_equal, arm_apart, arm_closed, arm_less, arm_lesseq, arm_onelang, arm_unknown}
use Rattle.compiler.proofs.Plan.compile_entry.Goals as goal
use Rattle.compiler.proofs.Plan.compile_entry.Goals.{After-form_code-code}

abbrev read : After-form_code-code → Read
read c =
    let a = c.args in
    record { cs = a.cells.now; ps = a.self.now.cells.now; pairs = a.pairs.now; e = a.e; n = a.self.now.next; code = c.form_code-code.result; same = c.form_code-code.ensures }

pub returns-in-0-clause-added : goal.returns-in-0-clause-added
unfolding numbers_of
returns-in-0-clause-added c = arm_top (read (goal.at.returns-in-0-clause-added c).After-form_code-code) c.two.new.self.cells.now c.two.new.self.next c.two.result c.in-0.is (two_as c.step.ensures c.step-in-0.ensures c.two.ensures.added)

pub returns-in-1-clause-added : goal.returns-in-1-clause-added
returns-in-1-clause-added c = arm_is (read (goal.at.returns-in-1-clause-added c).After-form_code-code) c.is_steps.new.self.cells.now c.is_steps.new.self.next c.is_steps.result c.in-1.is c.is_steps.ensures.added

pub returns-in-2-clause-added : goal.returns-in-2-clause-added
returns-in-2-clause-added c = arm_shape (read (goal.at.returns-in-2-clause-added c).After-form_code-code) (read (goal.at.returns-in-2-clause-added c).After-form_code-code).ps (read (goal.at.returns-in-2-clause-added c).After-form_code-code).n c.same_steps.result c.in-2.is refl refl c.same_steps.ensures.0 c.same_steps.ensures.1

pub returns-in-3-clause-added : goal.returns-in-3-clause-added
unfolding numbers_of
returns-in-3-clause-added c = arm_conj (read (goal.at.returns-in-3-clause-added c).After-form_code-code) c.parts_steps.new.self.cells.now c.parts_steps.new.self.next c.parts_steps.result c.in-3.is c.parts_steps.ensures.added

pub returns-in-4-clause-added : goal.returns-in-4-clause-added
unfolding numbers_of
returns-in-4-clause-added c = arm_disj (read (goal.at.returns-in-4-clause-added c).After-form_code-code) c.parts_steps-in-4.new.self.cells.now c.parts_steps-in-4.new.self.next c.parts_steps-in-4.result c.in-4.is c.parts_steps-in-4.ensures.added

pub returns-in-5-clause-added : goal.returns-in-5-clause-added
returns-in-5-clause-added c = arm_neg (read (goal.at.returns-in-5-clause-added c).After-form_code-code) (read (goal.at.returns-in-5-clause-added c).After-form_code-code).ps (read (goal.at.returns-in-5-clause-added c).After-form_code-code).n c.swapped.result c.in-5.is refl refl c.swapped.ensures.0 c.swapped.ensures.1

pub returns-in-13-clause-added : goal.returns-in-13-clause-added
returns-in-13-clause-added c = arm_count (read (goal.at.returns-in-13-clause-added c).After-form_code-code) c.count_entry.new.self.cells.now c.count_entry.new.self.next c.count_entry.result c.in-13.is c.count_entry.ensures.added

pub returns-in-14-clause-added : goal.returns-in-14-clause-added
returns-in-14-clause-added c = arm_all (read (goal.at.returns-in-14-clause-added c).After-form_code-code) c.all_entry.new.self.cells.now c.all_entry.new.self.next c.all_entry.result c.in-14.is c.all_entry.ensures.added

pub returns-in-15-clause-added : goal.returns-in-15-clause-added
unfolding numbers_of
returns-in-15-clause-added c = arm_equal (read (goal.at.returns-in-15-clause-added c).After-form_code-code) c.link_steps.new.self.cells.now c.link_steps.new.self.next c.link_steps.result c.in-15.is c.link_steps.ensures.added

pub returns-in-16-clause-added : goal.returns-in-16-clause-added
unfolding numbers_of
returns-in-16-clause-added c = arm_apart (read (goal.at.returns-in-16-clause-added c).After-form_code-code) c.link_steps-in-16.new.self.cells.now c.link_steps-in-16.new.self.next c.link_steps-in-16.result c.in-16.is c.link_steps-in-16.ensures.added

pub returns-in-17-clause-added : goal.returns-in-17-clause-added
unfolding numbers_of
returns-in-17-clause-added c = arm_closed (read (goal.at.returns-in-17-clause-added c).After-form_code-code) c.own_steps.new.self.cells.now c.own_steps.new.self.next c.own_steps.result c.in-17.is c.own_steps.ensures.added

pub returns-in-18-clause-added : goal.returns-in-18-clause-added
unfolding numbers_of
returns-in-18-clause-added c = arm_less (read (goal.at.returns-in-18-clause-added c).After-form_code-code) c.link_steps-in-18.new.self.cells.now c.link_steps-in-18.new.self.next c.link_steps-in-18.result c.in-18.is c.link_steps-in-18.ensures.added

pub returns-in-19-clause-added : goal.returns-in-19-clause-added
unfolding numbers_of
returns-in-19-clause-added c = arm_lesseq (read (goal.at.returns-in-19-clause-added c).After-form_code-code) c.link_steps-in-19.new.self.cells.now c.link_steps-in-19.new.self.next c.link_steps-in-19.result c.in-19.is c.link_steps-in-19.ensures.added

pub returns-in-20-clause-added : goal.returns-in-20-clause-added
returns-in-20-clause-added c = arm_onelang (read (goal.at.returns-in-20-clause-added c).After-form_code-code) c.path_steps.new.self.cells.now c.path_steps.new.self.next c.path_steps.result c.in-20.is c.path_steps.ensures.added

pub returns-in-6-to-12-clause-added : goal.returns-in-6-to-12-clause-added
unfolding numbers_of
returns-in-6-to-12-clause-added c = arm_test (read (goal.at.returns-in-6-to-12-clause-added c).After-form_code-code) c.own_steps-in-6-to-12.new.self.cells.now c.own_steps-in-6-to-12.new.self.next c.own_steps-in-6-to-12.result (nots_past _ c.form_code-code.result 0 codes.form_kind zero-le c.in-6-to-12.in_default-own.rest.0.0.0.0.0.0.0.0) c.in-6-to-12.if-code-lt13-own.true c.own_steps-in-6-to-12.ensures.added

pub returns-in-21-to-65535-clause-added : goal.returns-in-21-to-65535-clause-added
returns-in-21-to-65535-clause-added c = arm_unknown (read (goal.at.returns-in-21-to-65535-clause-added c).After-form_code-code) (read (goal.at.returns-in-21-to-65535-clause-added c).After-form_code-code).ps (read (goal.at.returns-in-21-to-65535-clause-added c).After-form_code-code).n no_pair (nots_past _ c.form_code-code.result codes.form_count 8 c.in-21-to-65535.if-code-lt13-own.false c.in-21-to-65535.in_default-own.rest) refl refl refl refl
