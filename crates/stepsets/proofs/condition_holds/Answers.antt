-- `condition_holds` meets its contract, by what is asked: a search found nothing, or something.
use Prim.Native.Nat.{ℕ}
use mathlib.Core.Bool.{not, ◌&&◌}
use mathlib.Core.Path.{refl, ap, ◌∙◌}
use native.Mathlib.Omega.{arith}
use Rattle.nodeset.specs.Words.{has}
use Rattle.model.specs.Shapes.{subset, none_shared}
use Rattle.tables.proofs.WellFormed.{sound}
use Rattle.plan.specs.Conditions.{some_in_one, some_shared}
use Rattle.conditions.proofs.Terms.{test-broken}
use Rattle.conditions.proofs.Searches.{subset-kept, equal-kept, equal-broken, apart_kept, apart-broken}
use Rattle.conditions.proofs.Pairs.{less-kept, less-broken, lesseq_kept, lesseq_broken}
use Rattle.conditions.proofs.Langs.{onelang-kept, onelang-broken}
use Rattle.conditions.proofs.Items.{closed-kept, closed-broken}
use Rattle.stepsets.specs.Conditions.{holds_of}
use Rattle.stepsets.proofs.Conditions.{test_named, untest_named}
use Rattle.stepsets.proofs.condition_holds.Goals as goal

pub test_holds-requires : goal.test_holds-requires
test_holds-requires c = let t = test_named c.args.tables.cells.now c.in-Test.is c.requires.1 in (c.requires.0, t.0, t.1)

pub test_holds-requires-in-Untest : goal.test_holds-requires-in-Untest
test_holds-requires-in-Untest c = let t = untest_named c.args.tables.cells.now c.in-Untest.is c.requires.1 in (c.requires.0, t.0, t.1)

pub first_outside-requires : goal.first_outside-requires
first_outside-requires c = omega (arith, c.node_count-n.ensures, (sound c.args.tables.cells.now c.args.tables.made.ok).nodes)

pub first_in_one-requires : goal.first_in_one-requires
first_in_one-requires c = omega (arith, c.node_count-n.ensures, (sound c.args.tables.cells.now c.args.tables.made.ok).nodes)

pub first_in_one-requires-in-Unequal : goal.first_in_one-requires-in-Unequal
first_in_one-requires-in-Unequal c = omega (arith, c.node_count-n.ensures, (sound c.args.tables.cells.now c.args.tables.made.ok).nodes)

pub first_shared-requires : goal.first_shared-requires
first_shared-requires c = omega (arith, c.node_count-n.ensures, (sound c.args.tables.cells.now c.args.tables.made.ok).nodes)

pub first_shared-requires-in-Meet : goal.first_shared-requires-in-Meet
first_shared-requires-in-Meet c = omega (arith, c.node_count-n.ensures, (sound c.args.tables.cells.now c.args.tables.made.ok).nodes)

pub first_unordered-requires : goal.first_unordered-requires
first_unordered-requires c = (sound c.args.tables.cells.now c.args.tables.made.ok).nodes

pub first_unordered-requires-in-NotLess : goal.first_unordered-requires-in-NotLess
first_unordered-requires-in-NotLess c = (sound c.args.tables.cells.now c.args.tables.made.ok).nodes

pub first_unordered-requires-in-LessEq : goal.first_unordered-requires-in-LessEq
first_unordered-requires-in-LessEq c = (sound c.args.tables.cells.now c.args.tables.made.ok).nodes

pub first_unordered-requires-in-NotLessEq : goal.first_unordered-requires-in-NotLessEq
first_unordered-requires-in-NotLessEq c = (sound c.args.tables.cells.now c.args.tables.made.ok).nodes

pub first_clash-requires : goal.first_clash-requires
first_clash-requires c = (sound c.args.tables.cells.now c.args.tables.made.ok).nodes

pub first_clash-requires-in-ManyLang : goal.first_clash-requires-in-ManyLang
first_clash-requires-in-ManyLang c = (sound c.args.tables.cells.now c.args.tables.made.ok).nodes

pub returns-in-Is : goal.returns-in-Is
unfolding holds_of
returns-in-Is c = rw c.in-Is.is refl

pub returns-in-IsNot : goal.returns-in-IsNot
unfolding holds_of
returns-in-IsNot c = rw c.in-IsNot.is refl

pub returns-in-Test : goal.returns-in-Test
unfolding holds_of
returns-in-Test c = rw c.in-Test.is c.test_holds.ensures

pub returns-in-Untest : goal.returns-in-Untest
unfolding holds_of
returns-in-Untest c = let a = c.args in rw c.in-Untest.is (ap not c.test_holds-in-Untest.ensures ∙ (let t = untest_named a.tables.cells.now c.in-Untest.is c.requires.1 in test-broken a.tables.cells.now a.tables.values.now c.in-Untest.e a.v.0 t.0 t.1))

pub returns-in-Count : goal.returns-in-Count
unfolding holds_of
returns-in-Count c = rw c.in-Count.is (cc)

pub returns-in-Every : goal.returns-in-Every
unfolding holds_of
returns-in-Every c = let a = c.args in rw c.in-Every.is (subset-kept c.node_count-n.result (has a.a.now) (has a.b.now) c.first_outside.result c.first_outside.ensures c.is_none.ensures ∙ ap (λ (n : ℕ). subset n (has a.a.now) (has a.b.now)) c.node_count-n.ensures)

pub returns-in-Equal : goal.returns-in-Equal
unfolding holds_of
returns-in-Equal c = let a = c.args in rw c.in-Equal.is (equal-kept c.node_count-n.result (has a.a.now) (has a.b.now) c.first_in_one.result c.first_in_one.ensures c.is_none-in-Equal.ensures ∙ ap (λ (n : ℕ). subset n (has a.a.now) (has a.b.now) && subset n (has a.b.now) (has a.a.now)) c.node_count-n.ensures)

pub returns-in-Unequal : goal.returns-in-Unequal
unfolding holds_of
returns-in-Unequal c = let a = c.args in rw c.in-Unequal.is (c.is_some.ensures ∙ equal-broken c.node_count-n.result (has a.a.now) (has a.b.now) c.first_in_one-in-Unequal.result c.first_in_one-in-Unequal.ensures ∙ ap (λ (n : ℕ). some_in_one n (has a.a.now) (has a.b.now)) c.node_count-n.ensures)

pub returns-in-Apart : goal.returns-in-Apart
unfolding holds_of
returns-in-Apart c = let a = c.args in rw c.in-Apart.is (apart_kept c.node_count-n.result (has a.a.now) (has a.b.now) c.first_shared.result c.first_shared.ensures c.is_none-in-Apart.ensures ∙ ap (λ (n : ℕ). none_shared n (has a.a.now) (has a.b.now)) c.node_count-n.ensures)

pub returns-in-Meet : goal.returns-in-Meet
unfolding holds_of
returns-in-Meet c = let a = c.args in rw c.in-Meet.is (c.is_some-in-Meet.ensures ∙ apart-broken c.node_count-n.result (has a.a.now) (has a.b.now) c.first_shared-in-Meet.result c.first_shared-in-Meet.ensures ∙ ap (λ (n : ℕ). some_shared n (has a.a.now) (has a.b.now)) c.node_count-n.ensures)

pub returns-in-Less : goal.returns-in-Less
unfolding holds_of
returns-in-Less c = let a = c.args in rw c.in-Less.is (less-kept a.tables.cells.now a.tables.values.now (has a.a.now) (has a.b.now) c.first_unordered.result c.first_unordered.ensures c.is_none-in-Less.ensures)

pub returns-in-NotLess : goal.returns-in-NotLess
unfolding holds_of
returns-in-NotLess c = let a = c.args in rw c.in-NotLess.is (c.is_some-in-NotLess.ensures ∙ less-broken a.tables.cells.now a.tables.values.now (has a.a.now) (has a.b.now) c.first_unordered-in-NotLess.result c.first_unordered-in-NotLess.ensures)

pub returns-in-LessEq : goal.returns-in-LessEq
unfolding holds_of
returns-in-LessEq c = let a = c.args in rw c.in-LessEq.is (lesseq_kept a.tables.cells.now a.tables.values.now (has a.a.now) (has a.b.now) c.first_unordered-in-LessEq.result c.first_unordered-in-LessEq.ensures c.is_none-in-LessEq.ensures)

pub returns-in-NotLessEq : goal.returns-in-NotLessEq
unfolding holds_of
returns-in-NotLessEq c = let a = c.args in rw c.in-NotLessEq.is (c.is_some-in-NotLessEq.ensures ∙ lesseq_broken a.tables.cells.now a.tables.values.now (has a.a.now) (has a.b.now) c.first_unordered-in-NotLessEq.result c.first_unordered-in-NotLessEq.ensures)

pub returns-in-OneLang : goal.returns-in-OneLang
unfolding holds_of
returns-in-OneLang c = let a = c.args in rw c.in-OneLang.is (onelang-kept a.tables.cells.now a.tables.values.now (λ w. has a.a.now w && has a.b.now w) c.first_clash.result (c.first_clash.ensures a.tables.values.now) c.is_none-in-OneLang.ensures)

pub returns-in-ManyLang : goal.returns-in-ManyLang
unfolding holds_of
returns-in-ManyLang c = let a = c.args in rw c.in-ManyLang.is (c.is_some-in-ManyLang.ensures ∙ onelang-broken a.tables.cells.now a.tables.values.now (λ w. has a.a.now w && has a.b.now w) c.first_clash-in-ManyLang.result (c.first_clash-in-ManyLang.ensures a.tables.values.now))

pub returns-in-Closed : goal.returns-in-Closed
unfolding holds_of
returns-in-Closed c = let a = c.args in rw c.in-Closed.is (closed-kept a.tables.cells.now (has a.b.now) a.v.0 c.first_unlisted.result c.first_unlisted.ensures c.is_none-in-Closed.ensures)

pub returns-in-Open : goal.returns-in-Open
unfolding holds_of
returns-in-Open c = let a = c.args in rw c.in-Open.is (c.is_some-in-Open.ensures ∙ closed-broken a.tables.cells.now (has a.b.now) a.v.0 c.first_unlisted-in-Open.result c.first_unlisted-in-Open.ensures)
