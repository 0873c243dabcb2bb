use Prim.Native.Nat.{ℕ}
use mathlib.Core.Bool.{true}
use mathlib.Core.Path.{refl}
use native.Mathlib.Omega.{arith}
use Rattle.model.specs.Shapes.{node_kind, datatype, language_in, min_inclusive, min_exclusive, max_inclusive, max_exclusive, has_shape, has_value, test, equals, disjoint, closed, less_than, less_than_eq}
use Rattle.grammar.specs.Syntax.{kind_word}
use Rattle.grammar.specs.Reading.{body_at, readers_at}
use Rattle.encoding.specs.Flatten.{kind_code}
use Rattle.itemreader.proofs.Items.{below_more}
use Rattle.leafreader.specs.Forms.{begun_of, Closes, put_item, UsedShape, ListShape, ValueShape, EndShape, PathShape}
use Rattle.leafreader.proofs.Forms.{form_is_lem, body_is, last_leaf}
use Rattle.leafreader.proofs.Shapes.{coded, kind_closes, is_used, shape_used, datatype_used, lang-shape, closed-shape, from-shape, above-shape, to-shape, below-shape, equal_shape, apart-shape, less-shape, lesseq_shape}
use Rattle.leafreader.proofs.read_leaf.Goals as goal

pub item_form-requires : goal.item_form-requires
item_form-requires c =
    let p = c.requires in
    (p.3, p.4, p.5, p.1, below_more _ 65536 _ c.read_kind.result (omega arith) c.read_kind.ensures.below)

pub returns-in-0 : goal.returns-in-0
unfolding body_at
returns-in-0 c =
    let s = c.args in
    record { form_read = λ a h b q i. form_is_lem (body_is s.book.now a s.left s.code 0 b s.at c.in-0.is) (c.used_form.ensures.form_read a h (readers_at s.book.now a s.left) b has_value (coded (UsedShape has_value) c.in-0.is is_used) s.values.now); forms_within = c.used_form.ensures.forms_within; cells_unchanged = c.used_form.ensures.cells_unchanged; values_unchanged = refl }

pub returns-in-1 : goal.returns-in-1
unfolding body_at
returns-in-1 c =
    let s = c.args in
    record { form_read = λ a h b q i. form_is_lem (body_is s.book.now a s.left s.code 1 b s.at c.in-1.is) (c.used_form-in-1.ensures.form_read a h (readers_at s.book.now a s.left) b has_shape (coded (UsedShape has_shape) c.in-1.is shape_used) s.values.now); forms_within = c.used_form-in-1.ensures.forms_within; cells_unchanged = c.used_form-in-1.ensures.cells_unchanged; values_unchanged = refl }

pub returns-in-5 : goal.returns-in-5
unfolding body_at
returns-in-5 c =
    let s = c.args in
    record { form_read = λ a h b q i. form_is_lem (body_is s.book.now a s.left s.code 5 b s.at c.in-5.is) (c.item_form.ensures.item_form a (readers_at s.book.now a s.left) b kind_word kind_code s.at (c.read_kind.ensures.reads a (readers_at s.book.now a s.left) b) (begun_of s.n) s.cells.now s.values.now s.values.now (λ k. test (node_kind k)) (λ k. coded (λ (w : ℕ). Closes (test (node_kind k)) (begun_of s.n) s.cells.now s.values.now s.values.now s.n (put_item true s.n.forms w 0 s.cells.now (kind_code k))) c.in-5.is (kind_closes s.n s.cells.now s.values.now k))); forms_within = c.item_form.ensures.forms_within; cells_unchanged = c.item_form.ensures.cells_unchanged; values_unchanged = refl }

pub returns-in-6 : goal.returns-in-6
unfolding body_at
returns-in-6 c =
    let s = c.args in
    record { form_read = λ a h b q i. form_is_lem (body_is s.book.now a s.left s.code 6 b s.at c.in-6.is) (c.used_form-in-6.ensures.form_read a h (readers_at s.book.now a s.left) b (λ k. test (datatype k)) (coded (UsedShape (λ k. test (datatype k))) c.in-6.is datatype_used) s.values.now); forms_within = c.used_form-in-6.ensures.forms_within; cells_unchanged = c.used_form-in-6.ensures.cells_unchanged; values_unchanged = refl }

pub returns-in-7 : goal.returns-in-7
unfolding body_at
returns-in-7 c =
    let s = c.args in
    record { form_read = λ a h b q i. form_is_lem (body_is s.book.now a s.left s.code 7 b s.at c.in-7.is) (c.list_form.ensures.form_read a h (readers_at s.book.now a s.left) b i (λ ks. test (language_in ks)) (coded (ListShape (λ ks. test (language_in ks))) c.in-7.is lang-shape) s.values.now); forms_within = c.list_form.ensures.forms_within; cells_unchanged = c.list_form.ensures.cells_unchanged; values_unchanged = refl }

pub returns-in-8 : goal.returns-in-8
unfolding body_at
returns-in-8 c =
    let s = c.args in
    record { form_read = λ a h b q i. form_is_lem (body_is s.book.now a s.left s.code 8 b s.at c.in-8.is) (c.value_form.ensures.form_read a (readers_at s.book.now a s.left) b (λ x. test (min_inclusive x)) (coded (ValueShape (λ x. test (min_inclusive x))) c.in-8.is from-shape)); forms_within = c.value_form.ensures.forms_within; cells_unchanged = c.value_form.ensures.cells_unchanged; values_unchanged = c.value_form.ensures.values_unchanged }

pub returns-in-9 : goal.returns-in-9
unfolding body_at
returns-in-9 c =
    let s = c.args in
    record { form_read = λ a h b q i. form_is_lem (body_is s.book.now a s.left s.code 9 b s.at c.in-9.is) (c.value_form-in-9.ensures.form_read a (readers_at s.book.now a s.left) b (λ x. test (min_exclusive x)) (coded (ValueShape (λ x. test (min_exclusive x))) c.in-9.is above-shape)); forms_within = c.value_form-in-9.ensures.forms_within; cells_unchanged = c.value_form-in-9.ensures.cells_unchanged; values_unchanged = c.value_form-in-9.ensures.values_unchanged }

pub returns-in-10 : goal.returns-in-10
unfolding body_at
returns-in-10 c =
    let s = c.args in
    record { form_read = λ a h b q i. form_is_lem (body_is s.book.now a s.left s.code 10 b s.at c.in-10.is) (c.value_form-in-10.ensures.form_read a (readers_at s.book.now a s.left) b (λ x. test (max_inclusive x)) (coded (ValueShape (λ x. test (max_inclusive x))) c.in-10.is to-shape)); forms_within = c.value_form-in-10.ensures.forms_within; cells_unchanged = c.value_form-in-10.ensures.cells_unchanged; values_unchanged = c.value_form-in-10.ensures.values_unchanged }

pub returns-in-11 : goal.returns-in-11
unfolding body_at
returns-in-11 c =
    let s = c.args in
    record { form_read = λ a h b q i. form_is_lem (body_is s.book.now a s.left s.code 11 b s.at c.in-11.is) (c.value_form-in-11.ensures.form_read a (readers_at s.book.now a s.left) b (λ x. test (max_exclusive x)) (coded (ValueShape (λ x. test (max_exclusive x))) c.in-11.is below-shape)); forms_within = c.value_form-in-11.ensures.forms_within; cells_unchanged = c.value_form-in-11.ensures.cells_unchanged; values_unchanged = c.value_form-in-11.ensures.values_unchanged }

pub returns-in-14 : goal.returns-in-14
unfolding body_at
returns-in-14 c =
    let s = c.args in
    record { form_read = λ a h b q i. form_is_lem (body_is s.book.now a s.left s.code 14 b s.at c.in-14.is) (c.end_form.ensures.form_read a h b q equals (coded (EndShape equals) c.in-14.is equal_shape) s.values.now); forms_within = c.end_form.ensures.forms_within; cells_unchanged = c.end_form.ensures.cells_unchanged; values_unchanged = refl }

pub returns-in-15 : goal.returns-in-15
unfolding body_at
returns-in-15 c =
    let s = c.args in
    record { form_read = λ a h b q i. form_is_lem (body_is s.book.now a s.left s.code 15 b s.at c.in-15.is) (c.end_form-in-15.ensures.form_read a h b q disjoint (coded (EndShape disjoint) c.in-15.is apart-shape) s.values.now); forms_within = c.end_form-in-15.ensures.forms_within; cells_unchanged = c.end_form-in-15.ensures.cells_unchanged; values_unchanged = refl }

pub returns-in-16 : goal.returns-in-16
unfolding body_at
returns-in-16 c =
    let s = c.args in
    record { form_read = λ a h b q i. form_is_lem (body_is s.book.now a s.left s.code 16 b s.at c.in-16.is) (c.list_form-in-16.ensures.form_read a h (readers_at s.book.now a s.left) b i closed (coded (ListShape closed) c.in-16.is closed-shape) s.values.now); forms_within = c.list_form-in-16.ensures.forms_within; cells_unchanged = c.list_form-in-16.ensures.cells_unchanged; values_unchanged = refl }

pub returns-in-17 : goal.returns-in-17
unfolding body_at
returns-in-17 c =
    let s = c.args in
    record { form_read = λ a h b q i. form_is_lem (body_is s.book.now a s.left s.code 17 b s.at c.in-17.is) (c.less_form.ensures.form_read a h b q less_than (coded (PathShape less_than) c.in-17.is less-shape) s.values.now); forms_within = c.less_form.ensures.forms_within; cells_unchanged = c.less_form.ensures.cells_unchanged; values_unchanged = refl }

pub returns-in-18 : goal.returns-in-18
unfolding body_at
returns-in-18 c =
    let s = c.args in
    record { form_read = λ a h b q i. form_is_lem (body_is s.book.now a s.left s.code 18 b s.at c.in-18.is) (c.less_form-in-18.ensures.form_read a h b q less_than_eq (coded (PathShape less_than_eq) c.in-18.is lesseq_shape) s.values.now); forms_within = c.less_form-in-18.ensures.forms_within; cells_unchanged = c.less_form-in-18.ensures.cells_unchanged; values_unchanged = refl }

pub returns-in_default : goal.returns-in_default
unfolding body_at
returns-in_default c =
    let s = c.args in
    let p = c.requires in
    let e = last_leaf s.code p.6 p.7 c.in_default.in_default-own.rest.0.0.0.0.0.0.0.0.0.0.0.0.0.1 c.in_default.in_default-own.rest.0.0.0.0.0.0.0.0.0.0.0.0.1 c.in_default.in_default-own.rest.0.0.0.0.0.0.0.0.0.0.0.1 c.in_default.in_default-own.rest.0.0.0.0.0.0.0.0.0.0.1 c.in_default.in_default-own.rest.0.0.0.0.0.0.0.0.0.1 c.in_default.in_default-own.rest.0.0.0.0.0.0.0.0.1 c.in_default.in_default-own.rest.0.0.0.0.0.0.0.1 c.in_default.in_default-own.rest.0.0.0.0.0.0.1 c.in_default.in_default-own.rest.0.0.0.0.0.1 c.in_default.in_default-own.rest.0.0.0.0.1 c.in_default.in_default-own.rest.0.0.0.1 c.in_default.in_default-own.rest.0.0.1 c.in_default.in_default-own.rest.0.1 c.in_default.in_default-own.rest.1 in
    record { form_read = λ a h b q i. form_is_lem (body_is s.book.now a s.left s.code 19 b s.at e) (c.onelang_form.ensures.form_read a h b q s.values.now); forms_within = c.onelang_form.ensures.forms_within; cells_unchanged = c.onelang_form.ensures.cells_unchanged; values_unchanged = refl }
