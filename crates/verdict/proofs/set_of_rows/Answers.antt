-- `set_of_rows` meets its contract: each arm's set tells of the nodes what the entry says.
use Prim.Native.Nat.{ℕ, ◌*◌, ◌≤◌, ◌<◌}
use mathlib.Core.Bool.{true}
use mathlib.Core.List.{List, []}
use mathlib.Core.Path.{◌≡◌, refl, sym, ap, ◌∙◌, subst}
use native.Mathlib.Omega.{arith}
use borrow.Author.Tests.{lt-ltb}
use Rattle.tables.specs.Codes as codes
use Rattle.tables.specs.Layout.{path_count, form_code_at, form_first_at, form_second_at, form_third_at, form_fourth_at}
use Rattle.tables.specs.WellFormed as tables
use Rattle.paths.specs.Ends.{end_known}
use Rattle.entries.proofs.Codes.{count_path, all_path, less_path, lesseq_path, lang_path, set-end}
use Rattle.entries.proofs.Ends.{end-ok}
use Rattle.stepsets.specs.Conditions.{condition_ok}
use Rattle.verdict.specs.Memo.{Ready}
use Rattle.verdict.proofs.Parts.{first_by_lem}
use Rattle.verdict.proofs.Holds.{code_le}
use Rattle.verdict.proofs.Along.{part_room, count_tells, all_tells, equal_tells, apart_tells, less_tells, lesseq_tells, lang_tells}
use Rattle.verdict.proofs.set_of_rows.Goals as goal
use Rattle.verdict.proofs.set_of_rows.Goals.{After-form_code, In_default}

-- ---- what is known before the match: the tables and the operands
abbrev cells : After-form_code → List ℕ
cells m = m.args.rows.now.tables.cells.now

ready : (m : After-form_code) → Ready (cells m) m.args.rows.now.tables.index.now m.args.rows.now.tables.values.now m.args.memo.now m.args.e
ready m = m.requires.0

first : (m : After-form_code) → m.wide-p.result ≡ form_first_at (cells m) m.args.e
first m = m.wide-p.ensures ∙ m.form_first.ensures

half : (m : After-form_code) → 2 * m.wide-j.result ≡ 2 * form_second_at (cells m) m.args.e
half m = ap (λ (x : ℕ). 2 * x) (m.wide-j.ensures ∙ m.form_second.ensures)

low : (m : After-form_code) → m.wide.result ≡ form_third_at (cells m) m.args.e
low m = m.wide.ensures ∙ m.form_third.ensures

high : (m : After-form_code) → m.wide-2.result ≡ form_fourth_at (cells m) m.args.e
high m = m.wide-2.ensures ∙ m.form_fourth.ensures

-- END of `equal` and `apart`
end-right : (m : After-form_code) (n : ℕ) → form_code_at (cells m) m.args.e ≡ n → 15 ≤ n → n ≤ 19 → (n ≡ 17 → ⊥) → end_known (cells m) m.end_at-end.result ≡ true
end-right m n q a b ne = ap (end_known (cells m)) m.end_at-end.ensures ∙ end-ok (cells m) m.wide-p.result (ap (tables.end_number_ok (cells m)) (first m) ∙ set-end (cells m) (ready m).tables [] m.args.e (ready m).entry (omega (arith, q)) (omega (arith, q)) (λ h. ne (sym q ∙ h)))

-- a path entry
entry : (m : After-form_code) → form_first_at (cells m) m.args.e < path_count (cells m) → m.wide-p.result < path_count (cells m)
entry m h = subst (λ (p : ℕ). p < path_count (cells m)) (sym (first m)) h

-- the code that is left
first_four : (k : ℕ) → codes.form_count ≤ k → (k ≡ codes.form_count → ⊥) → (k ≡ codes.form_all → ⊥) → (k ≡ codes.form_equal → ⊥) → (k ≡ codes.form_apart → ⊥) → codes.form_closed ≤ k
first_four k l a b c d = omega arith

last_four : (k : ℕ) → codes.form_closed ≤ k → k ≤ codes.form_onelang → (k ≡ codes.form_closed → ⊥) → (k ≡ codes.form_less → ⊥) → (k ≡ codes.form_lesseq → ⊥) → k ≡ codes.form_onelang
last_four k l m a b c = omega arith

lang : (c : In_default) → form_code_at (cells (goal.at.In_default c).After-form_code) c.args.e ≡ codes.form_onelang
lang c =
    let k = c.form_code.result in
    let pre = c.requires in
    let e = c.form_code.ensures in
    let n13 : k ≡ codes.form_count → ⊥ = c.in_default.in_default-own.rest.0.0.0.0.0.1 in
    let n14 : k ≡ codes.form_all → ⊥ = c.in_default.in_default-own.rest.0.0.0.0.1 in
    let n15 : k ≡ codes.form_equal → ⊥ = c.in_default.in_default-own.rest.0.0.0.1 in
    let n16 : k ≡ codes.form_apart → ⊥ = c.in_default.in_default-own.rest.0.0.1 in
    let n17 : k ≡ codes.form_closed → ⊥ = λ h. pre.2 (sym e ∙ h) in
    let n18 : k ≡ codes.form_less → ⊥ = c.in_default.in_default-own.rest.0.1 in
    let n19 : k ≡ codes.form_lesseq → ⊥ = c.in_default.in_default-own.rest.1 in
    let past : codes.form_closed ≤ k = first_four k (subst (λ (x : ℕ). codes.form_count ≤ x) (sym e) pre.1) n13 n14 n15 n16 in
    let most : k ≤ codes.form_onelang = subst (λ (x : ℕ). x ≤ codes.form_onelang) (sym e) (code_le (ready (goal.at.In_default c).After-form_code)) in
    sym e ∙ last_four k past most n17 n18 n19

pub path_set-requires : goal.path_set-requires
unfolding condition_ok
path_set-requires c = (omega arith, (entry (goal.at.path_set-requires c).After-form_code (count_path (cells (goal.at.path_set-requires c).After-form_code) (ready (goal.at.path_set-requires c).After-form_code).tables [] c.args.e (ready (goal.at.path_set-requires c).After-form_code).entry (sym c.form_code.ensures ∙ c.in-13.is)), part_room (ready (goal.at.path_set-requires c).After-form_code) 13 (sym c.form_code.ensures ∙ c.in-13.is) refl (first_by_lem (cells (goal.at.path_set-requires c).After-form_code) c.args.e 13 (sym c.form_code.ensures ∙ c.in-13.is)) (half (goal.at.path_set-requires c).After-form_code), refl))

pub path_set-requires-in-14 : goal.path_set-requires-in-14
unfolding condition_ok
path_set-requires-in-14 c = (omega arith, (entry (goal.at.path_set-requires-in-14 c).After-form_code (all_path (cells (goal.at.path_set-requires-in-14 c).After-form_code) (ready (goal.at.path_set-requires-in-14 c).After-form_code).tables [] c.args.e (ready (goal.at.path_set-requires-in-14 c).After-form_code).entry (sym c.form_code.ensures ∙ c.in-14.is)), part_room (ready (goal.at.path_set-requires-in-14 c).After-form_code) 14 (sym c.form_code.ensures ∙ c.in-14.is) refl (first_by_lem (cells (goal.at.path_set-requires-in-14 c).After-form_code) c.args.e 14 (sym c.form_code.ensures ∙ c.in-14.is)) (half (goal.at.path_set-requires-in-14 c).After-form_code), refl))

pub ends_set-requires : goal.ends_set-requires
unfolding condition_ok
ends_set-requires c = (omega arith, (end-right (goal.at.ends_set-requires c).After-form_code codes.form_equal (sym c.form_code.ensures ∙ c.in-15.is) (omega arith) (omega arith) (λ z. let y : ⊥ = omega arith in y), refl))

pub ends_set-requires-in-16 : goal.ends_set-requires-in-16
unfolding condition_ok
ends_set-requires-in-16 c = (omega arith, (end-right (goal.at.ends_set-requires-in-16 c).After-form_code codes.form_apart (sym c.form_code.ensures ∙ c.in-16.is) (omega arith) (omega arith) (λ z. let y : ⊥ = omega arith in y), refl))

pub ends_set-requires-in-18 : goal.ends_set-requires-in-18
unfolding condition_ok end_known
ends_set-requires-in-18 c = (omega arith, (lt-ltb c.wide-p.result (path_count (cells (goal.at.ends_set-requires-in-18 c).After-form_code)) (entry (goal.at.ends_set-requires-in-18 c).After-form_code (less_path (cells (goal.at.ends_set-requires-in-18 c).After-form_code) (ready (goal.at.ends_set-requires-in-18 c).After-form_code).tables [] c.args.e (ready (goal.at.ends_set-requires-in-18 c).After-form_code).entry (sym c.form_code.ensures ∙ c.in-18.is))), refl))

pub ends_set-requires-in-19 : goal.ends_set-requires-in-19
unfolding condition_ok end_known
ends_set-requires-in-19 c = (omega arith, (lt-ltb c.wide-p.result (path_count (cells (goal.at.ends_set-requires-in-19 c).After-form_code)) (entry (goal.at.ends_set-requires-in-19 c).After-form_code (lesseq_path (cells (goal.at.ends_set-requires-in-19 c).After-form_code) (ready (goal.at.ends_set-requires-in-19 c).After-form_code).tables [] c.args.e (ready (goal.at.ends_set-requires-in-19 c).After-form_code).entry (sym c.form_code.ensures ∙ c.in-19.is))), refl))

pub lang_set-requires : goal.lang_set-requires
unfolding condition_ok
lang_set-requires c = (omega arith, (entry (goal.at.lang_set-requires c).After-form_code (lang_path (cells (goal.at.lang_set-requires c).After-form_code) (ready (goal.at.lang_set-requires c).After-form_code).tables [] c.args.e (ready (goal.at.lang_set-requires c).After-form_code).entry (lang (goal.at.lang_set-requires c).In_default)), refl))

pub returns-in-13 : goal.returns-in-13
returns-in-13 c = count_tells (ready (goal.at.returns-in-13 c).After-form_code) (first (goal.at.returns-in-13 c).After-form_code) (half (goal.at.returns-in-13 c).After-form_code) (low (goal.at.returns-in-13 c).After-form_code) (high (goal.at.returns-in-13 c).After-form_code) (sym c.form_code.ensures ∙ c.in-13.is) c.path_set.ensures.words_value

pub returns-in-14 : goal.returns-in-14
returns-in-14 c = all_tells (ready (goal.at.returns-in-14 c).After-form_code) (first (goal.at.returns-in-14 c).After-form_code) (half (goal.at.returns-in-14 c).After-form_code) (sym c.form_code.ensures ∙ c.in-14.is) c.path_set-in-14.ensures.words_value

pub returns-in-15 : goal.returns-in-15
returns-in-15 c = equal_tells (ready (goal.at.returns-in-15 c).After-form_code) (first (goal.at.returns-in-15 c).After-form_code) c.form_link-l.ensures c.end_at-end.ensures (sym c.form_code.ensures ∙ c.in-15.is) c.ends_set.ensures.words_value

pub returns-in-16 : goal.returns-in-16
returns-in-16 c = apart_tells (ready (goal.at.returns-in-16 c).After-form_code) (first (goal.at.returns-in-16 c).After-form_code) c.form_link-l.ensures c.end_at-end.ensures (sym c.form_code.ensures ∙ c.in-16.is) c.ends_set-in-16.ensures.words_value

pub returns-in-18 : goal.returns-in-18
returns-in-18 c = less_tells (ready (goal.at.returns-in-18 c).After-form_code) (first (goal.at.returns-in-18 c).After-form_code) c.form_link-l.ensures (sym c.form_code.ensures ∙ c.in-18.is) c.ends_set-in-18.ensures.words_value

pub returns-in-19 : goal.returns-in-19
returns-in-19 c = lesseq_tells (ready (goal.at.returns-in-19 c).After-form_code) (first (goal.at.returns-in-19 c).After-form_code) c.form_link-l.ensures (sym c.form_code.ensures ∙ c.in-19.is) c.ends_set-in-19.ensures.words_value

pub returns-in_default : goal.returns-in_default
returns-in_default c = lang_tells (ready (goal.at.returns-in_default c).After-form_code) (first (goal.at.returns-in_default c).After-form_code) (lang (goal.at.returns-in_default c).In_default) c.lang_set.ensures.words_value
