-- `sets_hold` meets its contract, by the code of the entry.
use mathlib.Core.Path.{◌≡◌, refl, sym, ap, ◌∙◌}
use Prim.Native.Nat.{ℕ}
use native.Mathlib.Omega.{arith}
use Rattle.model.specs.Paths.{End, ends_of, along, predicate}
use Rattle.nodeset.specs.Words.{has, words_of}
use Rattle.tables.specs.Layout.{node_count, form_first_at, form_second_at}
use Rattle.tables.specs.Decode.{triples_at, end_at}
use Rattle.tables.specs.WellFormed as tables
use Rattle.paths.specs.Ends.{end_in, end_known}
use Rattle.conditions.proofs.Searches.{equal-kept, apart_kept}
use Rattle.conditions.proofs.Pairs.{less-kept, lesseq_kept}
use Rattle.entries.proofs.Codes.{nodes_le, set-end}
use Rattle.entries.proofs.Ends.{end_in_lem, end-ok}
use Rattle.entries.proofs.Forms.{set_equal, set_apart, set-less, set_lesseq}
use Rattle.entries.proofs.Question.sets_hold.Goals as goal
use Rattle.entries.proofs.Question.sets_hold.Goals.{After-form_code}

pub ends-first-requires : goal.ends-first-requires
ends-first-requires c =
    let a = c.args in
    let cs = a.self.tables.cells.now in
    let p = a.self.asked in
    ap (end_known cs) c.end_at.ensures ∙ end-ok cs c.wide.result (ap (tables.end_number_ok cs) (c.wide.ensures ∙ c.form_first.ensures) ∙ set-end cs p.tables a.self.tables.values.now a.self.form p.entry c.requires.0 c.requires.1 c.requires.2)

pub ends-second-requires : goal.ends-second-requires
unfolding end_known
ends-second-requires c = refl

pub first_in_one-requires : goal.first_in_one-requires
first_in_one-requires c = let r = c.args in omega (arith, c.node_count.ensures, nodes_le r.self.tables.cells.now c.args.self.asked.tables)

pub first_shared-requires : goal.first_shared-requires
first_shared-requires c = let r = c.args in omega (arith, c.node_count-in-16.ensures, nodes_le r.self.tables.cells.now c.args.self.asked.tables)

pub first_unordered-requires : goal.first_unordered-requires
first_unordered-requires c = let r = c.args in nodes_le r.self.tables.cells.now c.args.self.asked.tables

pub first_unordered-requires-in_default : goal.first_unordered-requires-in_default
first_unordered-requires-in_default c = let r = c.args in nodes_le r.self.tables.cells.now c.args.self.asked.tables

-- the two sets, by what the entry says
first_is : (c : After-form_code) → let cs = c.args.self.tables.cells.now in c.ends-first.result.words ≡ words_of (ends_of (node_count cs) (triples_at cs) (end_at cs (form_first_at cs c.args.self.form)) c.args.self.node.0) 16
first_is c =
    let cs = c.args.self.tables.cells.now in
    c.ends-first.ensures ∙ ap (λ (x : End). words_of (ends_of (node_count cs) (triples_at cs) x c.args.self.node.0) 16) (ap (end_in cs) c.end_at.ensures ∙ end_in_lem cs c.wide.result ∙ ap (end_at cs) (c.wide.ensures ∙ c.form_first.ensures))

second_is : (c : After-form_code) → let cs = c.args.self.tables.cells.now in c.ends-second.result.words ≡ words_of (ends_of (node_count cs) (triples_at cs) (along (predicate (form_second_at cs c.args.self.form))) c.args.self.node.0) 16
unfolding end_in
second_is c =
    let cs = c.args.self.tables.cells.now in
    c.ends-second.ensures ∙ ap (λ (i : ℕ). words_of (ends_of (node_count cs) (triples_at cs) (along (predicate i)) c.args.self.node.0) 16) c.form_link.ensures

pub returns-in-15 : goal.returns-in-15
returns-in-15 c =
    let a = c.args in
    let cs = a.self.tables.cells.now in
    equal-kept c.node_count.result (has c.ends-first.result.words) (has c.ends-second.result.words) c.first_in_one.result c.first_in_one.ensures c.is_none.ensures ∙ set_equal cs a.self.tables.values.now a.self.form a.self.node.0 a.self.asked (first_is (goal.at.returns-in-15 c).After-form_code) (second_is (goal.at.returns-in-15 c).After-form_code) c.node_count.result c.node_count.ensures (sym c.form_code.ensures ∙ c.in-15.is)

pub returns-in-16 : goal.returns-in-16
returns-in-16 c =
    let a = c.args in
    let cs = a.self.tables.cells.now in
    apart_kept c.node_count-in-16.result (has c.ends-first.result.words) (has c.ends-second.result.words) c.first_shared.result c.first_shared.ensures c.is_none-in-16.ensures ∙ set_apart cs a.self.tables.values.now a.self.form a.self.node.0 a.self.asked (first_is (goal.at.returns-in-16 c).After-form_code) (second_is (goal.at.returns-in-16 c).After-form_code) c.node_count-in-16.result c.node_count-in-16.ensures (sym c.form_code.ensures ∙ c.in-16.is)

pub returns-in-18 : goal.returns-in-18
returns-in-18 c =
    let a = c.args in
    let cs = a.self.tables.cells.now in
    less-kept cs a.self.tables.values.now (has c.ends-first.result.words) (has c.ends-second.result.words) c.first_unordered.result c.first_unordered.ensures c.is_none-in-18.ensures ∙ set-less cs a.self.tables.values.now a.self.form a.self.node.0 a.self.asked (first_is (goal.at.returns-in-18 c).After-form_code) (second_is (goal.at.returns-in-18 c).After-form_code) (sym c.form_code.ensures ∙ c.in-18.is)

pub returns-in_default : goal.returns-in_default
returns-in_default c =
    let a = c.args in
    let cs = a.self.tables.cells.now in
    lesseq_kept cs a.self.tables.values.now (has c.ends-first.result.words) (has c.ends-second.result.words) c.first_unordered-in_default.result c.first_unordered-in_default.ensures c.is_none-in_default.ensures ∙ set_lesseq cs a.self.tables.values.now a.self.form a.self.node.0 a.self.asked (first_is (goal.at.returns-in_default c).After-form_code) (second_is (goal.at.returns-in_default c).After-form_code) (sym c.form_code.ensures ∙ (let k = c.form_code.result in let ne : k ≡ 17 → ⊥ = λ h. c.requires.2 (sym c.form_code.ensures ∙ h) in let q : k ≡ 19 = omega (arith, c.form_code.ensures, c.requires.0, c.requires.1, c.in_default.in_default-own.rest) in q))
