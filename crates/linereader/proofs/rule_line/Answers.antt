use Prim.Native.Nat.{ℕ, ◌<◌}
use mathlib.Core.Path.{refl, ap, ◌∙◌}
use mathlib.Core.List.{[], ◌∷◌}
use mathlib.Core.Bool.{Bool}
use native.Mathlib.Omega.{arith}
use Rattle.std.specs.Prelude.{Ok}
use lib.Dec.{ltb}
use borrow.Author.Tests.{ltb-true}
use Rattle.model.specs.Rules.{Rule, target_node}
use Rattle.model.specs.Limits.{max_rules}
use Rattle.model.specs.Books.{rule, shapes}
use Rattle.model.specs.declared.Counts.{Counts}
use Rattle.grammar.specs.Syntax.{used, target, rule_l, line_family}
use Rattle.grammar.specs.Reading.{max_within, arg_at, after, readers_at, line_room, begun_above}
use Rattle.stores.specs.Lines.{line_names, line_values}
use Rattle.itemreader.specs.Answers.{same}
use Rattle.itemreader.proofs.Items.{number_got}
use Rattle.linereader.specs.Storing.{ended_with, line_end, line_body}
use Rattle.linereader.proofs.Bodies.{item-stop, done_stop, done_yes, ended-no, ended-yes, ended-room, body_is, stop₁, stop₂, all₂, rule_cells, rule_more, rule_counted, rule_room}
use Rattle.linereader.proofs.Targets.{target_read, target-no}
use Rattle.linereader.proofs.rule_line.Goals as goal

pub returns-in_err-s : goal.returns-in_err-s
returns-in_err-s c =
    let s = c.args in
    let S = s.book.now in
    λ a vs h.
    let b = begun_above a in
    let (m, x, e) = item-stop S a (used shapes) same b s.at c.in_err-s.field-0.0 (c.in_err-s.ensures.reads a h) in
    done_stop a s.pools.counts (line_body S a rule_l s.at) _ c.in_err-s.field-0.0 m s.pools.names.now s.cells.now vs
    (body_is S a rule_l s.at ∙ stop₁ S a (line_room S a rule_l) (used shapes) (target ∷ []) (line_family.build rule_l) b s.at m x) e c.from_residual.ensures.1

pub returns-in_err-code : goal.returns-in_err-code
returns-in_err-code c =
    let s = c.args in
    let S = s.book.now in
    λ a vs h.
    let R = readers_at S a max_within in
    let b = begun_above a in
    let b₁ = after (used shapes) c.in_ok-s.s b in
    let g = number_got (arg_at S a R (used shapes) b s.at) c.in_ok-s.s c.in_ok-s.i (c.in_ok-s.ensures.reads a h R b) in
    let (m, x, e) = target-no (arg_at S a R target b₁ c.in_ok-s.i) c.in_err-code.field-0.0 (c.in_err-code.ensures.value a b₁ h) in
    done_stop a s.pools.counts (line_body S a rule_l s.at) _ c.in_err-code.field-0.0 m s.pools.names.now s.cells.now vs
    (body_is S a rule_l s.at ∙ stop₂ S a (line_room S a rule_l) (used shapes) target [] (line_family.build rule_l) b s.at c.in_ok-s.s c.in_ok-s.i g m x) e c.from_residual-in_err-code.ensures.1

pub returns-in_err-done : goal.returns-in_err-done
returns-in_err-done c =
    let s = c.args in
    let S = s.book.now in
    λ a vs h.
    let R = readers_at S a max_within in
    let b = begun_above a in
    let b₁ = after (used shapes) c.in_ok-s.s b in
    let g = number_got (arg_at S a R (used shapes) b s.at) c.in_ok-s.s c.in_ok-s.i (c.in_ok-s.ensures.reads a h R b) in
    let t = target_read (arg_at S a R target b₁ c.in_ok-s.i) c.in_ok-code.code c.in_ok-code.x c.in_ok-code.last (c.in_ok-code.ensures.value a b₁ h) in
    let l = rule (record { shape = c.in_ok-s.s; target = t.0 }) in
    let read = body_is S a rule_l s.at ∙ all₂ S a (line_room S a rule_l) (used shapes) target (line_family.build rule_l) b s.at c.in_ok-s.s c.in_ok-s.i g t.0 c.in_ok-code.last t.1 in
    let q = c.in_err-done.ensures a l ∙ ap (λ (y : Bool). ended_with (rule_more s.pools.counts) (line_end S a y l c.in_ok-code.last)) (rule_room S a s.pools.counts.rules h.rules_counted) in
    let (m, x, e) = ended-no (rule_more s.pools.counts) (line_end S a (line_room S a rule_l) l c.in_ok-code.last) c.in_err-done.field-0.0 q in
    done_stop a s.pools.counts (line_body S a rule_l s.at) _ c.in_err-done.field-0.0 m s.pools.names.now s.cells.now vs (read ∙ x) e c.from_residual-in_err-done.ensures.1

pub put_row-requires : goal.put_row-requires
put_row-requires c =
    let s = c.args in
    let S = s.book.now in
    let l = rule (record { shape = 0; target = target_node 0 }) in
    let d : Counts × ℕ = c.in_ok-done.done in
    let y = ended-yes S [] (ltb s.pools.counts.rules max_rules) l c.in_ok-code.last (rule_more s.pools.counts) d (c.in_ok-done.ensures [] l) in
    let n : s.pools.counts.rules < max_rules = ltb-true s.pools.counts.rules max_rules (ended-room S [] (ltb s.pools.counts.rules max_rules) l c.in_ok-code.last d.1 y.0) in
    let m = c.requires.1 in
    (omega arith, omega arith, omega arith)

pub returns : goal.returns
unfolding line_names line_values
returns c =
    let s = c.args in
    let S = s.book.now in
    λ a vs h.
    let R = readers_at S a max_within in
    let b = begun_above a in
    let b₁ = after (used shapes) c.in_ok-s.s b in
    let g = number_got (arg_at S a R (used shapes) b s.at) c.in_ok-s.s c.in_ok-s.i (c.in_ok-s.ensures.reads a h R b) in
    let t = target_read (arg_at S a R target b₁ c.in_ok-s.i) c.in_ok-code.code c.in_ok-code.x c.in_ok-code.last (c.in_ok-code.ensures.value a b₁ h) in
    let r : Rule = record { shape = c.in_ok-s.s; target = t.0 } in
    let l = rule r in
    let read = body_is S a rule_l s.at ∙ all₂ S a (line_room S a rule_l) (used shapes) target (line_family.build rule_l) b s.at c.in_ok-s.s c.in_ok-s.i g t.0 c.in_ok-code.last t.1 in
    let d : Counts × ℕ = c.in_ok-done.done in
    let q = c.in_ok-done.ensures a l ∙ ap (λ (y : Bool). ended_with (rule_more s.pools.counts) (line_end S a y l c.in_ok-code.last)) (rule_room S a s.pools.counts.rules h.rules_counted) in
    let y = ended-yes S a (line_room S a rule_l) l c.in_ok-code.last (rule_more s.pools.counts) d q in
    done_yes a s.pools.counts (line_body S a rule_l s.at) l d.1 _ s.pools.names.now s.pools.names.now s.cells.now _ vs vs
    (read ∙ y.0)
    (ap Ok (y.1 ∙ ap (λ (n : Counts). (n, d.1)) (rule_counted r s.pools.counts)))
    refl
    (c.put_row.ensures ∙ rule_cells a s.pools.counts.rules c.in_ok-code.code c.in_ok-code.x r s.cells.now h.rules_counted t.2 t.3)
    refl
