use Prim.Native.Nat.{ℕ, suc, zero-le, ◌≤◌, ◌<◌}
use mathlib.Core.Logic.{⊎_elim, inl, inr}
use mathlib.Core.Path.{ap, ◌∙◌}
use lib.Dec.{ltb}
use native.Mathlib.Omega.{arith}
use Rattle.tables.specs.Codes as codes
use Rattle.tables.specs.Layout.{rule_shape_at, node_count, link_count, shape_count}
use Rattle.tablecheck.proofs.Codes.{next, case_is, case_in, case_past, rule_by, rule_by_lem, rule_unknown, rule_shapeless}
use Rattle.tablecheck.proofs.rule_ok.Goals as goal

pub returns-then-shape_count-rule_shape : goal.returns-then-shape_count-rule_shape
returns-then-shape_count-rule_shape c = rule_shapeless c.args.cells.now c.args.k (let h : shape_count c.args.cells.now ≤ rule_shape_at c.args.cells.now c.args.k = omega (arith, c.rule_shape.ensures, c.shape_count.ensures, c.if-shape_count-rule_shape.true) in h)

pub returns-in-0 : goal.returns-in-0
returns-in-0 c = ⊎_elim (λ e. case_is (rule_by c.args.cells.now c.args.k) c.rule_target.result (rule_by_lem c.args.cells.now c.args.k c.rule_target.result (let h : rule_shape_at c.args.cells.now c.args.k < shape_count c.args.cells.now = omega (arith, c.rule_shape.ensures, c.shape_count.ensures, c.if-shape_count-rule_shape.false) in h) c.rule_target.ensures) codes.target_node e (c.node_there.ensures ∙ ap (λ (x : ℕ). ltb x (node_count c.args.cells.now)) c.rule_node.ensures)) (λ e. case_is (rule_by c.args.cells.now c.args.k) c.rule_target.result (rule_by_lem c.args.cells.now c.args.k c.rule_target.result (let h : rule_shape_at c.args.cells.now c.args.k < shape_count c.args.cells.now = omega (arith, c.rule_shape.ensures, c.shape_count.ensures, c.if-shape_count-rule_shape.false) in h) c.rule_target.ensures) codes.target_class e (c.node_there.ensures ∙ ap (λ (x : ℕ). ltb x (node_count c.args.cells.now)) c.rule_node.ensures)) c.in-0.is

pub returns-in-1 : goal.returns-in-1
returns-in-1 c = case_in (rule_by c.args.cells.now c.args.k) c.rule_target.result (rule_by_lem c.args.cells.now c.args.k c.rule_target.result (let h : rule_shape_at c.args.cells.now c.args.k < shape_count c.args.cells.now = omega (arith, c.rule_shape.ensures, c.shape_count.ensures, c.if-shape_count-rule_shape.false) in h) c.rule_target.ensures) codes.target_subjects 2 (next codes.target_node c.rule_target.result zero-le (λ e. c.in-1.in_default-own.rest.1 (inl e))) c.in-1.if-this-lt3-own.true (c.link_there.ensures ∙ ap (λ (x : ℕ). ltb x (link_count c.args.cells.now)) c.rule_link.ensures, (c.link_there.ensures ∙ ap (λ (x : ℕ). ltb x (link_count c.args.cells.now)) c.rule_link.ensures, tt))

pub returns-in-4-to-65535 : goal.returns-in-4-to-65535
returns-in-4-to-65535 c = case_past (rule_by c.args.cells.now c.args.k) c.rule_target.result (rule_by_lem c.args.cells.now c.args.k c.rule_target.result (let h : rule_shape_at c.args.cells.now c.args.k < shape_count c.args.cells.now = omega (arith, c.rule_shape.ensures, c.shape_count.ensures, c.if-shape_count-rule_shape.false) in h) c.rule_target.ensures) (suc codes.target_class) (next codes.target_class c.rule_target.result c.in-4-to-65535.if-this-lt3-own.false (λ e. c.in-4-to-65535.in_default-own.rest.1 (inr e))) (λ j l. rule_unknown c.args.cells.now c.args.k j l)
