use Prim.Native.Nat.{zero-le}
use mathlib.Core.Path.{refl}
use Rattle.tables.specs.Codes as codes
use Rattle.tablecheck.proofs.Codes.{next, case_is, case_in, case_past, node_by, node_by_lem, node-unknown}
use Rattle.tablecheck.proofs.node_ok.Goals as goal

pub returns-in-4 : goal.returns-in-4
returns-in-4 c = case_is (node_by c.args.cells.now c.args.v.0) c.node_kind.result (node_by_lem c.args.cells.now c.args.v.0 c.node_kind.result c.node_kind.ensures) codes.node_words c.in-4.is (cc)

pub returns-in-0 : goal.returns-in-0
returns-in-0 c = case_in (node_by c.args.cells.now c.args.v.0) c.node_kind.result (node_by_lem c.args.cells.now c.args.v.0 c.node_kind.result c.node_kind.ensures) codes.node_thing 2 zero-le c.in-0.if-this-lt2-own.true (refl, (refl, tt))

pub returns-in-2 : goal.returns-in-2
returns-in-2 c = case_in (node_by c.args.cells.now c.args.v.0) c.node_kind.result (node_by_lem c.args.cells.now c.args.v.0 c.node_kind.result c.node_kind.ensures) codes.node_number 2 c.in-2.if-this-lt2-own.false c.in-2.if-this-lt4-own.true (cc, (cc, tt))

pub returns-in-5-to-65535 : goal.returns-in-5-to-65535
returns-in-5-to-65535 c = case_past (node_by c.args.cells.now c.args.v.0) c.node_kind.result (node_by_lem c.args.cells.now c.args.v.0 c.node_kind.result c.node_kind.ensures) codes.node_unknown (next codes.node_words c.node_kind.result c.in-5-to-65535.if-this-lt4-own.false c.in-5-to-65535.in_default-own.rest.1) (λ j l. node-unknown c.args.cells.now c.args.v.0 j l)
