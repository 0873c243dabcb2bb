-- `path_ok` meets its contract, arm by arm.
use Prim.Native.Nat.{ℕ, zero-le}
use mathlib.Core.Bool.{Bool}
use mathlib.Core.Path.{◌≡◌, refl}
use native.Mathlib.Omega.{arith}
use Rattle.tables.specs.Codes as codes
use Rattle.tables.specs.Layout.{link_count}
use Rattle.tables.specs.Entries.{path_entry_of}
use Rattle.tables.specs.Decode.{path_entry_at}
use Rattle.tables.specs.WellFormed.{path_entry_ok}
use Rattle.tablecheck.proofs.Codes.{next, case_is, case_in, case_past, read_twice, path_by, path_by_lem, path_unknown_lem}
use Rattle.tablecheck.proofs.path_ok.Goals as goal
use Rattle.tablecheck.proofs.path_ok.Goals.{After-path_code, in-1-1, in_default+else-this-lt4+then-this-lt6}

-- the answer for a code, where it has been read
abbrev by : After-path_code → ℕ → Bool
by c = path_by c.args.cells.now c.args.e c.path_first-a.result c.path_second-b.result

-- for the code that was read
read : (c : After-path_code) → by c c.path_code.result ≡ path_entry_ok c.args.cells.now c.args.e (path_entry_at c.args.cells.now c.args.e)
read c = path_by_lem c.args.cells.now c.args.e c.path_first-a.result c.path_second-b.result c.path_code.result c.path_first-a.ensures c.path_second-b.ensures c.path_code.ensures

pub returns-in-0 : goal.returns-in-0
unfolding path_entry_of path_entry_ok
returns-in-0 c =
    case_is (by (goal.at.returns-in-0 c).After-path_code) c.path_code.result (read (goal.at.returns-in-0 c).After-path_code) codes.path_link c.in-0.is (read_twice (link_count c.args.cells.now) c.link_there.ensures c.path_link.ensures c.path_first-a.ensures)

pub returns-in-2 : goal.returns-in-2
unfolding path_entry_of path_entry_ok
returns-in-2 c =
    case_in (by (goal.at.returns-in-2 c).After-path_code) c.path_code.result (read (goal.at.returns-in-2 c).After-path_code) codes.path_seq 2 (next codes.path_inv c.path_code.result (next codes.path_link c.path_code.result zero-le c.in-2.in_default-own.rest.0.1) c.in-2.in_default-own.rest.1) c.in-2.if-this-lt4-own.true (refl, (refl, tt))

pub returns-in-6-to-65535 : goal.returns-in-6-to-65535
returns-in-6-to-65535 c =
    case_past (by (goal.at.returns-in-6-to-65535 c).After-path_code) c.path_code.result (read (goal.at.returns-in-6-to-65535 c).After-path_code) codes.path_unknown c.in-6-to-65535.if-this-lt6-own.false (λ j l. path_unknown_lem c.args.cells.now c.args.e c.path_first-a.result c.path_second-b.result j l)

pub returns-in-1 : goal.returns-in-1
unfolding path_entry_of path_entry_ok
returns-in-1 c =
    let d = (goal.at.returns-in-1 c).After-path_code in
    elim c.in-1-1.branch [
      | in-1-1 w ↦ case_is (by d) c.path_code.result (read d) codes.path_inv (omega arith) refl
      | in_default+else-this-lt4+then-this-lt6 w ↦ case_in (by d) c.path_code.result (read d) codes.path_star 2 (omega arith) (omega arith) (refl, (refl, tt))
    ]
