-- What is lent to the whole run beside the book: seven slices, as they are at its beginning or at its end.
use Rattle.std.specs.Prelude.{ℕ, List, Bool, ◌&&◌, leb, ℤ, length, take}
use Rattle.std.proofs.Math.Option.{Option}
use Rattle.tables.specs.Layout.{name_count, cell_count, value_count}
use Rattle.tables.specs.Names.{sub_class_at}
use Rattle.tables.specs.Sizes.{long_enough}
use Rattle.plan.specs.Layout.{plan_count}
use Rattle.runner.specs.Run.{work_count}
use Rattle.lists.specs.Rows.{list_count, length_count}

pub record Lent : Type 0 where
  pub names : List ℕ
  pub cells : List ℕ
  pub values : List ℤ
  pub plan : List ℕ
  pub work : List ℕ
  pub lists : List ℕ
  pub lengths : List ℕ

abbrev pub lent : (names cells : List ℕ) (values : List ℤ) (plan work lists lengths : List ℕ) → Lent
lent ns cs vs ps ws ls ks = record { names = ns; cells = cs; values = vs; plan = ps; work = ws; lists = ls; lengths = ks }

-- no ground for 8: every slice is as long as the limits need
unfoldable pub validate_long : Lent → Bool
validate_long l =
    long_enough l.names l.cells l.values
    && (leb plan_count (length l.plan) && (leb work_count (length l.work) && (leb list_count (length l.lists) && leb length_count (length l.lengths))))

-- tables and plan, each up to its limit: what lies past it plays no part
abbrev pub names_in : Lent → List ℕ
names_in l = take name_count l.names

abbrev pub cells_in : Lent → List ℕ
cells_in l = take cell_count l.cells

abbrev pub values_in : Lent → List ℤ
values_in l = take value_count l.values

abbrev pub plan_in : Lent → List ℕ
plan_in l = take plan_count l.plan

-- the link `under` of these tables, where they have it
abbrev pub sub_class_in : Lent → Option ℕ
sub_class_in l = sub_class_at (names_in l) (cells_in l)
