-- What writing a part of the report answers, and what it leaves on the lent page.
use Rattle.std.specs.Prelude.{ℕ, ◌+◌, List, Bool, true, ◌&&◌, leb, ℤ, length, take}
use Rattle.model.specs.Answers.{Answer, checked, unless_refused}
use Rattle.tables.specs.Layout.{cell_count, rule_count}
use Rattle.tables.specs.Sizes.{long_enough}
use Rattle.tables.specs.WellFormed.{well_formed}
use Rattle.lists.specs.Rows.{list_count, length_count, over}
use Rattle.report.specs.Report.{refusal_report}
use Rattle.report.specs.Pages.{page_count, refusal_count, part_in, report_part_ok}

-- names, cells, values, lists, lengths and a page, as they are lent; each counts up to its limit. All are long enough:
unfoldable pub part_long : (ns cs : List ℕ) (vs : List ℤ) (ls ks page : List ℕ) → Bool
part_long ns cs vs ls ks page = long_enough ns cs vs && (leb list_count (length ls) && (leb length_count (length ks) && leb page_count (length page)))

-- the tables are well formed, and the lists that part k looks at
abbrev pub part_formed : (cs ls ks : List ℕ) → ℕ → Bool
part_formed cs ls ks k = well_formed cs && report_part_ok cs ls ks k

-- the report has part k
abbrev pub has_part : List ℕ → ℕ → Bool
has_part cs k = leb k (rule_count cs + 1)

module _ (ns cs : List ℕ) (vs : List ℤ) (ls ks : List ℕ) (k : ℕ) (page : List ℕ) where
  abbrev pub text : List ℕ
  text = part_in ns (take cell_count cs) ls ks k

  -- 8, then 9, then 10, else how many bytes
  unfoldable pub part_answer : Answer ℕ
  part_answer = checked (part_long ns cs vs ls ks page) (part_formed (take cell_count cs) ls ks k) (has_part (take cell_count cs) k) (length text)

  -- the part, and past it what was there
  unfoldable pub part_after : List ℕ
  part_after = unless_refused part_answer (over text page) page

-- ---- the report of a refusal, with its number and its line: 8, else how many bytes; there is nothing for 9 and 10
module _ (number at : ℕ) (page : List ℕ) where
  unfoldable pub refusal_answer : Answer ℕ
  refusal_answer = checked (leb refusal_count (length page)) true true (length (refusal_report number at))

  unfoldable pub refusal_after : List ℕ
  refusal_after = unless_refused refusal_answer (over (refusal_report number at) page) page
