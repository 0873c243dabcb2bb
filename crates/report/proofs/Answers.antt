-- The answers of writing a part, case by case.
use Prim.Native.Nat.{ℕ, ◌+◌, ◌≤◌, ◌<◌}
use mathlib.Core.List.{List}
use mathlib.Core.Bool.{Bool, true}
use mathlib.Core.Path.{◌≡◌, refl}
use native.Mathlib.Omega.{arith}
use lib.Dec.{leb}
use lib.IntN.{ℤ}
use lib.ListN.{length, take}
use Rattle.text.specs.Decimals.{decimal}
use Rattle.model.specs.declared.Refusal.{Refusal}
use Rattle.model.specs.declared.Refusal.TheVariants.{TooLong, Grammar, Range, Nesting, Undefined, Repeated, Limit, Short, Malformed, Absent, Console}
use Rattle.model.specs.Refusals.{code_of, line_of}
use Rattle.model.specs.Answers.{Answer, value, refusal}
use Rattle.model.proofs.Answers.{Answering, done}
use Rattle.tables.specs.Layout.{cell_count}
use Rattle.tables.proofs.Beside.{Beside, beside}
use Rattle.lists.specs.Rows.{list_count, length_count, over}
use Rattle.report.specs.Report.{refusal_report}
use Rattle.report.specs.Pages.{page_count, refusal_count, Put}
use Rattle.report.specs.Answers.{part_long, part_formed, has_part, text, part_answer, part_after, refusal_answer, refusal_after}
use Rattle.report.proofs.Writing.{put_front, digits-few, two_digits, twenty_digits}

module _ (ns cs : List ℕ) (vs : List ℤ) (ls ks : List ℕ) (k : ℕ) (page : List ℕ) where
  pub part-answers : Answering (part_long ns cs vs ls ks page) (part_formed (take cell_count cs) ls ks k) (has_part (take cell_count cs) k) (length (text ns cs vs ls ks k page)) (over (text ns cs vs ls ks k page) page) page (part_answer ns cs vs ls ks k page) (part_after ns cs vs ls ks k page)
  unfolding part_answer part_after
  part-answers = record { answer = refl; left = refl }

-- the slices are as long as the limits: lists, lengths and page
pub part_room : (ns cs : List ℕ) (vs : List ℤ) (ls ks page : List ℕ) → part_long ns cs vs ls ks page ≡ true → Beside ns cs vs list_count length_count page_count ls ks page
unfolding part_long
part_room ns cs vs ls ks page e = beside ns cs vs list_count length_count page_count ls ks page e

-- ---- an answer on a page: what is written is on it
module _ {page : List ℕ} {x : Answer ℕ} {y : List ℕ} where
  pub refused_on : {k : ℕ} → (refusal k 0 ≡ x) × (page ≡ y) → (refusal k 0 ≡ x) × ((page ≡ y) × (0 ≤ length page))
  refused_on e = (e.0, (e.1, omega arith))

  module _ {long formed there : Bool} {text : List ℕ} (o : Answering long formed there (length text) (over text page) page x y) where
    pub written_on : long ≡ true → formed ≡ true → there ≡ true → {now : List ℕ} {n : ℕ} → Put page now 0 text n → (value n ≡ x) × ((now ≡ y) × (n ≤ length page))
    written_on l w t p = let e = done o l w t (put_front p).0 (put_front p).1 in (e.0, (e.1, p.inside))

-- ---- the report of a refusal: it fits, whatever its line
with-line : (k at : ℕ) → k < 10 → at < 18446744073709551616 → 12 + length (decimal k) + length (decimal at) ≤ refusal_count
with-line k at low h = omega (arith, digits-few 0 k low, twenty_digits at h)

pub refusal_fits : (r : Refusal) → line_of r < 18446744073709551616 → 12 + length (decimal (code_of r)) + length (decimal (line_of r)) ≤ refusal_count
refusal_fits TooLong h = with-line 1 0 (omega arith) h
refusal_fits (Grammar at) h = with-line 2 at (omega arith) h
refusal_fits (Range at) h = with-line 3 at (omega arith) h
refusal_fits (Nesting at) h = with-line 4 at (omega arith) h
refusal_fits (Undefined at) h = with-line 5 at (omega arith) h
refusal_fits (Repeated at) h = with-line 6 at (omega arith) h
refusal_fits (Limit at) h = with-line 7 at (omega arith) h
refusal_fits Short h = with-line 8 0 (omega arith) h
refusal_fits Malformed h = with-line 9 0 (omega arith) h
refusal_fits Absent h = omega (arith, two_digits 10 (omega arith), two_digits 0 (omega arith))
refusal_fits Console h = omega (arith, two_digits 11 (omega arith), two_digits 0 (omega arith))

module _ (number at : ℕ) (page : List ℕ) where
  pub refusal_answers : Answering (leb refusal_count (length page)) true true (length (refusal_report number at)) (over (refusal_report number at) page) page (refusal_answer number at page) (refusal_after number at page)
  unfolding refusal_answer refusal_after
  refusal_answers = record { answer = refl; left = refl }
