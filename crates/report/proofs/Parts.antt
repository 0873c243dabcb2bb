-- The parts of the report by tables and lists, as they are tested and written.
use Prim.Native.Nat.{ℕ, zero, suc, ◌+◌, ◌-◌, ◌*◌, ◌<◌, ◌≤◌}
use mathlib.Core.List.{List, [], ◌∷◌, ◌++◌, map, append-nil, append_assoc}
use mathlib.Core.Bool.{Bool, true, false, ◌&&◌, and-true, and_comm}
use mathlib.Core.Path.{◌≡◌, refl, sym, ap, ◌∙◌}
use native.Mathlib.Numerals.{add-one}
use native.Mathlib.Omega.{arith}
use lib.Dec.{ltb, leb, leb-suc-suc}
use lib.ListN.{length, get_or, take, drop, length-take}
use lib.Seq.{take-suc}
use Rattle.std.specs.List.{sum, list_all}
use Rattle.std.proofs.lemmas.List.Sums.{sum_by_more}
use borrow.Author.Tests.{lt-ltb, le-ltb, le-leb, lt-leb, eq-eqb, ne_eqb, leb-true, ltb-true}
use Rattle.base.specs.Bounded.{every}
use Rattle.base.specs.Lists.{allb}
use Rattle.base.proofs.Bools.{and_left, and_right}
use Rattle.base.proofs.Lists.{allb_append, allb_weaker}
use Rattle.model.specs.Books.{Name}
use Rattle.model.specs.Limits.{max_nodes}
use Rattle.tables.specs.Layout.{node_count, fact_count, rule_count}
use Rattle.lists.specs.Rows.{row_in}
use Rattle.report.specs.Report.{head_line, break_line, break_lines, found_line}
use Rattle.report.specs.Pages.{found_in, part_in, length_ok, row_ok, report_part_ok}
use Rattle.tables.specs.Names.{node_name_at}

-- ---- what the code looks at: a list from its front on
-- how many nodes are listed is a sum
pub found_sum : (ks : List ℕ) (n : ℕ) → n ≤ length ks → sum (take n ks) ≡ found_in ks n
unfolding found_in
found_sum ks zero h = refl
found_sum ks (suc n) h = ap (λ (k : ℕ). sum (take k ks)) (sym (add-one n)) ∙ (sum_by_more (λ x. x) ks n 0 (omega arith) ∙ ap (λ (k : ℕ). k + get_or ks n 0) (found_sum ks n (omega arith)))

-- `allb` is the library's test of every element
pub all_is : (p : ℕ → Bool) (xs : List ℕ) → list_all p xs ≡ allb p xs
unfolding allb
all_is p [] = refl
all_is p (x ∷ xs) = ap (λ (b : Bool). p x && b) (all_is p xs)

-- the lengths are in their limit: each number of a list is
pub lengths_below : (ks : List ℕ) (n : ℕ) → n ≤ length ks → allb (λ k. ltb k (max_nodes + 1)) (take n ks) ≡ every (length_ok ks) n
unfolding allb every
lengths_below ks zero h = refl
lengths_below ks (suc n) h =
    let p : ℕ → Bool = λ k. ltb k (max_nodes + 1) in
    ap (allb p) (take-suc ks n 0 h)
    ∙ (allb_append p (take n ks) (get_or ks n 0 ∷ [])
    ∙ (ap (λ (b : Bool). b && (ltb (get_or ks n 0) (max_nodes + 1) && true)) (lengths_below ks n (omega arith))
    ∙ (ap (λ (b : Bool). every (length_ok ks) n && b) (and-true (ltb (get_or ks n 0) (max_nodes + 1)) ∙ leb-suc-suc (get_or ks n 0) max_nodes)
    ∙ and_comm (every (length_ok ks) n) (length_ok ks n))))

-- ---- the lines of a rule: one node more
pub lines_none : (r : ℕ) → [] ≡ break_lines r []
unfolding break_lines
lines_none r = refl

lines_snoc : (r : ℕ) (f : ℕ → Name) (vs : List ℕ) (v : ℕ) → break_lines r (map f vs) ++ break_line r (f v) ≡ break_lines r (map f (vs ++ (v ∷ [])))
unfolding break_lines
lines_snoc r f [] v = sym (append-nil (break_line r (f v)))
lines_snoc r f (x ∷ vs) v = append_assoc (break_line r (f x)) (break_lines r (map f vs)) (break_line r (f v)) ∙ ap (λ (t : List ℕ). break_line r (f x) ++ t) (lines_snoc r f vs v)

pub lines_more : (r : ℕ) (f : ℕ → Name) (vs : List ℕ) (i : ℕ) → i < length vs → break_lines r (map f (take i vs)) ++ break_line r (f (get_or vs i 0)) ≡ break_lines r (map f (take (i + 1) vs))
lines_more r f vs i h = lines_snoc r f (take i vs) (get_or vs i 0) ∙ ap (λ (t : List ℕ). break_lines r (map f t)) (sym (ap (λ (k : ℕ). take k vs) (add-one i) ∙ take-suc vs i 0 h))

-- ---- a part: the first line, a rule's lines, the last line
module _ (ns cs ls ks : List ℕ) where
  pub part-head : (k : ℕ) → k ≡ 0 → head_line (node_count cs) (fact_count cs) (rule_count cs) ≡ part_in ns cs ls ks k
  unfolding part_in
  part-head k e = ap (part_in ns cs ls ks) (sym e)

  pub part_rule : (k r : ℕ) → k ≡ suc r → r < rule_count cs → break_lines r (map (node_name_at ns) (row_in ls ks r)) ≡ part_in ns cs ls ks k
  unfolding part_in
  part_rule k r e h = sym (ap (part_in ns cs ls ks) e ∙ rw (lt-ltb r (rule_count cs) h))

  pub part-last : (k : ℕ) → rule_count cs < k → found_line (found_in ks (rule_count cs)) ≡ part_in ns cs ls ks k
  unfolding part_in
  part-last zero h = absurd (omega arith)
  part-last (suc r) h = rw (le-ltb r (rule_count cs) (omega arith))

-- ---- its tests
module _ (cs ls ks : List ℕ) where
  pub ok-head : (k : ℕ) → k ≡ 0 → report_part_ok cs ls ks k ≡ true
  unfolding report_part_ok
  ok-head k e = ap (report_part_ok cs ls ks) e

  pub ok_rule : (k r : ℕ) → k ≡ suc r → r < rule_count cs → report_part_ok cs ls ks k ≡ row_ok cs ls ks r
  unfolding report_part_ok
  ok_rule k r e h = ap (report_part_ok cs ls ks) e ∙ rw (lt-ltb r (rule_count cs) h, ne_eqb r (rule_count cs) (λ q. omega arith)) (and-true (row_ok cs ls ks r))

  pub ok-last : (k : ℕ) → k ≡ suc (rule_count cs) → report_part_ok cs ls ks k ≡ every (length_ok ks) (rule_count cs)
  unfolding report_part_ok
  ok-last k e = ap (report_part_ok cs ls ks) e ∙ rw (le-ltb (rule_count cs) (rule_count cs) (omega arith), eq-eqb (rule_count cs) (rule_count cs) refl)

  pub ok-past : (k : ℕ) → rule_count cs + 1 < k → report_part_ok cs ls ks k ≡ true
  unfolding report_part_ok
  ok-past zero h = absurd (omega arith)
  ok-past (suc r) h = rw (le-ltb r (rule_count cs) (omega arith), ne_eqb r (rule_count cs) (λ q. omega arith))

  pub row-long : (r : ℕ) → max_nodes < get_or ks r 0 → row_ok cs ls ks r ≡ false
  unfolding row_ok
  row-long r h = rw (lt-leb (get_or ks r 0) max_nodes h)

  pub row_test : (r : ℕ) → get_or ks r 0 ≤ max_nodes → allb (λ v. ltb v (node_count cs)) (row_in ls ks r) ≡ row_ok cs ls ks r
  unfolding row_ok
  row_test r h = rw (le-leb (get_or ks r 0) max_nodes h)

  module _ (r : ℕ) (ok : row_ok cs ls ks r ≡ true) where
    pub row-short : get_or ks r 0 ≤ max_nodes
    unfolding row_ok
    row-short = leb-true (get_or ks r 0) max_nodes (and_left _ _ ok)

    pub row-nodes : allb (λ v. ltb v (node_count cs)) (row_in ls ks r) ≡ true
    unfolding row_ok
    row-nodes = and_right (leb (get_or ks r 0) max_nodes) _ ok

    -- of any tables that are well formed
    pub row_below : node_count cs ≤ max_nodes → allb (λ v. ltb v max_nodes) (row_in ls ks r) ≡ true
    row_below few = allb_weaker (λ v. ltb v (node_count cs)) (λ v. ltb v max_nodes) (row_in ls ks r) (λ v e. let h = ltb-true v (node_count cs) e in lt-ltb v max_nodes (omega arith)) row-nodes

-- a row is as long as it is said to be, at most
pub row_few : (ls ks : List ℕ) (r : ℕ) → length (row_in ls ks r) ≤ get_or ks r 0
unfolding row_in
row_few ls ks r = omega (arith, length-take (get_or ks r 0) (drop (max_nodes * r) ls))

-- the row as it is lent
pub row-lent : (ls ks : List ℕ) (r n : ℕ) → n ≡ get_or ks r 0 → take (max_nodes * r + n - max_nodes * r) (drop (max_nodes * r) ls) ≡ row_in ls ks r
unfolding row_in
row-lent ls ks r n e = let m : max_nodes * r + n - max_nodes * r ≡ get_or ks r 0 = omega (arith, e) in ap (λ (k : ℕ). take k (drop (max_nodes * r) ls)) m
