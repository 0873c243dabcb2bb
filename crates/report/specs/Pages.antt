-- The parts of the report by tables and lists, and what writing a text leaves on a page.
use Rattle.std.specs.Prelude.{ℕ, zero, suc, ◌+◌, ◌*◌, ◌≤◌, ◌≡◌, List, map, Bool, true, cond, ◌&&◌, eqb, ltb, leb, length, get_or}
use Rattle.std.proofs.lemmas.List.Edits.{sets}
use Rattle.base.specs.Bounded.{every, ◌⇒◌}
use Rattle.base.specs.Lists.{allb}
use Rattle.model.specs.Limits.{max_nodes, max_name}
use Rattle.tables.specs.Layout.{node_count, fact_count, rule_count}
use Rattle.tables.specs.Names.{node_name_at}
use Rattle.lists.specs.Rows.{row_in}
use Rattle.report.specs.Report.{head_line, break_lines, found_line}
use Rattle.report.specs.declared.Page.{Page}

-- the longest line of a node: its word, two digits of a rule, a name, two spaces, two brackets and LF
abbrev pub break_bytes : ℕ
break_bytes = max_name + 13

-- a page holds as many as there may be nodes
abbrev pub page_count : ℕ
page_count = max_nodes * break_bytes

-- the report of a refusal: one digit of its number and twenty of its line, since 10 has no line
abbrev pub refusal_count : ℕ
refusal_count = 33

-- ---- what the tables say; ns: the names, cs: the cells, ls: the rows of the lists, ks: their lengths
-- how many nodes the first n rules list
unfoldable pub found_in : List ℕ → ℕ → ℕ
found_in ks zero = 0
found_in ks (suc n) = found_in ks n + get_or ks n 0

-- part k of the report
unfoldable pub part_in : (ns cs ls ks : List ℕ) → ℕ → List ℕ
part_in ns cs ls ks zero = head_line (node_count cs) (fact_count cs) (rule_count cs)
part_in ns cs ls ks (suc k) = cond (ltb k (rule_count cs)) (break_lines k (map (node_name_at ns) (row_in ls ks k))) (found_line (found_in ks (rule_count cs)))

-- a row is in its limit
abbrev pub length_ok : List ℕ → ℕ → Bool
length_ok ks r = leb (get_or ks r 0) max_nodes

-- a row is in its limit and lists nodes of the tables
unfoldable pub row_ok : (cs ls ks : List ℕ) → ℕ → Bool
row_ok cs ls ks r = length_ok ks r && allb (λ v. ltb v (node_count cs)) (row_in ls ks r)

-- of the lists, a rule's part looks at its own row, the last part at the length of each
unfoldable pub report_part_ok : (cs ls ks : List ℕ) → ℕ → Bool
report_part_ok cs ls ks zero = true
report_part_ok cs ls ks (suc k) = (ltb k (rule_count cs) ⇒ row_ok cs ls ks k) && (eqb k (rule_count cs) ⇒ every (length_ok ks) (rule_count cs))

-- ---- writing: the text stands on the page from `at` to `end`, and nothing else changed
pub record Put (before after : List ℕ) (at : ℕ) (text : List ℕ) (end : ℕ) : Type 0 where
  pub written : after ≡ sets before at text
  pub ends : end ≡ at + length text
  pub inside : end ≤ length before

-- so many bytes fit after what is written on a page
abbrev pub Room : Page → ℕ → Type 0
Room p n = p.at + n ≤ length p.bytes.now

-- a text is written after it
abbrev pub Wrote : (before after : Page) → List ℕ → Type 0
Wrote p q text = Put p.bytes.now q.bytes.now p.at text q.at
