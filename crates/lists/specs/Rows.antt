-- The list of a rule, read off the work space; and the rows of all rules.
use Rattle.std.specs.Prelude.{ℕ, zero, suc, ◌*◌, List, ◌++◌, length, take, drop, set, get_or}
use Rattle.base.specs.Bounded.{members}
use Rattle.nodeset.specs.Words.{has}
use Rattle.model.specs.Limits.{max_nodes, max_rules}
use Rattle.tables.specs.Layout.{node_count}
use Rattle.plan.specs.Layout.{rule_step_at}

-- cs: the cells of the tables, ps: those of the plan, ws: the work space
-- the nodes in the set of rule r's step, lowest first; no node past the count, whatever the work space holds
unfoldable pub list_in : (cs ps ws : List ℕ) → ℕ → List ℕ
list_in cs ps ws r = members (has (drop (16 * rule_step_at ps r) ws)) (node_count cs)

-- xs, and past them what was there
unfoldable pub over : List ℕ → List ℕ → List ℕ
over xs old = xs ++ drop (length xs) old

-- ---- all lists: a row with a place for each node for each of the rules, and a length for each
abbrev pub list_count : ℕ
list_count = max_nodes * max_rules

abbrev pub length_count : ℕ
length_count = max_rules

-- xs at the front of row r
unfoldable pub with_row : ℕ → List ℕ → List ℕ → List ℕ
with_row r xs ls = take (max_nodes * r) ls ++ over xs (drop (max_nodes * r) ls)

-- the lists of the rules below n, each at the front of its row; every other place is as it was
unfoldable pub with_rows : (ℕ → List ℕ) → ℕ → List ℕ → List ℕ
with_rows list zero ls = ls
with_rows list (suc r) ls = with_row r (list r) (with_rows list r ls)

unfoldable pub with_lengths : (ℕ → List ℕ) → ℕ → List ℕ → List ℕ
with_lengths list zero ls = ls
with_lengths list (suc r) ls = set (with_lengths list r ls) r (length (list r))

-- the list of rule r: its row, up to its length
unfoldable pub row_in : (lists lengths : List ℕ) → ℕ → List ℕ
row_in lists lengths r = take (get_or lengths r 0) (drop (max_nodes * r) lists)
