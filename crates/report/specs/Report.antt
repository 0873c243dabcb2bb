-- The report of a whole run: document 01's lines, from what the book says.
use Rattle.std.specs.Prelude.{ℕ, zero, suc, ◌+◌, List, [], ◌∷◌, ◌++◌, map, cond, ltb, length, get_or}
use Rattle.base.specs.Bytes.{bytes}
use Rattle.text.specs.Decimals.{decimal}
use Rattle.model.specs.Rules.{Rule, no_rule}
use Rattle.model.specs.Books.{Name, Book, nodes, names, collect, new_triples, rules, list_of}
use Rattle.grammar.specs.Writing.{bracket, name_of}

-- ---- the lines: ( word item item .. ) and LF
unfoldable pub line : List ℕ → List (List ℕ) → List ℕ
line w items = bracket w items ++ (10 ∷ [])

-- how many nodes, fact lines and rules
abbrev pub head_line : ℕ → ℕ → ℕ → List ℕ
head_line n f r = line (bytes "book") (decimal n ∷ decimal f ∷ decimal r ∷ [])

-- a rule's number, and the name of a node that it lists
abbrev pub break_line : ℕ → Name → List ℕ
break_line r w = line (bytes "breaks") (decimal r ∷ w ∷ [])

-- how many nodes are listed
abbrev pub found_line : ℕ → List ℕ
found_line n = line (bytes "found") (decimal n ∷ [])

-- the lines of rule r, one for each name
unfoldable pub break_lines : ℕ → List Name → List ℕ
break_lines r [] = []
break_lines r (w ∷ ws) = break_line r w ++ break_lines r ws

-- ---- the report of a refusal: its number and its line
abbrev pub refusal_report : ℕ → ℕ → List ℕ
refusal_report k at = line (bytes "refused") (decimal k ∷ decimal at ∷ [])

-- ---- the report of a book
module _ (b : Book) where
  -- the nodes listed under rule r, whose number is k, by name
  unfoldable pub rule_lines : ℕ → Rule → List ℕ
  rule_lines k r = break_lines k (map (name_of b nodes) (list_of b r))

  -- under all rules, numbered from k on
  unfoldable pub lines_from : ℕ → List Rule → List ℕ
  lines_from k [] = []
  lines_from k (r ∷ rs) = rule_lines k r ++ lines_from (suc k) rs

  -- how many nodes these rules list
  unfoldable pub found : List Rule → ℕ
  found [] = 0
  found (r ∷ rs) = length (list_of b r) + found rs

  unfoldable pub first_line : List ℕ
  first_line = head_line (length (names nodes b)) (length (collect new_triples b)) (length (rules b))

  unfoldable pub last_line : List ℕ
  last_line = found_line (found (rules b))

  unfoldable pub report : List ℕ
  report = first_line ++ (lines_from 0 (rules b) ++ last_line)

-- the report in parts: 0 the first line, then one for each rule, then the last line
unfoldable pub part : Book → ℕ → List ℕ
part b zero = first_line b
part b (suc k) = cond (ltb k (length (rules b))) (rule_lines b k (get_or (rules b) k no_rule)) (last_line b)

-- the first n parts, one after the other
unfoldable pub parts_joined : (ℕ → List ℕ) → ℕ → List ℕ
parts_joined f zero = []
parts_joined f (suc n) = parts_joined f n ++ f n
