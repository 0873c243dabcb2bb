-- The report and its parts; document 01's two reports, by computation.
use Prim.Native.Nat.{ℕ, suc, ◌+◌, ◌<◌, ◌≤◌}
use mathlib.Core.List.{List, [], ◌∷◌, ◌++◌, append_assoc, append-nil}
use mathlib.Core.Path.{◌≡◌, refl, sym, ap, ap₂, ◌∙◌}
use native.Mathlib.Omega.{arith}
use lib.ListN.{length, get_or, length-append}
use lib.Seq.{get_or_at, append_snoc}
use borrow.Author.Tests.{lt-ltb, le-ltb}
use Rattle.base.specs.Bounded.{some, every, one, size, members}
use Rattle.base.specs.Lists.{anyb, allb, member}
use Rattle.text.specs.Decimals.{decimal, digits_of}
use Rattle.model.specs.Graph.{value_of, datatype_of, language_of, holds, has_triple}
use Rattle.model.specs.Paths.{ends, ends_of}
use Rattle.model.specs.Shapes.{is_kind, satisfies, within, subset, none_shared, all_pairs, less, less_eq, same_lang, conforms, expand}
use Rattle.model.specs.Rules.{Rule, selects, violates, violations, no_rule}
use Rattle.model.specs.Books.{Book, new_terms, new_triples, new_shapes, new_names, new_rules, joins, collect, graph_of, schema_from, schema, list_of, built_in, names, rules}
use Rattle.model.specs.Cases.{book_b}
use Rattle.grammar.specs.Writing.{spaced, bracket, name_of}
use Rattle.grammar.specs.Cases.{text_of}
use Rattle.report.specs.Report.{line, break_lines, rule_lines, lines_from, found, first_line, last_line, report, refusal_report, part, parts_joined}

-- ---- document 01's reports
pub report_of_B : report book_b ≡ text_of ("(book 4 3 1)" ∷ "(breaks 0 left)" ∷ "(found 1)" ∷ [])
unfolding report first_line last_line lines_from rule_lines break_lines found line bracket spaced name_of decimal digits_of names built_in new_names joins new_rules rules some every one size members anyb allb member value_of datatype_of language_of holds has_triple ends ends_of is_kind satisfies within subset none_shared all_pairs less less_eq same_lang conforms expand selects violates violations new_terms new_triples new_shapes collect graph_of schema_from schema list_of
report_of_B = refl

pub report_of_none : report [] ≡ text_of ("(book 0 0 0)" ∷ "(found 0)" ∷ [])
unfolding report first_line last_line lines_from found line bracket spaced decimal digits_of names built_in rules collect
report_of_none = refl

-- a refusal's number comes before its line
pub report_of_refusal : refusal_report 5 12 ≡ text_of ("(refused 5 12)" ∷ [])
unfolding line bracket spaced decimal digits_of
report_of_refusal = refl

-- ---- the parts, one after the other, are the report
module _ (b : Book) where
  pub rule_part : (k : ℕ) → k < length (rules b) → part b (suc k) ≡ rule_lines b k (get_or (rules b) k no_rule)
  unfolding part
  rule_part k low = rw (lt-ltb k (length (rules b)) low)

  pub last-part : (k : ℕ) → length (rules b) ≤ k → part b (suc k) ≡ last_line b
  unfolding part
  last-part k high = rw (le-ltb k (length (rules b)) high)

  -- the rule that follows those above it, by its number
  module _ (above rs : List Rule) (r : Rule) (e : rules b ≡ above ++ (r ∷ rs)) where
    pub next_low : length above < length (rules b)
    next_low = omega (arith, ap length e, length-append above (r ∷ rs))

    pub next_rule : get_or (rules b) (length above) no_rule ≡ r
    next_rule = ap (λ (l : List Rule). get_or l (length above) no_rule) e ∙ get_or_at above r rs no_rule (length above) refl

    pub next-count : length (above ++ (r ∷ [])) ≡ suc (length above)
    next-count = length-append above (r ∷ []) ∙ omega arith

  rules_joined : (above rs : List Rule) → rules b ≡ above ++ rs → parts_joined (part b) (suc (length above)) ++ lines_from b (length above) rs ≡ parts_joined (part b) (suc (length (rules b)))
  unfolding lines_from parts_joined
  rules_joined above [] e = append-nil (parts_joined (part b) (suc (length above))) ∙ ap (λ (l : List Rule). parts_joined (part b) (suc (length l))) (sym (e ∙ append-nil above))
  rules_joined above (r ∷ rs) e =
      let k : ℕ = length above in
      sym (append_assoc (parts_joined (part b) (suc k)) (rule_lines b k r) (lines_from b (suc k) rs))
      ∙ ap (λ (t : List ℕ). (parts_joined (part b) (suc k) ++ t) ++ lines_from b (suc k) rs) (sym (rule_part k (next_low above rs r e) ∙ ap (rule_lines b k) (next_rule above rs r e)))
      ∙ ap (λ (n : ℕ). parts_joined (part b) (suc n) ++ lines_from b n rs) (sym (next-count above rs r e))
      ∙ rules_joined (above ++ (r ∷ [])) rs (e ∙ sym (append_snoc above r rs))

  pub parts_joined_lem : parts_joined (part b) (length (rules b) + 2) ≡ report b
  unfolding parts_joined part report
  parts_joined_lem =
      let n : ℕ = length (rules b) in
      let two : n + 2 ≡ suc (suc n) = omega arith in
      ap (parts_joined (part b)) two
      ∙ ap₂ (λ (x y : List ℕ). x ++ y) (sym (rules_joined [] (rules b) refl)) (last-part n (omega arith))
      ∙ append_assoc (first_line b) (lines_from b 0 (rules b)) (last_line b)
