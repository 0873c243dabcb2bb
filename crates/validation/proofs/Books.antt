-- What the tables of a valid book say is what the book says: its lists, and how many steps its plan has.
use Prim.Native.Nat.{ℕ, ◌+◌, ◌*◌, ◌<◌, ◌≤◌}
use mathlib.Core.Path.{◌≡◌, ap, ap₂, subst, ◌∙◌}
use mathlib.Core.List.{List}
use mathlib.Core.Bool.{true}
use native.Mathlib.Omega.{arith}
use lib.ListN.{length}
use Rattle.base.specs.Lists.{member, ascending}
use Rattle.base.proofs.Bounded.{member-members, members-ascending, size-members, size_le}
use Rattle.model.specs.Graph.{Graph}
use Rattle.model.specs.Shapes.{Shape}
use Rattle.model.specs.Rules.{Rule, violates, violations, no_rule}
use Rattle.model.specs.Books.{Book, sub_class_of, graph_of, schema, rules, list_of}
use Rattle.model.specs.Sizes.{forms_in}
use Rattle.model.specs.Valid.{admissible}
use Rattle.model.specs.Limits.{max_nodes, max_rules}
use Rattle.tables.specs.Decode.{graph_at, rule_at}
use Rattle.tables.proofs.WellFormed.{sound}
use Rattle.encoding.specs.Encode.{encode_cells, encode_values}
use Rattle.encoding.proofs.Counts.{forms-counted, rules-counted}
use Rattle.encoding.proofs.Graph.{graph_read, rule_at_lem}
use Rattle.encoding.proofs.Schema.{schema_read}
use Rattle.encoding.proofs.WellFormed.{well_formed_lem}
use Rattle.translation.specs.Compile.{steps_of}
use Rattle.translation.proofs.Plans.{plan-few}
use Rattle.tablerun.specs.Lists.{list_at}
use Rattle.validation.specs.Claim.{rule_of, violates_in}

module _ (b : Book) (ok : admissible b ≡ true) where
  -- the list of rule r
  pub list_read : (r : ℕ) → r < length (rules b) → list_at (sub_class_of b) (encode_cells b) (encode_values b) r ≡ list_of b (rule_of b r)
  unfolding list_at list_of
  list_read r low =
      ap₂ (λ (g : Graph) (H : List Shape). violations (sub_class_of b) g H (rule_at (encode_cells b) r)) (graph_read b ok) (schema_read b ok)
      ∙ ap (violations (sub_class_of b) (graph_of b) (schema b)) (rule_at_lem b ok r no_rule low)

  pub few-nodes : (graph_of b).nodes ≤ max_nodes
  unfolding graph_at
  few-nodes = subst (λ n. n ≤ max_nodes) (ap (λ (g : Graph). g.nodes) (graph_read b ok)) (sound (encode_cells b) (well_formed_lem b ok)).nodes

  pub few-rules : length (rules b) ≤ max_rules
  few-rules = subst (λ n. n ≤ max_rules) (rules-counted b) (sound (encode_cells b) (well_formed_lem b ok)).rules

  pub steps-few : length (steps_of (encode_cells b)) ≤ 4 * forms_in b + 2 * length (rules b)
  steps-few = omega (arith, plan-few (encode_cells b), forms-counted b, rules-counted b)

-- ---- the members of a list, in words of the claim
module _ (b : Book) (q : Rule) where
  pub listed-exactly : (v : ℕ) → member v (list_of b q) ≡ violates_in b q v
  unfolding list_of violations
  listed-exactly v = member-members (violates (sub_class_of b) (graph_of b) (schema b) q) (graph_of b).nodes v

  pub listed-ordered : ascending (list_of b q) ≡ true
  unfolding list_of violations
  listed-ordered = members-ascending (violates (sub_class_of b) (graph_of b) (schema b) q) (graph_of b).nodes

  pub listed-few : length (list_of b q) ≤ (graph_of b).nodes
  unfolding list_of violations
  listed-few = subst (λ k. k ≤ (graph_of b).nodes) (size-members (violates (sub_class_of b) (graph_of b) (schema b) q) (graph_of b).nodes) (size_le (violates (sub_class_of b) (graph_of b) (schema b) q) (graph_of b).nodes)
