-- Targets and rules: which nodes a rule selects, and which of them violate it.
-- Document 01's words: a violation is a break.
use Rattle.std.specs.Prelude.{ℕ, List, Bool, not, ◌&&◌, eqb}
use Rattle.std.proofs.Math.Option.{Option}
use Rattle.base.specs.Bounded.{members}
use Rattle.base.specs.Lists.{anyb}
use Rattle.model.specs.Graph.{Graph, rdf_type}
use Rattle.model.specs.Paths.{Path, predicate, sequence, zero_or_more, ends}
use Rattle.model.specs.Shapes.{Shape, conforms, def}

-- 01: node, subjects, objects, class
pub data Target : Type 0 where
  target_node subjects_of objects_of target_class : ℕ → Target

-- a shape's number and a target
pub record Rule : Type 0 where
  pub shape : ℕ
  pub target : Target

-- what stands past the last rule of a list
abbrev pub no_rule : Rule
no_rule = record { shape = 0; target = target_node 0 }

-- From a node to the classes of which it is an instance. SHACL: rdf:type/rdfs:subClassOf*. The predicate of subclasses is document 02's link
-- named `under` (Job 5), where there is one
unfoldable pub class_path : Option ℕ → Path
class_path Option.none = predicate rdf_type
class_path (Option.some sub) = sequence (predicate rdf_type) (zero_or_more (predicate sub))

-- sub: that predicate, where there is one
module _ (sub : Option ℕ) where
  unfoldable pub selects : Graph → Target → ℕ → Bool
  selects g (target_node c) v = eqb v c
  selects g (subjects_of p) v = anyb (λ t. eqb t.subject v && eqb t.predicate p) g.triples
  selects g (objects_of p) v = anyb (λ t. eqb t.object v && eqb t.predicate p) g.triples
  selects g (target_class c) v = ends g.nodes g.triples (class_path sub) v c

  -- the rule selects v, and v does not conform to its shape, which the schema defines
  unfoldable pub violates : Graph → List Shape → Rule → ℕ → Bool
  violates g H r v = selects g r.target v && not (conforms g (def H r.shape) v)

  -- the nodes that violate the rule, lowest number first
  unfoldable pub violations : Graph → List Shape → Rule → List ℕ
  violations g H r = members (violates g H r) g.nodes
