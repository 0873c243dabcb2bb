-- What the set of each step is: which nodes are in it, over what the tables say. A step that keeps a condition has the nodes that
-- conform to it, by Table 1; one that breaks it is said by itself. No step names a shape or takes a complement.
use Rattle.std.specs.Prelude.{ℕ, List, Bool, true, false, not, ◌&&◌, ◌||◌, eqb, ℤ}
use Rattle.std.proofs.Math.Option.{Option}
use Rattle.base.specs.Bounded.{◌⇒◌, every, size}
use Rattle.base.specs.Lists.{member}
use Rattle.base.specs.Numbered.{numbered}
use Rattle.model.specs.Graph.{Graph, holds}
use Rattle.model.specs.Shapes.{Test, node_kind, datatype, language_in, min_inclusive, min_exclusive, max_inclusive, max_exclusive, has_value, test, equals, disjoint, closed, less_than, less_than_eq, unique_lang, within, from, objects, starts, conforms}
use Rattle.model.specs.Rules.{subjects_of, objects_of, target_class, selects}
use Rattle.tables.specs.Entries.{Entry}
use Rattle.tables.specs.Decode.{graph_at, path_at, end_at, kind_of, upper_of, items_at, entry_at}
use Rattle.plan.specs.Steps.{Step}
use Rattle.plan.specs.Layout.{step_at}
use Rattle.plan.specs.Conditions.{fails_test, not_less, not_less_eq, some_in_one, some_shared, some_pair, clash, some_unlisted}

module _ (cs : List ℕ) where
  -- the test that a form entry is; none where it is no test
  unfoldable pub test_of : Entry → Option Test
  test_of Entry.top = Option.none
  test_of (Entry.is c) = Option.none
  test_of (Entry.shape s) = Option.none
  test_of (Entry.conj a b) = Option.none
  test_of (Entry.disj a b) = Option.none
  test_of (Entry.neg a) = Option.none
  test_of (Entry.kind k) = Option.some (node_kind (kind_of k))
  test_of (Entry.datatype t) = Option.some (datatype t)
  test_of (Entry.lang i n) = Option.some (language_in (items_at cs i n))
  test_of (Entry.from x) = Option.some (min_inclusive x)
  test_of (Entry.above x) = Option.some (min_exclusive x)
  test_of (Entry.to x) = Option.some (max_inclusive x)
  test_of (Entry.under x) = Option.some (max_exclusive x)
  test_of (Entry.count p a lo hi) = Option.none
  test_of (Entry.all p a) = Option.none
  test_of (Entry.equal f l) = Option.none
  test_of (Entry.apart f l) = Option.none
  test_of (Entry.closed i n) = Option.none
  test_of (Entry.less p l) = Option.none
  test_of (Entry.lesseq p l) = Option.none
  test_of (Entry.onelang p) = Option.none
  test_of Entry.bad = Option.none

  -- the links that a `closed` entry lists; none where it is not `closed`
  unfoldable pub links_of : Entry → Option (List ℕ)
  links_of Entry.top = Option.none
  links_of (Entry.is c) = Option.none
  links_of (Entry.shape s) = Option.none
  links_of (Entry.conj a b) = Option.none
  links_of (Entry.disj a b) = Option.none
  links_of (Entry.neg a) = Option.none
  links_of (Entry.kind k) = Option.none
  links_of (Entry.datatype t) = Option.none
  links_of (Entry.lang i n) = Option.none
  links_of (Entry.from x) = Option.none
  links_of (Entry.above x) = Option.none
  links_of (Entry.to x) = Option.none
  links_of (Entry.under x) = Option.none
  links_of (Entry.count p a lo hi) = Option.none
  links_of (Entry.all p a) = Option.none
  links_of (Entry.equal f l) = Option.none
  links_of (Entry.apart f l) = Option.none
  links_of (Entry.closed i n) = Option.some (items_at cs i n)
  links_of (Entry.less p l) = Option.none
  links_of (Entry.lesseq p l) = Option.none
  links_of (Entry.onelang p) = Option.none
  links_of Entry.bad = Option.none

-- sub: the predicate of subclasses, where the tables have it (tables `Names`: `sub_class_at`)
module _ (sub : Option ℕ) (cs : List ℕ) (vs : List ℤ) where
  abbrev g : Graph
  g = graph_at cs vs

  -- node v is in the step's set, where sets j is the set of step j
  unfoldable pub in_step : Step → (ℕ → ℕ → Bool) → ℕ → Bool
  in_step Step.all sets v = true
  in_step Step.none sets v = false
  in_step (Step.is c) sets v = conforms g (has_value c) v
  in_step (Step.isnot c) sets v = not (eqb v c)
  in_step (Step.test e) sets v = holds (λ t. conforms g (test t) v) (test_of cs (entry_at cs vs e))
  in_step (Step.untest e) sets v = holds (λ t. fails_test t (g.term v)) (test_of cs (entry_at cs vs e))
  in_step (Step.both i j) sets v = sets i v && sets j v
  in_step (Step.either i j) sets v = sets i v || sets j v
  in_step (Step.count p j lo hi) sets v = within lo (upper_of hi) (size (λ b. from g (path_at cs p) v b && sets j b) g.nodes)
  in_step (Step.every p j) sets v = every (λ b. from g (path_at cs p) v b ⇒ sets j b) g.nodes
  in_step (Step.equal f l) sets v = conforms g (equals (end_at cs f) l) v
  in_step (Step.unequal f l) sets v = some_in_one g.nodes (starts g (end_at cs f) v) (objects g l v)
  in_step (Step.apart f l) sets v = conforms g (disjoint (end_at cs f) l) v
  in_step (Step.meet f l) sets v = some_shared g.nodes (starts g (end_at cs f) v) (objects g l v)
  in_step (Step.closed e) sets v = holds (λ ps. conforms g (closed ps) v) (links_of cs (entry_at cs vs e))
  in_step (Step.opened e) sets v = holds (λ ps. some_unlisted g.triples (λ p. member p ps) v) (links_of cs (entry_at cs vs e))
  in_step (Step.less p l) sets v = conforms g (less_than (path_at cs p) l) v
  in_step (Step.notless p l) sets v = some_pair g.nodes (from g (path_at cs p) v) (objects g l v) (λ b c. not_less (g.term b) (g.term c))
  in_step (Step.lesseq p l) sets v = conforms g (less_than_eq (path_at cs p) l) v
  in_step (Step.notlesseq p l) sets v = some_pair g.nodes (from g (path_at cs p) v) (objects g l v) (λ b c. not_less_eq (g.term b) (g.term c))
  in_step (Step.onelang p) sets v = conforms g (unique_lang (path_at cs p)) v
  in_step (Step.manylang p) sets v = some_pair g.nodes (from g (path_at cs p) v) (from g (path_at cs p) v) (clash g.term)
  in_step (Step.from l) sets v = selects sub g (subjects_of l) v
  in_step (Step.into l) sets v = selects sub g (objects_of l) v
  in_step (Step.typed c) sets v = selects sub g (target_class c) v
  in_step Step.bad sets v = false

  -- the set of step k, where step j is `at j`; a step that it uses and that is not before it has none
  unfoldable pub set_by : (ℕ → Step) → ℕ → ℕ → Bool
  set_by at = numbered (λ v. false) (λ k sets. in_step (at k) sets)

  -- the set of step k of a plan
  unfoldable pub set_at : List ℕ → ℕ → ℕ → Bool
  set_at ps = set_by (step_at ps)
