-- Document 01: "Facts are a set: a repeated line is accepted and counts once in every condition." Graphs with the same nodes
-- whose triples are the same as sets have the same ends, conforming nodes, selected nodes and lists.
use Prim.Native.Nat.{ℕ}
use mathlib.Core.List.{List, ◌∷◌, ◌++◌, append-nil}
use mathlib.Core.Option.{Option}
use mathlib.Core.Bool.{Bool, true, not, ◌&&◌, ◌||◌}
use mathlib.Core.Path.{◌≡◌, refl, sym, ap, ap₂, ◌∙◌}
use lib.Dec.{eqb}
use lib.ListN.{length, get_or}
use borrow.Author.Tests.{eq-eqb, eqb-true}
use Rattle.base.specs.Bounded.{◌⇒◌, some, every, size, members}
use Rattle.base.specs.Lists.{anyb, allb, member}
use Rattle.base.proofs.Bools.{and_left, and_right, and_both}
use Rattle.base.proofs.Lists.{anyb_again, anyb-set, allb-set}
use Rattle.model.specs.Graph.{Term, iri, Triple, Graph, has_triple, SameTriples, SameGraph}
use Rattle.model.specs.Repeats.{star, plus}
use Rattle.model.specs.Paths.{Path, predicate, inverse, sequence, alternative, zero_or_more, one_or_more, End, self, along, ends, ends_of}
use Rattle.model.specs.Shapes.{Shape, top, has_shape, has_value, conj, disj, neg, test, count, for_all, equals, disjoint, closed, less_than, less_than_eq, unique_lang, satisfies, within, subset, none_shared, all_pairs, less, less_eq, same_lang, conforms, def}
use Rattle.model.specs.Rules.{Target, target_node, subjects_of, objects_of, target_class, Rule, class_path, selects, violates, violations}
use Rattle.model.specs.Books.{Name, Book, built_in, fact, new_terms, new_triples, new_shapes, new_rules, collect, graph_of, schema_from, schema, rules, conforms_in, list_of, links, names, new_names, sub_class_of, number_in, under}
use Rattle.model.proofs.Lines.{collect_append, collect-none}
use Rattle.model.proofs.Expansion.{schema_append}

-- the test that `has_triple` makes of each triple is equality
abbrev same_triple : Triple → Triple → Bool
same_triple t u = eqb t.subject u.subject && (eqb t.predicate u.predicate && eqb t.object u.object)

same_refl : (t : Triple) → same_triple t t ≡ true
same_refl t = and_both (eqb t.subject t.subject) _ (eq-eqb t.subject t.subject refl) (and_both (eqb t.predicate t.predicate) _ (eq-eqb t.predicate t.predicate refl) (eq-eqb t.object t.object refl))

same-is : (t u : Triple) → same_triple t u ≡ true → t ≡ u
same-is t u e =
    let rest = and_right (eqb t.subject u.subject) _ e in
    let s = eqb-true t.subject u.subject (and_left _ _ e) in
    let p = eqb-true t.predicate u.predicate (and_left _ _ rest) in
    let o = eqb-true t.object u.object (and_right (eqb t.predicate u.predicate) _ rest) in
    λ i. record { subject = s i; predicate = p i; object = o i }

-- ---- triples that are the same as sets
module _ (ts us : List Triple) (same : SameTriples ts us) where
  -- a test of some triple, of every triple
  pub any-set : (f : Triple → Bool) → anyb f ts ≡ anyb f us
  unfolding has_triple
  any-set = anyb-set same_triple same_refl same-is ts us (λ t. same t.subject t.predicate t.object)

  pub all_set : (f : Triple → Bool) → allb f ts ≡ allb f us
  unfolding has_triple
  all_set = allb-set same_triple same_refl same-is ts us (λ t. same t.subject t.predicate t.object)

  -- 01: the ends of a PATH from v, with any number of nodes; of an END
  pub ends_set : (n : ℕ) (e : Path) (v w : ℕ) → ends n ts e v w ≡ ends n us e v w
  unfolding ends
  ends_set n (predicate p) v w = same v p w
  ends_set n (inverse e) v w = ends_set n e w v
  ends_set n (sequence d e) v w = λ i. some (λ u. ends_set n d v u i && ends_set n e u w i) n
  ends_set n (alternative d e) v w = λ i. ends_set n d v w i || ends_set n e v w i
  ends_set n (zero_or_more e) v w = λ i. star (λ x y. ends_set n e x y i) n v w
  ends_set n (one_or_more e) v w = λ i. plus (λ x y. ends_set n e x y i) n v w

  pub ends_of_set : (n : ℕ) (f : End) (v w : ℕ) → ends_of n ts f v w ≡ ends_of n us f v w
  unfolding ends_of
  ends_of_set n self v w = refl
  ends_of_set n (along e) v w = ends_set n e v w

-- ---- graphs that are the same but for order and repeats of their triples
module _ (g h : Graph) (same : SameGraph g h) where
  -- the ends in both, as one equation of functions
  path_ends : ends g.nodes g.triples ≡ ends h.nodes h.triples
  path_ends = λ i e v w. (ends_set g.triples h.triples same.same_triples g.nodes e v w ∙ ap (λ (n : ℕ). ends n h.triples e v w) same.same_nodes) i

  start-ends : ends_of g.nodes g.triples ≡ ends_of h.nodes h.triples
  start-ends = λ i f v w. (ends_of_set g.triples h.triples same.same_triples g.nodes f v w ∙ ap (λ (n : ℕ). ends_of n h.triples f v w) same.same_nodes) i

  -- 01: a node meets a FORM in one exactly when it does in the other
  pub conforms-set : (φ : Shape) (v : ℕ) → conforms g φ v ≡ conforms h φ v
  unfolding conforms
  conforms-set top v = refl
  conforms-set (has_shape s) v = refl
  conforms-set (has_value c) v = refl
  conforms-set (conj φ ψ) v = λ i. conforms-set φ v i && conforms-set ψ v i
  conforms-set (disj φ ψ) v = λ i. conforms-set φ v i || conforms-set ψ v i
  conforms-set (neg φ) v = λ i. not (conforms-set φ v i)
  conforms-set (test t) v = λ i. satisfies t (same.same_terms v i)
  conforms-set (count lo hi e ψ) v = λ i. within lo hi (size (λ b. path_ends i e v b && conforms-set ψ b i) (same.same_nodes i))
  conforms-set (for_all e ψ) v = λ i. every (λ b. path_ends i e v b ⇒ conforms-set ψ b i) (same.same_nodes i)
  conforms-set (equals f p) v = λ i. subset (same.same_nodes i) (start-ends i f v) (path_ends i (predicate p) v) && subset (same.same_nodes i) (path_ends i (predicate p) v) (start-ends i f v)
  conforms-set (disjoint f p) v = λ i. none_shared (same.same_nodes i) (start-ends i f v) (path_ends i (predicate p) v)
  conforms-set (closed ps) v = all_set g.triples h.triples same.same_triples (λ t. eqb t.subject v ⇒ member t.predicate ps)
  conforms-set (less_than e p) v = λ i. all_pairs (same.same_nodes i) (path_ends i e v) (path_ends i (predicate p) v) (λ b c. less (same.same_terms b i) (same.same_terms c i))
  conforms-set (less_than_eq e p) v = λ i. all_pairs (same.same_nodes i) (path_ends i e v) (path_ends i (predicate p) v) (λ b c. less_eq (same.same_terms b i) (same.same_terms c i))
  conforms-set (unique_lang e) v = λ i. all_pairs (same.same_nodes i) (path_ends i e v) (path_ends i e v) (λ b c. not (eqb b c) ⇒ not (same_lang (same.same_terms b i) (same.same_terms c i)))

  module _ (sub : Option ℕ) where
    -- 01: a TARGET selects the same nodes
    pub selects-set : (t : Target) (v : ℕ) → selects sub g t v ≡ selects sub h t v
    unfolding selects
    selects-set (target_node c) v = refl
    selects-set (subjects_of p) v = any-set g.triples h.triples same.same_triples (λ t. eqb t.subject v && eqb t.predicate p)
    selects-set (objects_of p) v = any-set g.triples h.triples same.same_triples (λ t. eqb t.object v && eqb t.predicate p)
    selects-set (target_class c) v = λ i. path_ends i (class_path sub) v c

    -- 01: a rule has the same list
    pub violations-set : (H : List Shape) (r : Rule) → violations sub g H r ≡ violations sub h H r
    unfolding violations violates
    violations-set H r = λ i. members (λ v. selects-set r.target v i && not (conforms-set (def H r.shape) v i)) (same.same_nodes i)

-- ---- a fact line that repeats one above it
-- a triple that stands there already
pub triple_again : (ts us : List Triple) (t : Triple) → has_triple ts t.subject t.predicate t.object ≡ true → SameTriples (ts ++ (t ∷ us)) (ts ++ us)
unfolding has_triple
triple_again ts us t e s p o =
    let u : Triple = record { subject = s; predicate = p; object = o } in
    anyb_again (λ x. same_triple x u) ts t us (λ q. ap (λ (x : Triple). anyb (λ y. same_triple y x) ts) (sym (same-is t u q)) ∙ e)

-- above, below: the lines above and below it; its triple stands on one of those above
module _ (above below : Book) (t : Triple) (again : has_triple (collect new_triples above) t.subject t.predicate t.object ≡ true) where
  repeated_graph : SameGraph (graph_of (above ++ (fact t ∷ below))) (graph_of (above ++ below))
  unfolding graph_of new_terms new_triples collect
  repeated_graph =
      let terms = collect-none new_terms (fact t) refl above below in
      record {
        same_nodes = ap length terms;
        same_terms = λ v. ap (λ (xs : List Term). get_or xs v iri) terms;
        same_triples = λ s p o. ap (λ (xs : List Triple). has_triple xs s p o) (collect_append new_triples above (fact t ∷ below)) ∙ triple_again (collect new_triples above) (collect new_triples below) t again s p o ∙ ap (λ (xs : List Triple). has_triple xs s p o) (sym (collect_append new_triples above below));
      }

  repeated-schema : schema (above ++ (fact t ∷ below)) ≡ schema (above ++ below)
  unfolding schema_from new_shapes
  repeated-schema = schema_append above (fact t ∷ below) ∙ ap (λ (H : List Shape). schema_from H below) (append-nil (schema above)) ∙ sym (schema_append above below)

  -- It changes neither which shapes a node meets, nor the rules, nor the list of any rule.
  pub repeated-conforms : (v s : ℕ) → conforms_in (above ++ (fact t ∷ below)) v s ≡ conforms_in (above ++ below) v s
  unfolding conforms_in
  repeated-conforms v s = conforms-set (graph_of (above ++ (fact t ∷ below))) (graph_of (above ++ below)) repeated_graph (def (schema (above ++ (fact t ∷ below))) s) v ∙ ap (λ (H : List Shape). conforms (graph_of (above ++ below)) (def H s) v) repeated-schema

  -- a fact line names nothing, so `under` is the same link
  repeated_sub : sub_class_of (above ++ (fact t ∷ below)) ≡ sub_class_of (above ++ below)
  unfolding sub_class_of names new_names
  repeated_sub = ap (λ (ws : List Name). number_in (built_in links ++ ws) under) (collect-none (new_names links) (fact t) refl above below)

  pub repeated-rules : rules (above ++ (fact t ∷ below)) ≡ rules (above ++ below)
  unfolding rules new_rules
  repeated-rules = collect-none new_rules (fact t) refl above below

  pub repeated_fact : (r : Rule) → list_of (above ++ (fact t ∷ below)) r ≡ list_of (above ++ below) r
  unfolding list_of
  repeated_fact r =
      violations-set (graph_of (above ++ (fact t ∷ below))) (graph_of (above ++ below)) repeated_graph (sub_class_of (above ++ (fact t ∷ below))) (schema (above ++ (fact t ∷ below))) r
      ∙ ap₂ (λ (sub : Option ℕ) (H : List Shape). violations sub (graph_of (above ++ below)) H r) repeated_sub repeated-schema
