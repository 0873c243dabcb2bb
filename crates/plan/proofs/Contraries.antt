-- Of each two steps for one condition, the set of the breaking one is the contrary of the keeping one's.
use Prim.Native.Nat.{ℕ}
use mathlib.Core.List.{List}
use mathlib.Core.Option.{Option}
use mathlib.Core.Bool.{Bool, not}
use mathlib.Core.Path.{◌≡◌, refl, sym, ap, ◌∙◌}
use lib.Dec.{eqb}
use lib.IntN.{ℤ}
use Rattle.base.specs.Bounded.{◌⇒◌}
use Rattle.base.specs.Lists.{member, allb}
use Rattle.model.specs.Graph.{Graph, holds}
use Rattle.model.specs.Shapes.{Test, satisfies, from, objects, starts, conforms}
use Rattle.tables.specs.Decode.{graph_at, path_at, end_at, entry_at}
use Rattle.plan.specs.Steps.{Step}
use Rattle.plan.specs.Conditions.{fails_test, some_unlisted}
use Rattle.plan.specs.Sets.{test_of, links_of, in_step}
use Rattle.plan.proofs.Complements.{not-satisfies, not-less, not-less_eq, not-clash, not_equal, not-apart, not_pairs, not-closed}

-- two sets with the same members
pub ext : {p q : ℕ → Bool} → ((v : ℕ) → p v ≡ q v) → p ≡ q
ext h = λ i v. h v i

-- sets and others: what the steps' numbers stand for, which none of these looks at
module _ (sub : Option ℕ) (cs : List ℕ) (vs : List ℤ) (sets others : ℕ → ℕ → Bool) where
  abbrev g : Graph
  g = graph_at cs vs

  -- the second step's set is the contrary of the first's
  abbrev pub Contrary : Step → Step → Type 0
  Contrary x y = in_step sub cs vs y others ≡ (λ v. not (in_step sub cs vs x sets v))

  pub all_none : Contrary Step.all Step.none
  unfolding in_step conforms
  all_none = refl

  pub is_isnot : (c : ℕ) → Contrary (Step.is c) (Step.isnot c)
  unfolding in_step conforms
  is_isnot c = refl

  pub equal_unequal : (f l : ℕ) → Contrary (Step.equal f l) (Step.unequal f l)
  unfolding in_step conforms
  equal_unequal f l = ext (λ v. sym (not_equal g.nodes (starts g (end_at cs f) v) (objects g l v)))

  pub apart_meet : (f l : ℕ) → Contrary (Step.apart f l) (Step.meet f l)
  unfolding in_step conforms
  apart_meet f l = ext (λ v. sym (not-apart g.nodes (starts g (end_at cs f) v) (objects g l v)))

  pub less_notless : (p l : ℕ) → Contrary (Step.less p l) (Step.notless p l)
  unfolding in_step conforms
  less_notless p l = ext (λ v. sym (not_pairs g.nodes (from g (path_at cs p) v) (objects g l v) _ _ (λ x y. not-less (g.term x) (g.term y))))

  pub lesseq_notlesseq : (p l : ℕ) → Contrary (Step.lesseq p l) (Step.notlesseq p l)
  unfolding in_step conforms
  lesseq_notlesseq p l = ext (λ v. sym (not_pairs g.nodes (from g (path_at cs p) v) (objects g l v) _ _ (λ x y. not-less_eq (g.term x) (g.term y))))

  pub onelang_manylang : (p : ℕ) → Contrary (Step.onelang p) (Step.manylang p)
  unfolding in_step conforms
  onelang_manylang p = ext (λ v. sym (not_pairs g.nodes (from g (path_at cs p) v) (from g (path_at cs p) v) _ _ (λ x y. not-clash g.term x y)))

  -- an entry that is a test, or `closed`
  module _ (e : ℕ) where
    pub test_set : (t : Test) → test_of cs (entry_at cs vs e) ≡ Option.some t → in_step sub cs vs (Step.test e) sets ≡ (λ v. satisfies t (g.term v))
    unfolding in_step conforms holds
    test_set t q = ap (λ (o : Option Test). λ v. holds (λ t. satisfies t (g.term v)) o) q

    pub test_untest : (t : Test) → test_of cs (entry_at cs vs e) ≡ Option.some t → Contrary (Step.test e) (Step.untest e)
    unfolding in_step conforms holds
    test_untest t q = ap (λ (o : Option Test). λ v. holds (λ t. fails_test t (g.term v)) o) q ∙ ext (λ v. sym (not-satisfies t (g.term v))) ∙ ap (λ (p : ℕ → Bool). λ v. not (p v)) (sym (test_set t q))

    pub closed-set : (ls : List ℕ) → links_of cs (entry_at cs vs e) ≡ Option.some ls → in_step sub cs vs (Step.closed e) sets ≡ (λ v. allb (λ t. eqb t.subject v ⇒ member t.predicate ls) g.triples)
    unfolding in_step conforms holds
    closed-set ls q = ap (λ (o : Option (List ℕ)). λ v. holds (λ ps. allb (λ t. eqb t.subject v ⇒ member t.predicate ps) g.triples) o) q

    pub closed_opened : (ls : List ℕ) → links_of cs (entry_at cs vs e) ≡ Option.some ls → Contrary (Step.closed e) (Step.opened e)
    unfolding in_step conforms holds
    closed_opened ls q = ap (λ (o : Option (List ℕ)). λ v. holds (λ ps. some_unlisted g.triples (λ p. member p ps) v) o) q ∙ ext (λ v. sym (not-closed g.triples (λ p. member p ls) v)) ∙ ap (λ (p : ℕ → Bool). λ v. not (p v)) (sym (closed-set ls q))
