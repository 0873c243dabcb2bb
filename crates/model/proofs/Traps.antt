-- The traps of document 01, each as a wrong reading of a row and a case in which it gives another answer than the row.
use Prim.Native.Nat.{ℕ, zero, suc, ◌+◌, ◌*◌}
use mathlib.Core.List.{List, [], ◌∷◌}
use mathlib.Core.Bool.{Bool, true, false, not, ◌&&◌, beq}
use mathlib.Core.Path.{◌≡◌, refl}
use lib.Dec.{eqb, leb}
use Rattle.base.specs.Bounded.{◌⇒◌, some, every, one, size}
use Rattle.base.specs.Lists.{anyb, allb, member}
use Rattle.model.specs.Graph.{Triple, Graph, value_of, language_of, holds, holds₂, has_triple}
use Rattle.model.specs.Paths.{Path, predicate, inverse, sequence, alternative, zero_or_more, one_or_more, ends, ends_of, along}
use Rattle.model.specs.Shapes.{top, count, at_most, unbounded, equals, less_than, unique_lang, is_kind, satisfies, within, subset, none_shared, all_pairs, less, less_eq, same_lang, from, objects, conforms}
use Rattle.model.specs.Books.{new_terms, new_triples, collect, graph_of}
use Rattle.model.specs.Cases.{book_b, book_c, mount, twin}

module _ (g : Graph) where
  -- "over facts of all subjects": the objects of p from any node
  anywhere : ℕ → ℕ → Bool
  anywhere p w = some (λ u. objects g p u w) g.nodes

  -- "greatest against least", of which there is none where there are no ends
  extremes : Path → ℕ → ℕ → Bool
  extremes e p v = some (λ x. from g e v x && some (λ y. objects g p v y && (less (g.term x) (g.term y) && (every (λ z. from g e v z ⇒ less_eq (g.term z) (g.term x)) g.nodes && every (λ z. objects g p v z ⇒ less_eq (g.term y) (g.term z)) g.nodes))) g.nodes) g.nodes

  -- a pair in which a term has no number is dropped
  dropped : Path → ℕ → ℕ → Bool
  dropped e p v = all_pairs g.nodes (from g e v) (objects g p v) (λ b c. holds₂ (λ x y. true) (value_of (g.term b)) (value_of (g.term c)) ⇒ less (g.term b) (g.term c))

  -- two ends with languages, alike or not
  unlike : Path → ℕ → Bool
  unlike e v = all_pairs g.nodes (from g e v) (from g e v) (λ b c. not (eqb b c) ⇒ not (holds₂ (λ x y. true) (language_of (g.term b)) (language_of (g.term c))))

  -- a count taken from a group, which a node without ends does not have
  grouped : ℕ → ℕ → Path → ℕ → Bool
  grouped lo hi e v = some (from g e v) g.nodes && within lo (at_most hi) (size (from g e v) g.nodes)

  sum : (ℕ → ℕ) → ℕ → ℕ
  sum f zero = 0
  sum f (suc n) = f n + sum f n

  rows_of : List Triple → ℕ → ℕ → ℕ → ℕ
  rows_of [] v p w = 0
  rows_of (t ∷ ts) v p w = one (eqb t.subject v && (eqb t.predicate p && eqb t.object w)) + rows_of ts v p w

  -- the rows of a join: how often the path leads from v to w; a repeated path once, where it does
  ways : Path → ℕ → ℕ → ℕ
  ways (predicate p) v w = rows_of g.triples v p w
  ways (inverse e) v w = ways e w v
  ways (sequence d e) v w = sum (λ u. ways d v u * ways e u w) g.nodes
  ways (alternative d e) v w = ways d v w + ways e v w
  ways (zero_or_more e) v w = one (ends g.nodes g.triples (zero_or_more e) v w)
  ways (one_or_more e) v w = one (ends g.nodes g.triples (one_or_more e) v w)

-- the answer of the row, that of the wrong reading, and the right one
data Trap : Type 0 where
  trap : Bool → Bool → Bool → Trap

avoided : List Trap → Bool
avoided [] = true
avoided (trap row wrong answer ∷ ts) = beq row answer && (beq wrong (not answer) && avoided ts)

abbrev B : Graph
B = graph_of book_b

abbrev C : Graph
C = graph_of book_c

-- 0 less and 1 equal over facts of all subjects; 2 no ends; 3 a term without a number; 4 unlike languages;
-- 5 a count from 0 out of groups; 6 `alt` with equal arms; 7 a repeated fact
abbrev traps : List Trap
traps =
    trap (conforms B (less_than (sequence twin mount) 1) 0) (all_pairs B.nodes (from B (sequence twin mount) 0) (anywhere B 1) (λ b c. less (B.term b) (B.term c))) true
    ∷ trap (conforms B (equals (along mount) 1) 0) (subset B.nodes (from B mount 0) (anywhere B 1) && subset B.nodes (anywhere B 1) (from B mount 0)) true
    ∷ trap (conforms B (less_than mount 1) 2) (extremes B mount 1 2) true
    ∷ trap (conforms B (less_than twin 1) 0) (dropped B twin 1 0) false
    ∷ trap (conforms C (unique_lang (predicate 1)) 0) (unlike C (predicate 1) 0) true
    ∷ trap (conforms B (count 0 (at_most 0) twin top) 1) (grouped B 0 0 twin 1) true
    ∷ trap (conforms B (count 2 unbounded (alternative mount mount) top) 0) (leb 2 (sum B (ways B (alternative mount mount) 0) B.nodes)) false
    ∷ trap (conforms C (count 0 (at_most 1) (predicate 2) top) 0) (leb (sum C (ways C (predicate 2) 0) C.nodes) 1) true
    ∷ []

traps_avoided : avoided traps ≡ true
unfolding some every one size anyb allb member value_of language_of holds has_triple ends ends_of is_kind satisfies within subset none_shared all_pairs less less_eq same_lang conforms new_terms new_triples collect graph_of anywhere extremes dropped unlike grouped sum rows_of ways avoided
traps_avoided = refl
