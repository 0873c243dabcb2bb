-- Facts in three lent columns, subjects, predicates and objects, with their number; and what is asked of them.
use Rattle.std.specs.Prelude.{ℕ, ◌+◌, ◌≤◌, ◌<◌, List, Bool, true, ◌&&◌, cond, ◌≡◌, eqb, ltb, length, get_or}
use Rattle.base.specs.Bounded.{some, every}
use Rattle.base.specs.Lists.{values}
use Rattle.chains.specs.Chains.{Chained}
use Rattle.model.specs.Graph.{Triple}
use Rattle.model.specs.Limits.{max_nodes, max_links, max_facts}
use Rattle.tables.specs.Layout.{cell_count, fact_count, subject_at, predicate_at}
use Rattle.tables.specs.WellFormed.{well_formed}

module _ (ss ps os : List ℕ) where
  -- fact i
  unfoldable pub triple_in : ℕ → Triple
  triple_in i = record { subject = get_or ss i 0; predicate = get_or ps i 0; object = get_or os i 0 }

  -- the first count facts
  unfoldable pub triples_of : ℕ → List Triple
  triples_of count = values triple_in count

  -- fact i is an edge from v to w by link p; read backwards where back
  unfoldable pub edge : ℕ → Bool → ℕ → ℕ → ℕ → Bool
  edge p back i v w = eqb (get_or ps i 0) p && (eqb (cond back (get_or os i 0) (get_or ss i 0)) v && eqb (cond back (get_or ss i 0) (get_or os i 0)) w)

  -- one of the first count facts is such an edge
  unfoldable pub edges : ℕ → Bool → ℕ → ℕ → ℕ → Bool
  edges p back count v w = some (λ i. edge p back i v w) count

-- the index of facts: their chains by link. That of link p begins at place p, and fact i is followed at max_links + i
abbrev pub Indexed : List ℕ → ℕ → List ℕ → Type 0
Indexed ps count index = Chained (λ i. get_or ps i 0) count max_links 0 max_links index

-- the chains by subject stand behind these: where that of node v begins, at subject_heads + v, and what follows fact i
abbrev pub subject_heads : ℕ
subject_heads = max_links + max_facts

abbrev pub subject_nexts : ℕ
subject_nexts = subject_heads + max_nodes

-- the index of the tables' facts: their chains by link, and by subject
abbrev pub TableIndexed : List ℕ → List ℕ → Type 0
TableIndexed cs index = Chained (predicate_at cs) (fact_count cs) max_links 0 max_links index

abbrev pub SubjectIndexed : List ℕ → List ℕ → Type 0
SubjectIndexed cs index = Chained (subject_at cs) (fact_count cs) max_nodes subject_heads subject_nexts index

-- how long it is
abbrev pub index_count : ℕ
index_count = subject_nexts + max_facts

-- what is left when the first count facts have been put into chains by their keys: only the places of these chains have changed
pub record Made (keys : List ℕ) (count slots heads nexts : ℕ) (before after : List ℕ) : Type 0 where
  pub chained : Chained (λ i. get_or keys i 0) count slots heads nexts after
  pub below : (k : ℕ) → k < heads → get_or after k 0 ≡ get_or before k 0
  pub above : (k : ℕ) → nexts + count ≤ k → get_or after k 0 ≡ get_or before k 0

-- well_formed_lem tables, with the index of their facts
pub record Tables (cs index : List ℕ) : Type 0 where
  pub room : cell_count ≤ length cs
  pub ok : well_formed cs ≡ true
  pub indexed : TableIndexed cs index
  pub subjects : SubjectIndexed cs index

-- count facts between n nodes, and their index
pub record FactsOk (ss ps os index : List ℕ) (count n : ℕ) : Type 0 where
  pub few : count ≤ max_facts
  pub subjects : count ≤ length ss
  pub predicates : count ≤ length ps
  pub objects : count ≤ length os
  pub nodes : n ≤ max_nodes
  pub between : every (λ i. ltb (get_or ss i 0) n && ltb (get_or os i 0) n) count ≡ true
  pub links : every (λ i. ltb (get_or ps i 0) max_links) count ≡ true
  pub indexed : Indexed ps count index
