-- Facts between nodes lead from nodes to nodes along every path, and to nodes from nodes only. (A number past them leads to itself by a
-- path that may be repeated zero times.)
use Prim.Native.Nat.{ℕ, ◌<◌}
use mathlib.Core.Bool.{◌&&◌}
use mathlib.Core.List.{List}
use mathlib.Core.Logic.{⊎_elim}
use mathlib.Core.Path.{refl, sym, ap, ◌∙◌, subst}
use lib.Dec.{eqb}
use lib.ListN.{get_or}
use borrow.Author.Tests.{eqb-true}
use Rattle.base.proofs.Bools.{and_left, and_right, or_cases}
use Rattle.base.proofs.Bounded.{some_witness}
use Rattle.model.specs.Graph.{Triple}
use Rattle.model.specs.Paths as model
use Rattle.model.specs.Paths.{Path, predicate, inverse, sequence, alternative, zero_or_more, one_or_more, self, along, ends, ends_of}
use Rattle.model.proofs.Repeats.{Nodes, star-nodes, plus-nodes}
use Rattle.tables.specs.Layout.{node_count, subjects, predicates, objects}
use Rattle.tables.specs.Decode.{triples_at}
use Rattle.paths.specs.Facts.{Tables, FactsOk, triples_of}
use Rattle.paths.proofs.Joins.{fact_between}
use Rattle.paths.proofs.Parts.{part, lent_ok, lent-triples}
use Rattle.paths.proofs.Paths.{has_triple_lem}

module _ (ss ps os index : List ℕ) (count n : ℕ) (ok : FactsOk ss ps os index count n) where
  pub ends-nodes : (p : Path) → Nodes n (ends n (triples_of ss ps os count) p)
  unfolding ends
  ends-nodes (predicate p) v w h =
      let (i, l, q) = some_witness (λ i. eqb (get_or ss i 0) v && (eqb (get_or ps i 0) p && eqb (get_or os i 0) w)) count (sym (has_triple_lem ss ps os v p w count) ∙ h) in
      let b = fact_between ss ps os index count n ok i l in
      let r = and_right (eqb (get_or ss i 0) v) (eqb (get_or ps i 0) p && eqb (get_or os i 0) w) q in
      (λ _. subst (λ (x : ℕ). x < n) (eqb-true (get_or os i 0) w (and_right (eqb (get_or ps i 0) p) (eqb (get_or os i 0) w) r)) b.1, λ _. subst (λ (x : ℕ). x < n) (eqb-true (get_or ss i 0) v (and_left (eqb (get_or ss i 0) v) (eqb (get_or ps i 0) p && eqb (get_or os i 0) w) q)) b.0)
  ends-nodes (inverse p) v w h = let b = ends-nodes p w v h in (b.1, b.0)
  ends-nodes (sequence d e) v w h =
      let (u, l, q) = some_witness (λ u. ends n (triples_of ss ps os count) d v u && ends n (triples_of ss ps os count) e u w) n h in
      (λ _. (ends-nodes e u w (and_right (ends n (triples_of ss ps os count) d v u) (ends n (triples_of ss ps os count) e u w) q)).0 l, λ _. (ends-nodes d v u (and_left (ends n (triples_of ss ps os count) d v u) (ends n (triples_of ss ps os count) e u w) q)).1 l)
  ends-nodes (alternative d e) v w h = ⊎_elim (λ q. ends-nodes d v w q) (λ q. ends-nodes e v w q) (or_cases (ends n (triples_of ss ps os count) d v w) (ends n (triples_of ss ps os count) e v w) h)
  ends-nodes (zero_or_more e) v w h = star-nodes (ends n (triples_of ss ps os count) e) n (ends-nodes e) v w h
  ends-nodes (one_or_more e) v w h = let b = plus-nodes (ends n (triples_of ss ps os count) e) n (ends-nodes e) v w h in (λ _. b.1, λ _. b.0)

  -- the same of the ends of any END
  pub all-nodes : (x : model.End) → Nodes n (ends_of n (triples_of ss ps os count) x)
  unfolding ends_of
  all-nodes self v w h = (λ l. subst (λ (x : ℕ). x < n) (eqb-true v w h) l, λ l. subst (λ (x : ℕ). x < n) (sym (eqb-true v w h)) l)
  all-nodes (along p) v w h = ends-nodes p v w h

-- over the facts of well_formed_lem tables
pub table_nodes : (cs index : List ℕ) → Tables cs index → (x : model.End) → Nodes (node_count cs) (ends_of (node_count cs) (triples_at cs) x)
table_nodes cs index t x v w h = all-nodes (part cs subjects) (part cs predicates) (part cs objects) index _ (node_count cs) (lent_ok cs t.ok t.room refl refl t.indexed) x v w (ap (λ (ts : List Triple). ends_of (node_count cs) ts x v w) (lent-triples cs t.ok refl) ∙ h)
