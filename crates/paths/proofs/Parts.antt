-- The facts of the tables, as three lent parts of the cells.
use Prim.Native.Nat.{ℕ, ◌+◌, ◌≤◌, ◌<◌}
use mathlib.Core.Bool.{true, ◌&&◌}
use mathlib.Core.List.{List}
use mathlib.Core.Path.{◌≡◌, refl, sym, ap, ap₂, ◌∙◌, subst}
use native.Mathlib.Omega.{arith}
use lib.Dec.{ltb}
use lib.ListN.{length, get_or, take, drop, length-drop}
use lib.Seq.{get_or-take, get_or-drop, length-take-le}
use borrow.Author.Tests.{lt-ltb}
use Rattle.base.proofs.Bools.{and_both}
use Rattle.base.specs.Bounded.{every}
use Rattle.base.proofs.Bounded.{every-all}
use Rattle.base.proofs.Lists.{values_ext}
use Rattle.chains.specs.Chains.{Chained}
use Rattle.chains.proofs.Chains.{chained_same}
use Rattle.model.specs.Graph.{Triple}
use Rattle.model.specs.Limits.{max_links, max_facts, max_nodes}
use Rattle.tables.specs.Layout.{cell_count, node_count, fact_count, subjects, predicates, objects, subject_at, predicate_at, object_at}
use Rattle.tables.specs.Decode.{triple_at, triples_at}
use Rattle.tables.specs.WellFormed.{well_formed}
use Rattle.tables.proofs.WellFormed.{Sound, sound}
use Rattle.paths.specs.Facts.{subject_heads, subject_nexts, Indexed, TableIndexed, SubjectIndexed, FactsOk, triple_in, triples_of}

triple_eq : {s s' p p' o o' : ℕ} → s ≡ s' → p ≡ p' → o ≡ o' → ◌≡◌ {A = Triple} (record { subject = s; predicate = p; object = o }) (record { subject = s'; predicate = p'; object = o' })
triple_eq a b c = rw (a, b, c)

-- 4,096 cells from a place on
abbrev pub part : List ℕ → ℕ → List ℕ
part cs at = take max_facts (drop at cs)

module _ (cs : List ℕ) where
  pub part_at : (at i : ℕ) → i < max_facts → get_or (part cs at) i 0 ≡ get_or cs (at + i) 0
  part_at at i l = get_or-take max_facts (drop at cs) i 0 l ∙ get_or-drop at cs i 0

  pub part_length : (at : ℕ) → at + max_facts ≤ length cs → length (part cs at) ≡ max_facts
  part_length at l = length-take-le max_facts (drop at cs) (subst (λ (n : ℕ). max_facts ≤ n) (sym (length-drop at cs)) (omega arith))

  -- the triples of the three parts are those of the tables
  part-triples : fact_count cs ≤ max_facts → triples_of (part cs subjects) (part cs predicates) (part cs objects) (fact_count cs) ≡ triples_at cs
  unfolding triples_of triple_in triples_at triple_at
  part-triples l = values_ext (triple_in (part cs subjects) (part cs predicates) (part cs objects)) (triple_at cs) 0 (fact_count cs) λ i h.
      let i_lt : i < max_facts = omega arith in
      triple_eq (part_at subjects i i_lt) (part_at predicates i i_lt) (part_at objects i i_lt)

  module _ (ok : well_formed cs ≡ true) where
    -- the links of the facts
    part-links : every (λ i. ltb (get_or (part cs predicates) i 0) max_links) (fact_count cs) ≡ true
    part-links = every-all (λ i. ltb (get_or (part cs predicates) i 0) max_links) (fact_count cs) (λ i l.
        let i_lt : i < max_facts = omega (arith, (sound cs ok).facts) in
        ap (λ (p : ℕ). ltb p max_links) (part_at predicates i i_lt) ∙ lt-ltb (predicate_at cs i) max_links (omega (arith, (sound cs ok).predicate i l, (sound cs ok).links)))

    -- the facts of well_formed_lem tables lie between nodes; with the counts as they were read
    pub lent_ok : {count n : ℕ} {index : List ℕ} → cell_count ≤ length cs → n ≡ node_count cs → count ≡ fact_count cs → TableIndexed cs index → FactsOk (part cs subjects) (part cs predicates) (part cs objects) index count n
    lent_ok room en ec ix = rw (en, ec) record {
      few = s.facts;
      subjects = omega (arith, s.facts, part_length subjects (omega arith));
      predicates = omega (arith, s.facts, part_length predicates (omega arith));
      objects = omega (arith, s.facts, part_length objects (omega arith));
      nodes = s.nodes;
      between = every-all (λ i. ltb (get_or (part cs subjects) i 0) (node_count cs) && ltb (get_or (part cs objects) i 0) (node_count cs)) (fact_count cs) (λ i l.
          let i_lt : i < max_facts = omega (arith, s.facts) in
          ap₂ (λ (a b : ℕ). ltb a (node_count cs) && ltb b (node_count cs)) (part_at subjects i i_lt) (part_at objects i i_lt)
          ∙ and_both (ltb (subject_at cs i) (node_count cs)) (ltb (object_at cs i) (node_count cs)) (lt-ltb (subject_at cs i) (node_count cs) (s.subject i l)) (lt-ltb (object_at cs i) (node_count cs) (s.object i l)));
      links = part-links;
      indexed = chained_same (λ i l. sym (part_at predicates i (omega (arith, s.facts)))) (λ h l. refl) (λ i l. refl) ix;
    }
      where
        s : Sound cs
        s = sound cs ok

    -- what the index of the facts is made from
    pub lent-links : {count : ℕ} → cell_count ≤ length cs → count ≡ fact_count cs → (count ≤ max_facts) × (count ≤ length (part cs predicates)) × (every (λ i. ltb (get_or (part cs predicates) i 0) max_links) count ≡ true)
    lent-links room ec = rw ec ((sound cs ok).facts, omega (arith, (sound cs ok).facts, part_length predicates (omega arith)), part-links)

    -- the index of the part is that of the tables
    pub lent_index : {count : ℕ} {index : List ℕ} → count ≡ fact_count cs → Indexed (part cs predicates) count index → TableIndexed cs index
    lent_index {index = index} ec ix = chained_same (λ i l. part_at predicates i (omega (arith, (sound cs ok).facts))) (λ h l. refl) (λ i l. refl) (subst (λ (k : ℕ). Indexed (part cs predicates) k index) ec ix)

    -- the same of the subjects
    part-subjects : every (λ i. ltb (get_or (part cs subjects) i 0) max_nodes) (fact_count cs) ≡ true
    part-subjects = every-all (λ i. ltb (get_or (part cs subjects) i 0) max_nodes) (fact_count cs) (λ i l.
        let i_lt : i < max_facts = omega (arith, (sound cs ok).facts) in
        ap (λ (v : ℕ). ltb v max_nodes) (part_at subjects i i_lt) ∙ lt-ltb (subject_at cs i) max_nodes (omega (arith, (sound cs ok).subject i l, (sound cs ok).nodes)))

    pub lent-subjects : {count : ℕ} → cell_count ≤ length cs → count ≡ fact_count cs → (count ≤ max_facts) × (count ≤ length (part cs subjects)) × (every (λ i. ltb (get_or (part cs subjects) i 0) max_nodes) count ≡ true)
    lent-subjects room ec = rw ec ((sound cs ok).facts, omega (arith, (sound cs ok).facts, part_length subjects (omega arith)), part-subjects)

    pub lent-subject_index : {count : ℕ} {index : List ℕ} → count ≡ fact_count cs → Chained (λ i. get_or (part cs subjects) i 0) count max_nodes subject_heads subject_nexts index → SubjectIndexed cs index
    lent-subject_index {index = index} ec ix = chained_same (λ i l. part_at subjects i (omega (arith, (sound cs ok).facts))) (λ h l. refl) (λ i l. refl) (subst (λ (k : ℕ). Chained (λ i. get_or (part cs subjects) i 0) k max_nodes subject_heads subject_nexts index) ec ix)

    pub lent-triples : {count : ℕ} → count ≡ fact_count cs → triples_of (part cs subjects) (part cs predicates) (part cs objects) count ≡ triples_at cs
    lent-triples ec = ap (triples_of (part cs subjects) (part cs predicates) (part cs objects)) ec ∙ part-triples (sound cs ok).facts
