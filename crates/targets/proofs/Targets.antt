-- What a target selects, by the facts of a link from a set of nodes.
use Prim.Native.Nat.{ℕ, ◌<◌}
use mathlib.Core.Bool.{Bool, true, false, ◌&&◌, ◌||◌}
use mathlib.Core.List.{List, []}
use mathlib.Core.Option.{Option}
use mathlib.Core.Path.{◌≡◌, refl, sym, ap, ap₂, ◌∙◌}
use native.Mathlib.Omega.{arith}
use lib.Dec.{eqb, ltb}
use lib.ListN.{replicate}
use borrow.Author.Tests.{eq-eqb, eqb-true, lt-ltb}
use Rattle.base.specs.Bounded.{some}
use Rattle.base.proofs.Bools.{same_test, and_left, and_right, and_both}
use Rattle.base.proofs.Bounded.{some_at, some_ext, some_witness}
use Rattle.base.proofs.Lists.{any-values}
use Rattle.nodeset.specs.Words.{has, words_of, nodes_of}
use Rattle.nodeset.proofs.Sets.{words_of_ext, has_of, has_zeros}
use Rattle.model.specs.declared.LinkNo.{LinkNo}
use Rattle.model.specs.Graph.{rdf_type, has_triple}
use Rattle.model.specs.Paths.{predicate, along, ends, ends_of}
use Rattle.model.specs.Rules.{subjects_of, objects_of, target_class, selects}
use Rattle.tables.specs.Layout.{node_count, fact_count, subject_at, predicate_at, object_at}
use Rattle.tables.specs.Decode.{triple_at, triples_at, graph_at}
use Rattle.tables.proofs.WellFormed.{sound}
use Rattle.paths.specs.Facts.{Tables}
use Rattle.paths.specs.Ends.{end_in}
use Rattle.paths.specs.Images.{converse_if, image, with_image}
use Rattle.paths.specs.declared.End.TheVariants.{Link}
use Rattle.paths.proofs.Nodes.{table_nodes}
use Rattle.paths.proofs.Repeats.{either_nodes}
use Rattle.targets.specs.Classes.{sub_classes}
use Rattle.targets.specs.Targets.{link_ends}
use Rattle.targets.proofs.Classes.{few, class_path_lem}

module _ (cs index : List ℕ) (t : Tables cs index) where
  abbrev n : ℕ
  n = node_count cs

  -- the pairs of a link
  abbrev by : ℕ → ℕ → ℕ → Bool
  by l = ends n (triples_at cs) (predicate l)

  -- ---- what the words become: only nodes are led to
  pub ends_found : (l : LinkNo) (back : Bool) (from : List ℕ) {words : List ℕ} → words ≡ with_image n (converse_if back (ends_of n (triples_at cs) (end_in cs (Link l)))) from (replicate 16 0) → words ≡ nodes_of (link_ends cs l.0 back (has from)) n
  unfolding with_image nodes_of link_ends image end_in ends_of
  ends_found l back from e = e ∙ words_of_ext (λ v. has (replicate 16 0) v || p v) (λ v. ltb v n && p v) 16 (λ v _. ap (λ (b : Bool). b || p v) (has_zeros 16 v) ∙ same_test (p v) (ltb v n && p v)
      (λ h. and_both (ltb v n) (p v) (lt-ltb v n (node v h)) h) (λ h. and_right (ltb v n) (p v) h))
    where
      p : ℕ → Bool
      p v = some (λ d. has from d && converse_if back (by l.0) d v) n

      node : (v : ℕ) → some (λ d. has from d && converse_if back (by l.0) d v) n ≡ true → v < n
      node v h = let (d, ld, q) = some_witness (λ d. has from d && converse_if back (by l.0) d v) n h in (either_nodes back (by l.0) n (table_nodes cs index t (along (predicate l.0))) d v (and_right (has from d) (converse_if back (by l.0) d v) q)).0 ld

  -- ---- From and Into: a fact of the link, to or from any node
  -- where fact i begins and where it ends; the other way where back
  abbrev near : Bool → ℕ → ℕ
  near true i = object_at cs i
  near false i = subject_at cs i

  abbrev far : Bool → ℕ → ℕ
  far true i = subject_at cs i
  far false i = object_at cs i

  near_low : (back : Bool) (i : ℕ) → i < fact_count cs → near back i < n
  near_low true i li = (sound cs t.ok).object i li
  near_low false i li = (sound cs t.ok).subject i li

  -- a fact of link l from v to w
  abbrev between : ℕ → ℕ → ℕ → ℕ → Bool
  between l v w i = eqb (subject_at cs i) v && (eqb (predicate_at cs i) l && eqb (object_at cs i) w)

  by_fact : (l v w : ℕ) → by l v w ≡ some (between l v w) (fact_count cs)
  unfolding ends has_triple triples_at triple_at
  by_fact l v w = any-values (triple_at cs) (λ t. eqb t.subject v && (eqb t.predicate l && eqb t.object w)) (fact_count cs)

  -- a fact leads from where it begins to where it ends
  fact_at : (back : Bool) (i : ℕ) → i < fact_count cs → converse_if back (by (predicate_at cs i)) (near back i) (far back i) ≡ true
  fact_at back i li = go back (by_fact (predicate_at cs i) (subject_at cs i) (object_at cs i) ∙ some_at (between (predicate_at cs i) (subject_at cs i) (object_at cs i)) (fact_count cs) i li (and_both (eqb (subject_at cs i) (subject_at cs i)) _ (eq-eqb (subject_at cs i) (subject_at cs i) refl) (and_both (eqb (predicate_at cs i) (predicate_at cs i)) _ (eq-eqb (predicate_at cs i) (predicate_at cs i) refl) (eq-eqb (object_at cs i) (object_at cs i) refl))))
    where
      go : (back : Bool) → by (predicate_at cs i) (subject_at cs i) (object_at cs i) ≡ true → converse_if back (by (predicate_at cs i)) (near back i) (far back i) ≡ true
      go true e = e
      go false e = e

  -- and what is led to is where some fact ends
  fact_of : (back : Bool) (l v w : ℕ) → converse_if back (by l) v w ≡ true → (i : ℕ) × (i < fact_count cs) × (far back i ≡ w) × (predicate_at cs i ≡ l)
  fact_of true l v w e = let (i, li, q) = some_witness (between l w v) (fact_count cs) (sym (by_fact l w v) ∙ e) in (i, li, eqb-true (subject_at cs i) w (and_left (eqb (subject_at cs i) w) (eqb (predicate_at cs i) l && eqb (object_at cs i) v) q), eqb-true (predicate_at cs i) l (and_left (eqb (predicate_at cs i) l) (eqb (object_at cs i) v) (and_right (eqb (subject_at cs i) w) (eqb (predicate_at cs i) l && eqb (object_at cs i) v) q)))
  fact_of false l v w e =
      let (i, li, q) = some_witness (between l v w) (fact_count cs) (sym (by_fact l v w) ∙ e) in
      let r = and_right (eqb (subject_at cs i) v) (eqb (predicate_at cs i) l && eqb (object_at cs i) w) q in
      (i, li, eqb-true (object_at cs i) w (and_right (eqb (predicate_at cs i) l) (eqb (object_at cs i) w) r), eqb-true (predicate_at cs i) l (and_left (eqb (predicate_at cs i) l) (eqb (object_at cs i) w) r))

  module _ (l : ℕ) {all : List ℕ} (whole : all ≡ words_of (λ d. ltb d n) 16) where
    -- from all nodes: where some fact of the link ends
    all-ends : (back : Bool) (v : ℕ) → link_ends cs l back (has all) v ≡ some (λ i. eqb (far back i) v && eqb (predicate_at cs i) l) (fact_count cs)
    unfolding link_ends image
    all-ends back v = same_test (some (λ d. has all d && converse_if back (by l) d v) n) (some (λ i. eqb (far back i) v && eqb (predicate_at cs i) l) (fact_count cs))
        (λ e.
        let (d, _, q) = some_witness (λ d. has all d && converse_if back (by l) d v) n e in
        let (i, li, f, p) = fact_of back l d v (and_right (has all d) (converse_if back (by l) d v) q) in
        some_at (λ i. eqb (far back i) v && eqb (predicate_at cs i) l) (fact_count cs) i li (and_both (eqb (far back i) v) (eqb (predicate_at cs i) l) (eq-eqb (far back i) v f) (eq-eqb (predicate_at cs i) l p)))
        (λ e.
        let (i, li, q) = some_witness (λ i. eqb (far back i) v && eqb (predicate_at cs i) l) (fact_count cs) e in
        let d : ℕ = near back i in
        let ld : d < n = near_low back i li in
        let f : far back i ≡ v = eqb-true (far back i) v (and_left (eqb (far back i) v) (eqb (predicate_at cs i) l) q) in
        let p : predicate_at cs i ≡ l = eqb-true (predicate_at cs i) l (and_right (eqb (far back i) v) (eqb (predicate_at cs i) l) q) in
        some_at (λ d. has all d && converse_if back (by l) d v) n d ld (and_both (has all d) (converse_if back (by l) d v) (has_of (λ d. ltb d n) 16 whole d (omega (arith, few cs index t)) ∙ lt-ltb d n ld) (ap₂ (λ (m w : ℕ). converse_if back (by m) d w) (sym p) (sym f) ∙ fact_at back i li)))

  module _ (sub : Option ℕ) where
    module _ (l : ℕ) {all : List ℕ} (whole : all ≡ words_of (λ d. ltb d n) 16) where
      pub from_all : (v : ℕ) → link_ends cs l true (has all) v ≡ selects sub (graph_at cs []) (subjects_of l) v
      unfolding selects graph_at triples_at triple_at
      from_all v = all-ends l whole true v ∙ sym (any-values (triple_at cs) (λ t. eqb t.subject v && eqb t.predicate l) (fact_count cs))

      pub into_all : (v : ℕ) → link_ends cs l false (has all) v ≡ selects sub (graph_at cs []) (objects_of l) v
      unfolding selects graph_at triples_at triple_at
      into_all v = all-ends l whole false v ∙ sym (any-values (triple_at cs) (λ t. eqb t.object v && eqb t.predicate l) (fact_count cs))

    -- ---- Typed: a fact by `a` to the class or one under it
    pub typed_all : (c : ℕ) → c < n → {from : List ℕ} → from ≡ words_of (sub_classes cs sub c) 16 → (v : ℕ) → link_ends cs rdf_type true (has from) v ≡ selects sub (graph_at cs []) (target_class c) v
    unfolding link_ends image selects graph_at
    typed_all c lc {from} e v = some_ext (λ d. has from d && by rdf_type v d) (λ d. sub_classes cs sub c d && by rdf_type v d) n (λ d ld. ap (λ (b : Bool). b && by rdf_type v d) (has_of (sub_classes cs sub c) 16 e d (omega (arith, few cs index t)))) ∙ class_path_lem cs index t c lc sub v
