-- The classes under a class, by a search along the rows of a link that are read backwards; and the nodes from which `a` leads to one of them.
use Prim.Native.Nat.{ℕ, ◌*◌, ◌≤◌, ◌<◌}
use mathlib.Core.Bool.{Bool, true, ◌&&◌, and_comm}
use mathlib.Core.List.{List}
use mathlib.Core.Option.{Option}
use mathlib.Core.Path.{◌≡◌, refl, sym, ap, ◌∙◌}
use native.Mathlib.Omega.{arith}
use lib.Dec.{ltb}
use lib.ListN.{length, replicate, length-replicate}
use borrow.Author.Tests.{ltb-true, ltb-false}
use Rattle.base.specs.Bounded.{some}
use Rattle.base.proofs.Bools.{bool_cases, never_true}
use Rattle.base.proofs.Bounded.{some_ext, some_eq}
use Rattle.nodeset.specs.Words.{words_of}
use Rattle.nodeset.proofs.Sets.{words_of_ext}
use Rattle.closure.specs.Rows.{leads, rows_of, Within}
use Rattle.closure.proofs.Rows.{leads-nodes}
use Rattle.model.specs.declared.LinkNo.{LinkNo}
use Rattle.model.specs.Graph.{rdf_type}
use Rattle.model.specs.Limits.{max_nodes}
use Rattle.model.specs.Paths.{predicate, along, ends, ends_of}
use Rattle.model.specs.Repeats.{star}
use Rattle.model.specs.Rules.{class_path}
use Rattle.model.proofs.Repeats.{star_ext, star_converse, star-nodes}
use Rattle.tables.specs.Layout.{node_count}
use Rattle.tables.specs.Decode.{triples_at}
use Rattle.tables.proofs.WellFormed.{sound}
use Rattle.paths.specs.Facts.{Tables}
use Rattle.paths.specs.Ends.{end_in, end_known}
use Rattle.paths.specs.Images.{converse_if}
use Rattle.paths.specs.declared.End.TheVariants.{Link}
use Rattle.paths.proofs.Nodes.{table_nodes}
use Rattle.rows.proofs.Rows.{filled-room}
use Rattle.reach.proofs.Levels.{star-node}
use Rattle.targets.specs.Classes.{sub_classes}

-- ---- a link as an END
pub link-known : (cs : List ℕ) (l : LinkNo) → end_known cs (Link l) ≡ true
unfolding end_known
link-known cs l = refl

-- what empty rows for all nodes become, filled from its facts, which are read backwards
pub link-rows : (cs : List ℕ) (l : LinkNo) {rows now : List ℕ} → rows ≡ replicate (16 * max_nodes) 0 → now ≡ rows_of (node_count cs) (converse_if true (ends_of (node_count cs) (triples_at cs) (end_in cs (Link l)))) (length rows) → now ≡ rows_of (node_count cs) (converse_if true (ends (node_count cs) (triples_at cs) (predicate l.0))) (16 * max_nodes)
unfolding end_in ends_of
link-rows cs l z q = q ∙ ap (rows_of (node_count cs) (converse_if true (ends (node_count cs) (triples_at cs) (predicate l.0)))) (ap length z ∙ length-replicate {A = ℕ} (16 * max_nodes) 0)

module _ (cs index : List ℕ) (t : Tables cs index) where
  abbrev n : ℕ
  n = node_count cs

  pub few : n ≤ max_nodes
  few = (sound cs t.ok).nodes

  -- the pairs of a link
  abbrev by : ℕ → ℕ → ℕ → Bool
  by l = ends n (triples_at cs) (predicate l)

  -- ---- the classes under a class
  module _ (l : ℕ) {rows : List ℕ} (r : rows ≡ rows_of n (converse_if true (by l)) (16 * max_nodes)) where
    pub search_room : (n ≤ max_nodes) × (16 * n ≤ length rows) × Within n rows
    search_room = filled-room n (converse_if true (by l)) few r

    -- what the search reaches is what leads there; past the nodes neither has anything
    reached : (c : ℕ) → c < n → (d : ℕ) → d < max_nodes → star (leads rows) n c d ≡ star (by l) n d c
    unfolding ends_of
    reached c lc d ld = bool_cases (λ b. ltb d n ≡ b → star (leads rows) n c d ≡ star (by l) n d c) (ltb d n)
        (λ _ q. star_ext (leads rows) (converse_if true (by l)) n (leads-nodes n (converse_if true (by l)) (16 * max_nodes) r few (omega (arith, few))) c d lc ∙ star_converse n (by l) c d lc (ltb-true d n q))
        (λ _ q.
        let past : n ≤ d = ltb-false d n q in
        never_true (star (leads rows) n c d) (λ e. let z : d < n = star-node rows n c few search_room.2 lc d ld e in let f : ⊥ = omega arith in f)
        ∙ sym (never_true (star (by l) n d c) (λ e. let z : d < n = (star-nodes (by l) n (table_nodes cs index t (along (predicate l))) d c e).1 lc in let f : ⊥ = omega arith in f)))
        refl

    pub under-found : (c : ℕ) → c < n → words_of (star (leads rows) n c) 16 ≡ words_of (sub_classes cs (Option.some l) c) 16
    unfolding sub_classes ends
    under-found c lc = words_of_ext (star (leads rows) n c) (λ d. star (by l) n d c) 16 (λ d ld. reached c lc d ld)

  -- ---- the nodes from which `a` leads to one of them
  pub class_path_lem : (c : ℕ) → c < n → (sub : Option ℕ) (v : ℕ) → some (λ d. sub_classes cs sub c d && by rdf_type v d) n ≡ ends n (triples_at cs) (class_path sub) v c
  unfolding sub_classes class_path ends
  class_path_lem c lc Option.none v = some_eq (λ d. by rdf_type v d) c n lc
  class_path_lem c lc (Option.some l) v = some_ext (λ d. star (by l) n d c && by rdf_type v d) (λ d. by rdf_type v d && star (by l) n d c) n (λ d _. and_comm (star (by l) n d c) (by rdf_type v d))
