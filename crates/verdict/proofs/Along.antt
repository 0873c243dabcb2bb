-- The nodes that conform to an entry that looks along a path, from the sets that are found of all nodes at once.
use Prim.Native.Nat.{ℕ, ◌+◌, ◌*◌, ◌-◌, ◌≤◌, ◌<◌}
use mathlib.Core.List.{List}
use mathlib.Core.Bool.{Bool, true, false, ◌&&◌}
use mathlib.Core.Path.{◌≡◌, refl, sym, ap, ◌∙◌}
use native.Mathlib.Omega.{arith}
use lib.Dec.{ltb}
use lib.IntN.{ℤ}
use lib.ListN.{drop}
use borrow.Author.Tests.{lt-ltb}
use Rattle.base.specs.Bounded.{◌⇒◌, every, size}
use Rattle.base.proofs.Bools.{bool_cases}
use Rattle.base.proofs.Bounded.{every_ext, size_ext, size_beyond}
use Rattle.nodeset.specs.Words.{has, words_of, nodes_of}
use Rattle.nodeset.proofs.Sets.{has_of, has-words_of, has-drop}
use Rattle.model.specs.Paths.{predicate, along, ends, ends_of}
use Rattle.model.specs.Shapes.{within, subset, from, objects, starts, conforms, unlike_langs}
use Rattle.model.specs.Limits.{max_nodes}
use Rattle.tables.specs.Codes as codes
use Rattle.tables.specs.Layout.{node_count, form_code_at, form_first_at, form_second_at, form_third_at, form_fourth_at}
use Rattle.tables.specs.Entries.{entry_of}
use Rattle.tables.specs.Decode.{triples_at, graph_at, path_at, end_at, upper_of, shape_of, shape_at, term_at}
use Rattle.paths.specs.Ends.{end_in}
use Rattle.paths.specs.declared.End as paths
use Rattle.paths.specs.declared.End.TheVariants.{Path}
use Rattle.entries.specs.Tables.{end_for}
use Rattle.entries.proofs.Codes.{conforms_by, nodes_le}
use Rattle.entries.proofs.Ends.{end_in_lem}
use Rattle.stepsets.specs.Conditions.{holds_of, tagged}
use Rattle.stepsets.specs.declared.Condition.{Condition}
use Rattle.stepsets.specs.declared.Condition.TheVariants.{Count, Every, Equal, Apart, Less, LessEq, OneLang}
use Rattle.stepsets.proofs.Conditions.{one-tagged}
use Rattle.stepsets.proofs.Rows.{ends_low}
use Rattle.verdict.specs.Memo.{yes_place, Ready}
use Rattle.verdict.specs.Parts.{parts_code, first_part, PartsKnown, ConformingSet, Enough}
use Rattle.verdict.proofs.Parts.{first_by_lem, parts_by, parts-lower}
use Rattle.verdict.proofs.Settling.{entry_lt}
use Rattle.verdict.proofs.Holds.{holds-count, holds-all}

module _ {cs index : List ℕ} {vs : List ℤ} {memo : List ℕ} {e : ℕ} (r : Ready cs index vs memo e) where
  -- the set of the nodes that have p tells, where p does
  tells : (p : ℕ → Bool) {ws : List ℕ} → ws ≡ nodes_of p (node_count cs) → ((v : ℕ) → v < node_count cs → PartsKnown cs e memo v → p v ≡ conforms (graph_at cs vs) (shape_at cs vs e) v) → ConformingSet cs vs memo e ws
  unfolding nodes_of
  tells p ew h v l k = has_of (λ v. ltb v (node_count cs) && p v) 16 ew v (omega (arith, nodes_le cs r.tables)) ∙ ap (λ (b : Bool). b && p v) (lt-ltb v (node_count cs) l) ∙ h v l k

  enough : (v : ℕ) → v < node_count cs → PartsKnown cs e memo v → Enough cs index vs memo e v
  enough v l k = record { ready = r; node = l; parts = k }

  -- the word where the part's row begins
  pub part_room : (n : ℕ) → form_code_at cs e ≡ n → parts_code n ≡ true → first_part cs e ≡ form_second_at cs e → {j : ℕ} → j ≡ 2 * form_second_at cs e → j < 65536
  part_room n q h f ej = omega (arith, ej, f, (parts-lower cs e r.tables r.entry (parts_by cs e n q ∙ h)).0, entry_lt r)

  -- ---- `count` and `all`: the part's row of the memo, which begins at word 16 * j
  module _ (n : ℕ) (q : form_code_at cs e ≡ n) (f : first_part cs e ≡ form_second_at cs e) (j : ℕ) (ej : j ≡ 2 * form_second_at cs e) where
    abbrev part_row : List ℕ
    part_row = words_of (λ w. has memo (yes_place (first_part cs e) w)) 16

    part-has : (w : ℕ) → w < node_count cs → has (drop (16 * j) memo) w ≡ has part_row w
    part-has w l =
        let a : ℕ = first_part cs e in
        has-drop memo (16 * j) w
        ∙ ap (has memo) (let z : 16 * j * 64 + w ≡ 32 * a * 64 + w = omega (arith, ej, f) in z)
        ∙ sym (has-words_of (λ w. has memo (yes_place a w)) 16 w (omega (arith, nodes_le cs r.tables)))

    module _ (v : ℕ) (l : v < node_count cs) where
      abbrev ended : ℕ → Bool
      ended w = ends (node_count cs) (triples_at cs) (path_at cs (form_first_at cs e)) v w

      none : (w : ℕ) → node_count cs ≤ w → (ended w && has (drop (16 * j) memo) w) ≡ false
      unfolding ends_of
      none w h = bool_cases (λ t. ended w ≡ t → (t && has (drop (16 * j) memo) w) ≡ false) (ended w) (λ _ k. absurd (omega (arith, ends_low cs index r.tables (along (path_at cs (form_first_at cs e))) v w l k))) (λ _ k. refl) refl

      part-size : size (λ w. ended w && has (drop (16 * j) memo) w) max_nodes ≡ size (λ w. ended w && has part_row w) (node_count cs)
      part-size =
          ap (size (λ w. ended w && has (drop (16 * j) memo) w)) (let z : max_nodes ≡ node_count cs + (max_nodes - node_count cs) = omega (arith, nodes_le cs r.tables) in z)
          ∙ size_beyond (λ w. ended w && has (drop (16 * j) memo) w) (node_count cs) (max_nodes - node_count cs) none
          ∙ size_ext (λ w. ended w && has (drop (16 * j) memo) w) (λ w. ended w && has part_row w) (node_count cs) (λ w m. ap (λ (b : Bool). ended w && b) (part-has w m))

      part-every : every (λ w. ended w ⇒ has (drop (16 * j) memo) w) (node_count cs) ≡ every (λ w. ended w ⇒ has part_row w) (node_count cs)
      part-every = every_ext (λ w. ended w ⇒ has (drop (16 * j) memo) w) (λ w. ended w ⇒ has part_row w) (node_count cs) (λ w m. ap (λ (b : Bool). ended w ⇒ b) (part-has w m))

  -- what the code asks of each node, where p, l, lo, hi and j are the operands as it reads them
  module _ {p : ℕ} (ep : p ≡ form_first_at cs e) where
    module _ {j : ℕ} (ej : j ≡ 2 * form_second_at cs e) where
      abbrev on_path : Condition → ℕ → Bool
      on_path condition v = holds_of cs vs condition (from (graph_at cs vs) (path_at cs p) v) (has (drop (16 * j) memo)) v

      pub count_tells : {lo hi : ℕ} → lo ≡ form_third_at cs e → hi ≡ form_fourth_at cs e → form_code_at cs e ≡ codes.form_count → {ws : List ℕ} → ws ≡ nodes_of (on_path (Count lo hi)) (node_count cs) → ConformingSet cs vs memo e ws
      unfolding holds_of graph_at
      count_tells {lo} {hi} el eh q ew = tells (on_path (Count lo hi)) ew λ v l k.
          (λ i. within (el i) (upper_of (eh i)) (size (λ w. ends (node_count cs) (triples_at cs) (path_at cs (ep i)) v w && has (drop (16 * j) memo) w) max_nodes))
          ∙ ap (within (form_third_at cs e) (upper_of (form_fourth_at cs e))) (part-size 13 q (first_by_lem cs e 13 q) j ej v l)
          ∙ holds-count (enough v l k) (first_part cs e) refl refl q

      pub all_tells : form_code_at cs e ≡ codes.form_all → {ws : List ℕ} → ws ≡ nodes_of (on_path Every) (node_count cs) → ConformingSet cs vs memo e ws
      unfolding holds_of graph_at subset
      all_tells q ew = tells (on_path Every) ew λ v l k.
          ap (λ (p : ℕ). every (λ w. ends (node_count cs) (triples_at cs) (path_at cs p) v w ⇒ has (drop (16 * j) memo) w) (node_count cs)) ep
          ∙ part-every 14 q (first_by_lem cs e 14 q) j ej v l
          ∙ holds-all (enough v l k) (first_part cs e) refl refl q

    -- ---- `equal`, `apart`, `less`, `lesseq`: the ends and the objects of link l
    module _ {l : ℕ} (el : l ≡ form_second_at cs e) where
      abbrev on_ends : paths.End → Condition → ℕ → Bool
      on_ends end condition v = holds_of cs vs condition (starts (graph_at cs vs) (end_in cs end) v) (objects (graph_at cs vs) l v) v

      -- the same with the operands as the tables have them: END, and a path entry
      by_end : {end : paths.End} → end ≡ end_for p → (condition : Condition) (v : ℕ) → on_ends end condition v ≡ holds_of cs vs condition (ends_of (node_count cs) (triples_at cs) (end_at cs (form_first_at cs e)) v) (ends (node_count cs) (triples_at cs) (predicate (form_second_at cs e)) v) v
      unfolding graph_at
      by_end ee condition v = λ i. holds_of cs vs condition (ends_of (node_count cs) (triples_at cs) ((ap (end_in cs) ee ∙ end_in_lem cs p ∙ ap (end_at cs) ep) i) v) (ends (node_count cs) (triples_at cs) (predicate (el i)) v) v

      by_path : (condition : Condition) (v : ℕ) → on_ends (Path p) condition v ≡ holds_of cs vs condition (ends (node_count cs) (triples_at cs) (path_at cs (form_first_at cs e)) v) (ends (node_count cs) (triples_at cs) (predicate (form_second_at cs e)) v) v
      unfolding graph_at end_in ends_of
      by_path condition v = λ i. holds_of cs vs condition (ends (node_count cs) (triples_at cs) (path_at cs (ep i)) v) (ends (node_count cs) (triples_at cs) (predicate (el i)) v) v

      pub equal_tells : {end : paths.End} → end ≡ end_for p → form_code_at cs e ≡ codes.form_equal → {ws : List ℕ} → ws ≡ nodes_of (on_ends end Equal) (node_count cs) → ConformingSet cs vs memo e ws
      unfolding holds_of entry_of shape_of conforms graph_at
      equal_tells {end} ee q ew = tells (on_ends end Equal) ew (λ v m k. by_end ee Equal v ∙ conforms_by cs r.tables vs e r.entry 15 q v)

      pub apart_tells : {end : paths.End} → end ≡ end_for p → form_code_at cs e ≡ codes.form_apart → {ws : List ℕ} → ws ≡ nodes_of (on_ends end Apart) (node_count cs) → ConformingSet cs vs memo e ws
      unfolding holds_of entry_of shape_of conforms graph_at
      apart_tells {end} ee q ew = tells (on_ends end Apart) ew (λ v m k. by_end ee Apart v ∙ conforms_by cs r.tables vs e r.entry 16 q v)

      pub less_tells : form_code_at cs e ≡ codes.form_less → {ws : List ℕ} → ws ≡ nodes_of (on_ends (Path p) Less) (node_count cs) → ConformingSet cs vs memo e ws
      unfolding holds_of entry_of shape_of conforms graph_at
      less_tells q ew = tells (on_ends (Path p) Less) ew (λ v m k. by_path Less v ∙ conforms_by cs r.tables vs e r.entry 18 q v)

      pub lesseq_tells : form_code_at cs e ≡ codes.form_lesseq → {ws : List ℕ} → ws ≡ nodes_of (on_ends (Path p) LessEq) (node_count cs) → ConformingSet cs vs memo e ws
      unfolding holds_of entry_of shape_of conforms graph_at
      lesseq_tells q ew = tells (on_ends (Path p) LessEq) ew (λ v m k. by_path LessEq v ∙ conforms_by cs r.tables vs e r.entry 19 q v)

    pub lang_tells : form_code_at cs e ≡ codes.form_onelang → {ws : List ℕ} → ws ≡ nodes_of (λ v. holds_of cs vs OneLang (from (graph_at cs vs) (path_at cs p) v) (tagged cs) v) (node_count cs) → ConformingSet cs vs memo e ws
    unfolding entry_of shape_of conforms graph_at
    lang_tells q ew = tells (λ v. holds_of cs vs OneLang (ends (node_count cs) (triples_at cs) (path_at cs p) v) (tagged cs) v) ew (λ v m k.
        one-tagged cs vs (ends (node_count cs) (triples_at cs) (path_at cs p) v) v
        ∙ ap (λ (p : ℕ). unlike_langs (term_at cs vs) (node_count cs) (ends (node_count cs) (triples_at cs) (path_at cs p) v)) ep ∙ conforms_by cs r.tables vs e r.entry 20 q v)
