-- What an entry says of a node, by its code, where what is known of its parts is enough.
use Prim.Native.Nat.{ℕ, ◌≤◌, ◌<◌}
use mathlib.Core.List.{List}
use mathlib.Core.Bool.{Bool, true, not, ◌&&◌, ◌||◌}
use mathlib.Core.Path.{◌≡◌, refl, sym, ap, ap₂, ◌∙◌}
use native.Mathlib.Omega.{arith}
use lib.Dec.{eqb, leb}
use lib.IntN.{ℤ}
use lib.ListN.{get_or-eq_default}
use borrow.Author.Tests.{leb-true, leb-false}
use Rattle.base.specs.Bounded.{◌⇒◌, every, size}
use Rattle.base.specs.Lists.{member}
use Rattle.base.proofs.Bools.{bool_cases, never_both}
use Rattle.base.proofs.Bounded.{every_ext, size_ext}
use Rattle.nodeset.specs.Words.{has, words_of}
use Rattle.nodeset.proofs.Sets.{has_of}
use Rattle.model.specs.Paths.{ends}
use Rattle.model.specs.Shapes.{within, conforms, only_listed}
use Rattle.model.specs.Limits.{max_nodes, max_forms}
use Rattle.tables.specs.Codes as codes
use Rattle.tables.specs.Layout.{node_count, form_code_at, form_first_at, form_second_at, form_third_at, form_fourth_at, root_at}
use Rattle.tables.specs.Entries.{Entry, entry_of}
use Rattle.tables.specs.Decode.{triples_at, graph_at, path_at, upper_of, items_at, shape_of, shape_at}
use Rattle.tables.specs.WellFormed.{entry_ok}
use Rattle.entries.specs.Tables.{Asked}
use Rattle.entries.proofs.Codes.{entry_by, right_by, conforms_by, nodes_le, sound_of}
use Rattle.verdict.specs.Memo.{yes_place, Ready}
use Rattle.verdict.specs.Parts.{ends_code, parts_code, first_by, second_by, has_parts, first_part, second_part, looks_at, Enough}
use Rattle.verdict.proofs.Memo.{known-right}
use Rattle.verdict.proofs.Parts.{first_by_lem, second_by_lem, parts_by, looks_here, looks_along, parts-lower}

-- there are no more codes
pub code_le : {cs index : List ℕ} {vs : List ℤ} {memo : List ℕ} {e : ℕ} → Ready cs index vs memo e → form_code_at cs e ≤ codes.form_onelang
unfolding entry_of entry_ok
code_le {cs} {index} {vs} {memo} {e} r = bool_cases (λ b. leb (form_code_at cs e) codes.form_onelang ≡ b → form_code_at cs e ≤ codes.form_onelang) (leb (form_code_at cs e) codes.form_onelang) (λ _ h. leb-true (form_code_at cs e) codes.form_onelang h)
    (λ _ h. absurd (never_both (right_by cs r.tables vs e r.entry (form_code_at cs e) refl) (ap (entry_ok cs e) (bad (form_code_at cs e) (leb-false (form_code_at cs e) codes.form_onelang h))))) refl
  where
    bad : (n : ℕ) → 21 ≤ n → entry_by cs r.tables vs e r.entry n ≡ Entry.bad
    bad n h = rw get_or-eq_default

module _ {cs index : List ℕ} {vs : List ℤ} {memo : List ℕ} {e v : ℕ} (k : Enough cs index vs memo e v) where
  pub asked_of : Asked cs index e v
  asked_of = record { tables = k.ready.tables; entry = k.ready.entry; node = k.node }

  low : (w : ℕ) → w < node_count cs → w < max_nodes
  low w l = omega (arith, nodes_le cs k.ready.tables)

  pub node_lt : v < max_nodes
  node_lt = low v k.node

  -- what the entry says of v
  abbrev holds : Bool
  holds = conforms (graph_at cs vs) (shape_at cs vs e) v

  abbrev by : ℕ → Entry
  by = entry_by cs k.ready.tables vs e k.ready.entry

  -- what it says, by its code
  means : (n : ℕ) → form_code_at cs e ≡ n → conforms (graph_at cs vs) (shape_of cs (by n) (shape_at cs vs)) v ≡ holds
  means n q = conforms_by cs k.ready.tables vs e k.ready.entry n q v

  -- ---- entries without parts
  pub holds-top : form_code_at cs e ≡ codes.form_true → true ≡ holds
  unfolding entry_of shape_of conforms
  holds-top q = means codes.form_true q

  pub holds-is : form_code_at cs e ≡ codes.form_is → (c : ℕ) → c ≡ form_first_at cs e → eqb v c ≡ holds
  unfolding entry_of shape_of conforms
  holds-is q c h = ap (eqb v) h ∙ means codes.form_is q

  pub holds-closed : form_code_at cs e ≡ codes.form_closed → only_listed (triples_at cs) (λ l. member l (items_at cs (form_first_at cs e) (form_second_at cs e))) v ≡ holds
  unfolding entry_of shape_of conforms graph_at
  holds-closed q = means codes.form_closed q

  -- ---- entries with parts: a and b are their numbers, as the code has them
  abbrev first_of : ℕ → ℕ
  first_of n = first_by n (root_at cs (form_first_at cs e)) (form_first_at cs e) (form_second_at cs e)

  -- what is known of a part at w, where the entry has code n and looks there
  first-known : (n : ℕ) → form_code_at cs e ≡ n → parts_code n ≡ true → (a w : ℕ) → a ≡ first_part cs e → w < node_count cs → looks_at cs e v w ≡ true → has memo (yes_place a w) ≡ conforms (graph_at cs vs) (shape_at cs vs (first_of n)) w
  first-known n q hp a w ea l h =
      ap (λ (a : ℕ). has memo (yes_place a w)) ea ∙ known-right cs vs memo (first_part cs e) w k.ready.right (low w l) (k.parts (parts_by cs e n q ∙ hp) w l h).0
      ∙ ap (λ (a : ℕ). conforms (graph_at cs vs) (shape_at cs vs a) w) (first_by_lem cs e n q)

  second-known : (n : ℕ) → form_code_at cs e ≡ n → parts_code n ≡ true → (b w : ℕ) → b ≡ second_part cs e → w < node_count cs → looks_at cs e v w ≡ true → has memo (yes_place b w) ≡ conforms (graph_at cs vs) (shape_at cs vs (second_by n (first_of n) (form_second_at cs e))) w
  second-known n q hp b w eb l h =
      ap (λ (b : ℕ). has memo (yes_place b w)) eb ∙ known-right cs vs memo (second_part cs e) w k.ready.right (low w l) (k.parts (parts_by cs e n q ∙ hp) w l h).1
      ∙ ap (λ (b : ℕ). conforms (graph_at cs vs) (shape_at cs vs b) w) (second_by_lem cs e n q)

  -- the numbers of the parts are below the limit of entries
  pub first_lt : (a : ℕ) → a ≡ first_part cs e → has_parts cs e ≡ true → a < max_forms
  first_lt a ea h = omega (arith, ea, (parts-lower cs e k.ready.tables k.ready.entry h).0, k.ready.entry, (sound_of cs k.ready.tables).forms)

  pub second_lt : (b : ℕ) → b ≡ second_part cs e → has_parts cs e ≡ true → b < max_forms
  second_lt b eb h = omega (arith, eb, (parts-lower cs e k.ready.tables k.ready.entry h).1, k.ready.entry, (sound_of cs k.ready.tables).forms)

  module _ (a : ℕ) (ea : a ≡ first_part cs e) where
    pub holds-shape : form_code_at cs e ≡ codes.form_shape → has memo (yes_place a v) ≡ holds
    unfolding entry_of shape_of
    holds-shape q = first-known 2 q refl a v ea k.node (looks_here cs e 2 q refl v) ∙ means codes.form_shape q

    pub holds_not : form_code_at cs e ≡ codes.form_not → not (has memo (yes_place a v)) ≡ holds
    unfolding entry_of shape_of conforms
    holds_not q = ap not (first-known 5 q refl a v ea k.node (looks_here cs e 5 q refl v)) ∙ means codes.form_not q

    module _ (b : ℕ) (eb : b ≡ second_part cs e) where
      pub holds_and : form_code_at cs e ≡ codes.form_and → (has memo (yes_place a v) && has memo (yes_place b v)) ≡ holds
      unfolding entry_of shape_of conforms
      holds_and q = ap₂ (λ (s t : Bool). s && t) (first-known 3 q refl a v ea k.node (looks_here cs e 3 q refl v)) (second-known 3 q refl b v eb k.node (looks_here cs e 3 q refl v)) ∙ means codes.form_and q

      pub holds_or : form_code_at cs e ≡ codes.form_or → (has memo (yes_place a v) || has memo (yes_place b v)) ≡ holds
      unfolding entry_of shape_of conforms
      holds_or q = ap₂ (λ (s t : Bool). s || t) (first-known 4 q refl a v ea k.node (looks_here cs e 4 q refl v)) (second-known 4 q refl b v eb k.node (looks_here cs e 4 q refl v)) ∙ means codes.form_or q

    -- the nodes that conform to the part, as a row of the memo
    module _ {ws : List ℕ} (ew : ws ≡ words_of (λ w. has memo (yes_place a w)) 16) where
      abbrev ended : ℕ → Bool
      ended w = ends (node_count cs) (triples_at cs) (path_at cs (form_first_at cs e)) v w

      row-known : (n : ℕ) → form_code_at cs e ≡ n → parts_code n ≡ true → ends_code n ≡ true → (w : ℕ) → w < node_count cs → ended w ≡ true → has ws w ≡ conforms (graph_at cs vs) (shape_at cs vs (first_of n)) w
      row-known n q hp he w l h = has_of (λ w. has memo (yes_place a w)) 16 ew w (low w l) ∙ first-known n q hp a w ea l (looks_along cs e n q he v w ∙ h)

      pub row_low : (w : ℕ) → w < max_nodes → has ws w ≡ true → w < node_count cs
      row_low w l h = k.ready.right.low a w l (sym (has_of (λ w. has memo (yes_place a w)) 16 ew w l) ∙ h)

      pub holds-count : form_code_at cs e ≡ codes.form_count → within (form_third_at cs e) (upper_of (form_fourth_at cs e)) (size (λ w. ended w && has ws w) (node_count cs)) ≡ holds
      unfolding entry_of shape_of conforms graph_at
      holds-count q =
          ap (within (form_third_at cs e) (upper_of (form_fourth_at cs e))) (size_ext (λ w. ended w && has ws w) (λ w. ended w && conforms (graph_at cs vs) (shape_at cs vs (form_second_at cs e)) w) (node_count cs) (λ w l.
          bool_cases (λ t. ended w ≡ t → (t && has ws w) ≡ (t && conforms (graph_at cs vs) (shape_at cs vs (form_second_at cs e)) w)) (ended w) (λ _ h. row-known codes.form_count q refl refl w l h) (λ _ h. refl) refl))
          ∙ means codes.form_count q

      pub holds-all : form_code_at cs e ≡ codes.form_all → every (λ w. ended w ⇒ has ws w) (node_count cs) ≡ holds
      unfolding entry_of shape_of conforms graph_at
      holds-all q =
          every_ext (λ w. ended w ⇒ has ws w) (λ w. ended w ⇒ conforms (graph_at cs vs) (shape_at cs vs (form_second_at cs e)) w) (node_count cs) (λ w l.
          bool_cases (λ t. ended w ≡ t → (t ⇒ has ws w) ≡ (t ⇒ conforms (graph_at cs vs) (shape_at cs vs (form_second_at cs e)) w)) (ended w) (λ _ h. row-known codes.form_all q refl refl w l h) (λ _ h. refl) refl)
          ∙ means codes.form_all q
