-- The parts of an entry come before it; and what is known of them stays known.
use Prim.Native.Nat.{ℕ, ◌≤◌, ◌<◌}
use mathlib.Core.List.{List, []}
use mathlib.Core.Bool.{Bool, true, false, ◌&&◌}
use mathlib.Core.Logic.{⊎_elim}
use mathlib.Core.Path.{◌≡◌, refl, sym, ap, ap₂, ◌∙◌, subst}
use native.Mathlib.Omega.{arith}
use lib.Dec.{eqb, ltb, leb}
use borrow.Author.Tests.{eq-eqb, eqb-true, eqb-false, ltb-true, leb-true}
use Rattle.base.proofs.Bools.{bool_cases, and_left, and_right, or_cases, two-below}
use Rattle.nodeset.specs.Words.{has, words_of}
use Rattle.nodeset.proofs.Sets.{has_of}
use Rattle.base.proofs.Bounded.{some_at}
use Rattle.model.specs.Limits.{max_count}
use Rattle.model.specs.Paths.{ends}
use Rattle.tables.specs.Codes as codes
use Rattle.tables.specs.Layout.{node_count, path_count, shape_count, form_count, form_code_at, form_first_at, form_second_at, form_third_at, form_fourth_at, root_at}
use Rattle.tables.specs.Entries.{entry_of}
use Rattle.tables.specs.Decode.{triples_at, path_at}
use Rattle.tables.specs.WellFormed.{entry_ok, upper_ok}
use Rattle.paths.specs.Images.{image}
use Rattle.paths.specs.Facts.{Tables}
use Rattle.entries.proofs.Codes.{right_by, nodes_le, count_path, all_path}
use Rattle.verdict.specs.Parts.{ends_code, parts_code, first_by, second_by, looks_at_ends, has_parts, first_part, second_part, looks_at}

-- a code either is n or is not
case : (k n : ℕ) {A : Type 0} → (k ≡ n → A) → ((k ≡ n → ⊥) → A) → A
case k n {A} f g = bool_cases (λ t. eqb k n ≡ t → A) (eqb k n) (λ _ h. f (eqb-true k n h)) (λ _ h. g (eqb-false k n h)) refl

module _ (cs : List ℕ) (e : ℕ) where
  -- the parts, by code
  pub first_by_lem : (n : ℕ) → form_code_at cs e ≡ n → first_part cs e ≡ first_by n (root_at cs (form_first_at cs e)) (form_first_at cs e) (form_second_at cs e)
  unfolding first_part
  first_by_lem n q = ap (λ (k : ℕ). first_by k (root_at cs (form_first_at cs e)) (form_first_at cs e) (form_second_at cs e)) q

  pub second_by_lem : (n : ℕ) → form_code_at cs e ≡ n → second_part cs e ≡ second_by n (first_by n (root_at cs (form_first_at cs e)) (form_first_at cs e) (form_second_at cs e)) (form_second_at cs e)
  unfolding second_part
  second_by_lem n q = ap (λ (k : ℕ). second_by k (first_part cs e) (form_second_at cs e)) q ∙ ap (λ (f : ℕ). second_by n f (form_second_at cs e)) (first_by_lem n q)

  pub parts_by : (n : ℕ) → form_code_at cs e ≡ n → has_parts cs e ≡ parts_code n
  unfolding has_parts
  parts_by n q = ap parts_code q

  ends_by : (n : ℕ) → form_code_at cs e ≡ n → looks_at_ends cs e ≡ ends_code n
  unfolding looks_at_ends
  ends_by n q = ap ends_code q

  -- where it looks
  pub looks_here : (n : ℕ) → form_code_at cs e ≡ n → ends_code n ≡ false → (v : ℕ) → looks_at cs e v v ≡ true
  unfolding looks_at
  looks_here n q h v = ap (λ (b : Bool). mathlib.Core.Bool.cond b (ends (node_count cs) (triples_at cs) (path_at cs (form_first_at cs e)) v v) (eqb v v)) (ends_by n q ∙ h) ∙ eq-eqb v v refl

  pub looks_along : (n : ℕ) → form_code_at cs e ≡ n → ends_code n ≡ true → (v w : ℕ) → looks_at cs e v w ≡ ends (node_count cs) (triples_at cs) (path_at cs (form_first_at cs e)) v w
  unfolding looks_at
  looks_along n q h v w = ap (λ (b : Bool). mathlib.Core.Bool.cond b (ends (node_count cs) (triples_at cs) (path_at cs (form_first_at cs e)) v w) (eqb v w)) (ends_by n q ∙ h)

  -- both parts come before the entry
  module _ {index : List ℕ} (t : Tables cs index) (l : e < form_count cs) where
    abbrev Lower : Type 0
    Lower = (first_part cs e < e) × (second_part cs e < e)

    lower : (n a b : ℕ) → form_code_at cs e ≡ n → first_by n (root_at cs (form_first_at cs e)) (form_first_at cs e) (form_second_at cs e) ≡ a → second_by n a (form_second_at cs e) ≡ b → a < e → b < e → Lower
    lower n a b q f g la lb = (subst (λ (x : ℕ). x < e) (sym (first_by_lem n q ∙ f)) la, subst (λ (x : ℕ). x < e) (sym (second_by_lem n q ∙ ap (λ (x : ℕ). second_by n x (form_second_at cs e)) f ∙ g)) lb)

    lower-shape : form_code_at cs e ≡ codes.form_shape → Lower
    unfolding entry_of entry_ok
    lower-shape q =
        let h : root_at cs (form_first_at cs e) < e = ltb-true (root_at cs (form_first_at cs e)) e (and_right (ltb (form_first_at cs e) (shape_count cs)) (ltb (root_at cs (form_first_at cs e)) e) (right_by cs t [] e l codes.form_shape q)) in
        lower codes.form_shape (root_at cs (form_first_at cs e)) (root_at cs (form_first_at cs e)) q refl refl h h

    lower_and : form_code_at cs e ≡ codes.form_and → Lower
    unfolding entry_of entry_ok
    lower_and q = let h = two-below (form_first_at cs e) e (form_second_at cs e) e (right_by cs t [] e l codes.form_and q) in lower codes.form_and (form_first_at cs e) (form_second_at cs e) q refl refl h.0 h.1

    lower_or : form_code_at cs e ≡ codes.form_or → Lower
    unfolding entry_of entry_ok
    lower_or q = let h = two-below (form_first_at cs e) e (form_second_at cs e) e (right_by cs t [] e l codes.form_or q) in lower codes.form_or (form_first_at cs e) (form_second_at cs e) q refl refl h.0 h.1

    lower-not : form_code_at cs e ≡ codes.form_not → Lower
    unfolding entry_of entry_ok
    lower-not q = let h = ltb-true (form_first_at cs e) e (right_by cs t [] e l codes.form_not q) in lower codes.form_not (form_first_at cs e) (form_first_at cs e) q refl refl h h

    lower-count : form_code_at cs e ≡ codes.form_count → Lower
    unfolding entry_of entry_ok
    lower-count q =
        let h = ltb-true (form_second_at cs e) e (and_right (ltb (form_first_at cs e) (path_count cs)) (ltb (form_second_at cs e) e) (and_left (ltb (form_first_at cs e) (path_count cs) && ltb (form_second_at cs e) e) (leb (form_third_at cs e) max_count && upper_ok cs (form_fourth_at cs e)) (right_by cs t [] e l codes.form_count q))) in
        lower codes.form_count (form_second_at cs e) (form_second_at cs e) q refl refl h h

    lower-all : form_code_at cs e ≡ codes.form_all → Lower
    unfolding entry_of entry_ok
    lower-all q = let h = ltb-true (form_second_at cs e) e (and_right (ltb (form_first_at cs e) (path_count cs)) (ltb (form_second_at cs e) e) (right_by cs t [] e l codes.form_all q)) in lower codes.form_all (form_second_at cs e) (form_second_at cs e) q refl refl h h

    pub parts-lower : has_parts cs e ≡ true → Lower
    unfolding has_parts
    parts-lower h = ⊎_elim
        (λ m.
        let a : 2 ≤ form_code_at cs e = leb-true 2 (form_code_at cs e) (and_left (leb 2 (form_code_at cs e)) (leb (form_code_at cs e) codes.form_not) m) in
        let b : form_code_at cs e ≤ codes.form_not = leb-true (form_code_at cs e) codes.form_not (and_right (leb 2 (form_code_at cs e)) (leb (form_code_at cs e) codes.form_not) m) in
        case (form_code_at cs e) codes.form_shape lower-shape (λ n2. case (form_code_at cs e) codes.form_and lower_and (λ n3. case (form_code_at cs e) codes.form_or lower_or (λ n4. lower-not (omega arith)))))
        (λ m. ⊎_elim (λ a. lower-count (eqb-true (form_code_at cs e) codes.form_count a)) (λ a. lower-all (eqb-true (form_code_at cs e) codes.form_all a)) (or_cases (eqb (form_code_at cs e) codes.form_count) (eqb (form_code_at cs e) codes.form_all) m))
        (or_cases (leb 2 (form_code_at cs e) && leb (form_code_at cs e) codes.form_not) (ends_code (form_code_at cs e)) h)

    -- the path of an entry that looks along one
    pub looks_path : looks_at_ends cs e ≡ true → form_first_at cs e < path_count cs
    unfolding looks_at_ends
    looks_path h = ⊎_elim (λ a. count_path cs t [] e l (eqb-true (form_code_at cs e) codes.form_count a)) (λ a. all_path cs t [] e l (eqb-true (form_code_at cs e) codes.form_all a)) (or_cases (eqb (form_code_at cs e) codes.form_count) (eqb (form_code_at cs e) codes.form_all) h)

    -- the nodes that are asked for have all that is looked at
    pub asked_ends : (nodes ws : List ℕ) → looks_at_ends cs e ≡ true → ws ≡ words_of (image (node_count cs) (ends (node_count cs) (triples_at cs) (path_at cs (form_first_at cs e))) (has nodes)) 16
        → (v w : ℕ) → v < node_count cs → w < node_count cs → has nodes v ≡ true → looks_at cs e v w ≡ true → has ws w ≡ true
    unfolding looks_at image
    asked_ends nodes ws h q v w lv lw hv hw =
        has_of (image (node_count cs) (ends (node_count cs) (triples_at cs) (path_at cs (form_first_at cs e))) (has nodes)) 16 q w (omega (arith, nodes_le cs t))
        ∙ some_at (λ u. has nodes u && ends (node_count cs) (triples_at cs) (path_at cs (form_first_at cs e)) u w) (node_count cs) v lv
        (ap₂ (λ (a b : Bool). a && b) hv (ap (λ (b : Bool). mathlib.Core.Bool.cond b (ends (node_count cs) (triples_at cs) (path_at cs (form_first_at cs e)) v w) (eqb v w)) (sym h) ∙ hw))

  pub asked_here : (nodes : List ℕ) → looks_at_ends cs e ≡ false → (v w : ℕ) → v < node_count cs → w < node_count cs → has nodes v ≡ true → looks_at cs e v w ≡ true → has nodes w ≡ true
  unfolding looks_at
  asked_here nodes h v w lv lw hv hw = ap (has nodes) (sym (eqb-true v w (ap (λ (b : Bool). mathlib.Core.Bool.cond b (ends (node_count cs) (triples_at cs) (path_at cs (form_first_at cs e)) v w) (eqb v w)) (sym h) ∙ hw))) ∙ hv
