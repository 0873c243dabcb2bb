-- What is asked of a node's term, by the code of its kind; and the test that a form entry is, by its code.
use Prim.Native.Nat.{ℕ, zero, suc, ◌+◌, ◌≤◌, ◌<◌}
use mathlib.Core.List.{List, [], ◌∷◌}
use mathlib.Core.Bool.{Bool, true, false, not, cond, ◌&&◌, ◌||◌, and-false, or-false, not-not}
use mathlib.Core.Option.{Option}
use mathlib.Core.Path.{◌≡◌, refl, sym, ap, ap₂, ◌∙◌}
use native.Mathlib.Omega.{arith}
use lib.Dec.{eqb, ltb}
use lib.IntN.{ℤ}
use lib.Signed.{mag}
use mir.Syntax.{w64}
use mir.Val.{to_z, of_z}
use mir.Facts.{to_z-of_z}
use lib.ListN.{get_or, get_or-map, get_or-eq_default}
use borrow.Author.Tests.{eqb-true, eqb-false, ne_eqb, lt-ltb, le-ltb}
use Rattle.base.specs.Numbered.{below}
use Rattle.base.proofs.Bools.{bool_cases, not_and}
use Rattle.model.specs.Graph.{Term, iri, blank_node, numeric, plain, tagged, value_of, datatype_of, language_of, holds}
use Rattle.model.specs.Shapes.{Shape, Test, an_iri, a_blank, a_literal, is_kind, node_kind, datatype, language_in, min_inclusive, min_exclusive, max_inclusive, max_exclusive, satisfies, conforms, same_lang}
use Rattle.tables.specs.Codes as codes
use Rattle.tables.specs.Layout.{node_count, kind_at, type_at, lang_at, number_at, limit_at, form_code_at, form_first_at, form_second_at, form_third_at, form_fourth_at}
use Rattle.tables.specs.Entries.{entry_of}
use Rattle.tables.specs.Decode.{term_of, term_at, graph_at, kind_of, items_at, shape_of, entry_at, shape_at}
use Rattle.tables.proofs.Decode.{shape-number}
use Rattle.plan.specs.Conditions.{lacks, fails_test}
use Rattle.plan.specs.Sets.{test_of}
use Rattle.plan.proofs.Complements.{not-satisfies}

-- ---- what stands in a list of five by a kind's code
other : (k j : ℕ) → j < 5 → eqb (suc (suc (suc (suc (suc k))))) j ≡ false
other k j l = ne_eqb (suc (suc (suc (suc (suc k))))) j (λ e. let z : ⊥ = omega arith in z)

pub at-number : (b : Bool) (k : ℕ) → get_or (false ∷ false ∷ b ∷ false ∷ false ∷ []) k false ≡ (eqb k 2 && b)
at-number b zero = refl
at-number b (suc zero) = refl
at-number b (suc (suc zero)) = refl
at-number b (suc (suc (suc zero))) = refl
at-number b (suc (suc (suc (suc zero)))) = refl
at-number b (suc (suc (suc (suc (suc k))))) = sym (ap (λ (t : Bool). t && b) (other k 2 (omega arith)))

pub at_words : (b : Bool) (k : ℕ) → get_or (false ∷ false ∷ false ∷ false ∷ b ∷ []) k false ≡ (eqb k 4 && b)
at_words b zero = refl
at_words b (suc zero) = refl
at_words b (suc (suc zero)) = refl
at_words b (suc (suc (suc zero))) = refl
at_words b (suc (suc (suc (suc zero)))) = refl
at_words b (suc (suc (suc (suc (suc k))))) = sym (ap (λ (t : Bool). t && b) (other k 4 (omega arith)))

at_literals : (b d : Bool) (k : ℕ) → get_or (false ∷ false ∷ b ∷ b ∷ d ∷ []) k false ≡ (((eqb k 2 || eqb k 3) && b) || (eqb k 4 && d))
at_literals b d zero = refl
at_literals b d (suc zero) = refl
at_literals b d (suc (suc zero)) = sym (or-false b)
at_literals b d (suc (suc (suc zero))) = sym (or-false b)
at_literals b d (suc (suc (suc (suc zero)))) = refl
at_literals b d (suc (suc (suc (suc (suc k))))) = sym (ap₂ (λ (s t : Bool). ((s || t) && b) || (eqb (suc (suc (suc (suc (suc k))))) 4 && d)) (other k 2 (omega arith)) (other k 3 (omega arith)) ∙ ap (λ (t : Bool). t && d) (other k 4 (omega arith)))

at_iri : (k : ℕ) → get_or (true ∷ false ∷ false ∷ false ∷ false ∷ []) k true ≡ (eqb k 0 || ltb 4 k)
at_iri zero = refl
at_iri (suc zero) = refl
at_iri (suc (suc zero)) = refl
at_iri (suc (suc (suc zero))) = refl
at_iri (suc (suc (suc (suc zero)))) = refl
at_iri (suc (suc (suc (suc (suc k))))) = sym (ap₂ (λ (s t : Bool). s || t) (other k 0 (omega arith)) (lt-ltb 4 (suc (suc (suc (suc (suc k))))) (omega arith)))

at_blank : (k : ℕ) → get_or (false ∷ true ∷ false ∷ false ∷ false ∷ []) k false ≡ eqb k 1
at_blank zero = refl
at_blank (suc zero) = refl
at_blank (suc (suc zero)) = refl
at_blank (suc (suc (suc zero))) = refl
at_blank (suc (suc (suc (suc zero)))) = refl
at_blank (suc (suc (suc (suc (suc k))))) = sym (other k 1 (omega arith))

at_literal : (k : ℕ) → get_or (false ∷ false ∷ true ∷ true ∷ true ∷ []) k false ≡ (ltb 1 k && ltb k 5)
at_literal zero = refl
at_literal (suc zero) = refl
at_literal (suc (suc zero)) = refl
at_literal (suc (suc (suc zero))) = refl
at_literal (suc (suc (suc (suc zero)))) = refl
at_literal (suc (suc (suc (suc (suc k))))) = sym (ap (λ (t : Bool). ltb 1 (suc (suc (suc (suc (suc k))))) && t) (le-ltb (suc (suc (suc (suc (suc k))))) 5 (omega arith)) ∙ and-false (ltb 1 (suc (suc (suc (suc (suc k)))))))

-- a term lacks an attribute, or f holds of it
lacks-not : {A : Type 0} (f : A → Bool) (o : Option A) → lacks f o ≡ not (holds (λ x. not (f x)) o)
unfolding lacks holds
lacks-not f Option.none = refl
lacks-not f (Option.some x) = sym (not-not (f x))

-- ---- the term of a node that is there
module _ (cs : List ℕ) (vs : List ℤ) (v : ℕ) (l : v < node_count cs) where
  abbrev terms : List Term
  terms = iri ∷ blank_node ∷ numeric (type_at cs v) (number_at vs v) ∷ plain (type_at cs v) ∷ tagged (lang_at cs v) ∷ []

  term_by : (f : Term → Bool) → f (term_at cs vs v) ≡ get_or (mathlib.Core.List.map f terms) (kind_at cs v) (f iri)
  unfolding term_at term_of
  term_by f = ap (λ (b : Bool). f (cond b (get_or terms (kind_at cs v) iri) iri)) (lt-ltb v (node_count cs) l) ∙ sym (get_or-map f terms (kind_at cs v) iri)

  -- it has a number, and f holds of it; it has a language
  pub value_test : (f : ℤ → Bool) → holds f (value_of (term_at cs vs v)) ≡ (eqb (kind_at cs v) codes.node_number && f (number_at vs v))
  unfolding holds value_of
  value_test f = term_by (λ a. holds f (value_of a)) ∙ at-number (f (number_at vs v)) (kind_at cs v)

  pub language_test : (f : ℕ → Bool) → holds f (language_of (term_at cs vs v)) ≡ (eqb (kind_at cs v) codes.node_words && f (lang_at cs v))
  unfolding holds language_of
  language_test f = term_by (λ a. holds f (language_of a)) ∙ at_words (f (lang_at cs v)) (kind_at cs v)

  -- it has no number, no language, or f holds of it
  pub value-lacks : (f : ℤ → Bool) → lacks f (value_of (term_at cs vs v)) ≡ (not (eqb (kind_at cs v) codes.node_number) || f (number_at vs v))
  value-lacks f =
      lacks-not f (value_of (term_at cs vs v)) ∙ ap not (value_test (λ x. not (f x)))
      ∙ not_and (eqb (kind_at cs v) codes.node_number) (not (f (number_at vs v))) ∙ ap (λ (b : Bool). not (eqb (kind_at cs v) codes.node_number) || b) (not-not (f (number_at vs v)))

  pub language_lacks : (f : ℕ → Bool) → lacks f (language_of (term_at cs vs v)) ≡ (not (eqb (kind_at cs v) codes.node_words) || f (lang_at cs v))
  language_lacks f =
      lacks-not f (language_of (term_at cs vs v)) ∙ ap not (language_test (λ x. not (f x)))
      ∙ not_and (eqb (kind_at cs v) codes.node_words) (not (f (lang_at cs v))) ∙ ap (λ (b : Bool). not (eqb (kind_at cs v) codes.node_words) || b) (not-not (f (lang_at cs v)))

  pub datatype_test : (t k d : ℕ) → k ≡ kind_at cs v → d ≡ type_at cs v → (((eqb k codes.node_number || eqb k codes.node_text) && eqb t d) || (eqb k codes.node_words && eqb t 0)) ≡ satisfies (datatype t) (term_at cs vs v)
  unfolding satisfies holds datatype_of
  datatype_test t k d e f = sym (term_by (λ a. holds (eqb t) (datatype_of a)) ∙ at_literals (eqb t (type_at cs v)) (eqb t 0) (kind_at cs v) ∙ ap₂ (λ (k d : ℕ). ((eqb k codes.node_number || eqb k codes.node_text) && eqb t d) || (eqb k codes.node_words && eqb t 0)) (sym e) (sym f))

  -- its kind; k is the code that was read
  module _ (k : ℕ) (e : k ≡ kind_at cs v) {j : ℕ} where
    pub kind_iri : j ≡ codes.kind_thing → (eqb k codes.node_thing || ltb codes.node_words k) ≡ satisfies (node_kind (kind_of j)) (term_at cs vs v)
    unfolding satisfies is_kind kind_of
    kind_iri q = sym (ap (λ (j : ℕ). satisfies (node_kind (kind_of j)) (term_at cs vs v)) q ∙ term_by (is_kind an_iri) ∙ at_iri (kind_at cs v) ∙ ap (λ (k : ℕ). eqb k codes.node_thing || ltb codes.node_words k) (sym e))

    pub kind_blank_lem : j ≡ codes.kind_blank → eqb k codes.node_blank ≡ satisfies (node_kind (kind_of j)) (term_at cs vs v)
    unfolding satisfies is_kind kind_of
    kind_blank_lem q = sym (ap (λ (j : ℕ). satisfies (node_kind (kind_of j)) (term_at cs vs v)) q ∙ term_by (is_kind a_blank) ∙ at_blank (kind_at cs v) ∙ ap (λ (k : ℕ). eqb k codes.node_blank) (sym e))

    pub kind_literal_lem : codes.kind_literal ≤ j → (ltb codes.node_blank k && ltb k codes.node_unknown) ≡ satisfies (node_kind (kind_of j)) (term_at cs vs v)
    unfolding satisfies is_kind kind_of
    kind_literal_lem q = sym (ap (λ (x : Rattle.model.specs.Shapes.Kind). is_kind x (term_at cs vs v)) (get_or-eq_default (an_iri ∷ a_blank ∷ []) a_literal q) ∙ term_by (is_kind a_literal) ∙ at_literal (kind_at cs v) ∙ ap (λ (k : ℕ). ltb codes.node_blank k && ltb k codes.node_unknown) (sym e))

-- ---- the terms of two nodes
module _ (cs : List ℕ) (vs : List ℤ) (x y : ℕ) (l : x < node_count cs) (m : y < node_count cs) where
  pub lang_test : (eqb (kind_at cs x) codes.node_words && (eqb (kind_at cs y) codes.node_words && eqb (lang_at cs x) (lang_at cs y))) ≡ same_lang (term_at cs vs x) (term_at cs vs y)
  unfolding same_lang
  lang_test = sym (language_test cs vs x l (λ p. holds (eqb p) (language_of (term_at cs vs y))) ∙ ap (λ (b : Bool). eqb (kind_at cs x) codes.node_words && b) (language_test cs vs y m (eqb (lang_at cs x))))

-- a signed number in a local, read back
pub read_back : (x : ℤ) {y : ℤ} → mag x < 9223372036854775808 → x ≡ y → to_z w64 (of_z w64 x) ≡ y
read_back x f e = to_z-of_z {w = w64} {z = x} (record { sfits = f }) ∙ e

-- ---- an entry without parts, by its code
-- k is none of the n numbers from m on
abbrev pub NoneOf : ℕ → ℕ → ℕ → Type 0
NoneOf k m zero = Unit {0}
NoneOf k m (suc n) = NoneOf k m n × (k ≡ m + n → ⊥)

pub past : (k m n : ℕ) → m ≤ k → NoneOf k m n → m + n ≤ k
past k m zero l h = omega arith
past k m (suc n) l h = let d : m + n ≤ k = past k m n l h.0 in let ne : k ≡ m + n → ⊥ = h.1 in omega arith

module _ (cs : List ℕ) (vs : List ℤ) (e v : ℕ) where
  pub entry_by_lem : (n : ℕ) → form_code_at cs e ≡ n → conforms (graph_at cs vs) (shape_of cs (entry_of n (form_first_at cs e) (form_second_at cs e) (form_third_at cs e) (form_fourth_at cs e) (limit_at vs e)) (below Shape.top (λ k at. shape_of cs (entry_at cs vs k) at) e)) v ≡ conforms (graph_at cs vs) (shape_at cs vs e) v
  unfolding entry_at
  entry_by_lem n q =
      ap (λ (k : ℕ). conforms (graph_at cs vs) (shape_of cs (entry_of k (form_first_at cs e) (form_second_at cs e) (form_third_at cs e) (form_fourth_at cs e) (limit_at vs e)) (below Shape.top (λ k at. shape_of cs (entry_at cs vs k) at) e)) v) (sym q)
      ∙ ap (λ (s : Shape). conforms (graph_at cs vs) s v) (sym (shape-number cs e vs))

  -- the same of the test that the entry is, and of what fails it
  fails_by : (n : ℕ) → form_code_at cs e ≡ n → holds (λ t. fails_test t (term_at cs vs v)) (test_of cs (entry_of n (form_first_at cs e) (form_second_at cs e) (form_third_at cs e) (form_fourth_at cs e) (limit_at vs e))) ≡ holds (λ t. fails_test t (term_at cs vs v)) (test_of cs (entry_at cs vs e))
  unfolding entry_at
  fails_by n q = ap (λ (k : ℕ). holds (λ t. fails_test t (term_at cs vs v)) (test_of cs (entry_of k (form_first_at cs e) (form_second_at cs e) (form_third_at cs e) (form_fourth_at cs e) (limit_at vs e)))) (sym q)

  -- a test that does not hold is broken
  abbrev Broken : Type 0
  Broken = not (conforms (graph_at cs vs) (shape_at cs vs e) v) ≡ holds (λ t. fails_test t (term_at cs vs v)) (test_of cs (entry_at cs vs e))

  broken_case : (n : ℕ) → (form_code_at cs e ≡ n → Broken) → ((form_code_at cs e ≡ n → ⊥) → Broken) → Broken
  broken_case n f g = bool_cases (λ t. eqb (form_code_at cs e) n ≡ t → Broken) (eqb (form_code_at cs e) n) (λ _ h. f (eqb-true (form_code_at cs e) n h)) (λ _ h. g (eqb-false (form_code_at cs e) n h)) refl

  pub test-broken : codes.form_kind ≤ form_code_at cs e → form_code_at cs e ≤ codes.form_below → Broken
  unfolding entry_of shape_of conforms graph_at test_of holds
  test-broken a b =
      let x = limit_at vs e in
      let not-met : (t : Test) → not (satisfies t (term_at cs vs v)) ≡ fails_test t (term_at cs vs v) = λ t. not-satisfies t (term_at cs vs v) in
      broken_case codes.form_kind (λ q. ap not (sym (entry_by_lem codes.form_kind q)) ∙ not-met (node_kind (kind_of (form_first_at cs e))) ∙ fails_by codes.form_kind q)
      (λ n6. broken_case codes.form_datatype (λ q. ap not (sym (entry_by_lem codes.form_datatype q)) ∙ not-met (datatype (form_first_at cs e)) ∙ fails_by codes.form_datatype q)
      (λ n7. broken_case codes.form_lang (λ q. ap not (sym (entry_by_lem codes.form_lang q)) ∙ not-met (language_in (items_at cs (form_first_at cs e) (form_second_at cs e))) ∙ fails_by codes.form_lang q)
      (λ n8. broken_case codes.form_from (λ q. ap not (sym (entry_by_lem codes.form_from q)) ∙ not-met (min_inclusive x) ∙ fails_by codes.form_from q)
      (λ n9. broken_case codes.form_above (λ q. ap not (sym (entry_by_lem codes.form_above q)) ∙ not-met (min_exclusive x) ∙ fails_by codes.form_above q)
      (λ n10. broken_case codes.form_to (λ q. ap not (sym (entry_by_lem codes.form_to q)) ∙ not-met (max_inclusive x) ∙ fails_by codes.form_to q)
      (λ n11. let q : form_code_at cs e ≡ codes.form_below = omega arith in ap not (sym (entry_by_lem codes.form_below q)) ∙ not-met (max_exclusive x) ∙ fails_by codes.form_below q))))))
