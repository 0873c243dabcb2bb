-- What is asked looks at the two sets below the limit of nodes only; and what it says in the words of the steps.
use Prim.Native.Nat.{ℕ, ◌≤◌, ◌<◌}
use mathlib.Core.Bool.{Bool, true, not, ◌&&◌, ◌||◌}
use mathlib.Core.List.{List}
use mathlib.Core.Path.{◌≡◌, refl, sym, ap, ap₂, ◌∙◌}
use native.Mathlib.Omega.{arith}
use lib.Dec.{eqb, leb}
use lib.IntN.{ℤ}
use borrow.Author.Tests.{leb-true, lt-ltb}
use Rattle.base.specs.Bounded.{◌⇒◌, some, every}
use Rattle.base.proofs.Bools.{and_left, and_right}
use Rattle.base.proofs.Bounded.{some_ext, every_ext, size_ext}
use Rattle.model.specs.Shapes.{within, subset, none_shared, all_pairs, unlike_langs}
use Rattle.model.specs.Limits.{max_nodes}
use Rattle.tables.specs.Codes as codes
use Rattle.tables.specs.Layout.{node_count, fact_count, predicate_at, kind_at, form_code_at}
use Rattle.tables.specs.Decode.{term_at, upper_of}
use Rattle.tables.proofs.WellFormed.{Sound}
use Rattle.plan.specs.Conditions.{some_in_one, some_shared, some_pair, clash}
use Rattle.conditions.proofs.Items.{unlisted_ext, listed_ext}
use Rattle.conditions.proofs.Langs.{unlike_tagged, clash-tagged}
use Rattle.stepsets.specs.Conditions.{holds_of, tagged, condition_ok}
use Rattle.stepsets.specs.declared.Condition.{Condition}
use Rattle.stepsets.specs.declared.Condition.TheVariants.{Is, IsNot, Test, Untest, Count, Every, Equal, Unequal, Apart, Meet, Less, NotLess, LessEq, NotLessEq, OneLang, ManyLang, Closed, Open}

-- ---- sets that agree below n
module _ (n : ℕ) {a a' b b' : ℕ → Bool} (ea : (w : ℕ) → w < n → a w ≡ a' w) (eb : (w : ℕ) → w < n → b w ≡ b' w) where
  subset_ext : subset n a b ≡ subset n a' b'
  unfolding subset
  subset_ext = every_ext (λ x. a x ⇒ b x) (λ x. a' x ⇒ b' x) n (λ x l. ap₂ (λ (s t : Bool). s ⇒ t) (ea x l) (eb x l))

  apart_ext : none_shared n a b ≡ none_shared n a' b'
  unfolding none_shared
  apart_ext = every_ext (λ x. not (a x && b x)) (λ x. not (a' x && b' x)) n (λ x l. ap₂ (λ (s t : Bool). not (s && t)) (ea x l) (eb x l))

  shared_ext : some_shared n a b ≡ some_shared n a' b'
  unfolding some_shared
  shared_ext = some_ext (λ x. a x && b x) (λ x. a' x && b' x) n (λ x l. ap₂ (λ (s t : Bool). s && t) (ea x l) (eb x l))

  one_ext : some_in_one n a b ≡ some_in_one n a' b'
  unfolding some_in_one
  one_ext = some_ext (λ x. (a x && not (b x)) || (b x && not (a x))) (λ x. (a' x && not (b' x)) || (b' x && not (a' x))) n (λ x l. ap₂ (λ (s t : Bool). (s && not t) || (t && not s)) (ea x l) (eb x l))

  some-pair_ext : (r : ℕ → ℕ → Bool) → some_pair n a b r ≡ some_pair n a' b' r
  unfolding some_pair
  some-pair_ext r = some_ext (λ x. a x && some (λ y. b y && r x y) n) (λ x. a' x && some (λ y. b' y && r x y) n) n (λ x l. ap₂ (λ (s t : Bool). s && t) (ea x l) (some_ext (λ y. b y && r x y) (λ y. b' y && r x y) n (λ y m. ap (λ (s : Bool). s && r x y) (eb y m))))

  pairs_ext : (r : ℕ → ℕ → Bool) → all_pairs n a b r ≡ all_pairs n a' b' r
  unfolding all_pairs
  pairs_ext r = every_ext (λ x. a x ⇒ every (λ y. b y ⇒ r x y) n) (λ x. a' x ⇒ every (λ y. b' y ⇒ r x y) n) n (λ x l. ap₂ (λ (s t : Bool). s ⇒ t) (ea x l) (every_ext (λ y. b y ⇒ r x y) (λ y. b' y ⇒ r x y) n (λ y m. ap (λ (s : Bool). s ⇒ r x y) (eb y m))))

module _ (cs : List ℕ) (vs : List ℤ) (s : Sound cs) {a a' b b' : ℕ → Bool} (ea : (w : ℕ) → w < max_nodes → a w ≡ a' w) (eb : (w : ℕ) → w < max_nodes → b w ≡ b' w) (v : ℕ) where
  ea' : (w : ℕ) → w < node_count cs → a w ≡ a' w
  ea' w l = ea w (omega (arith, s.nodes))

  eb' : (w : ℕ) → w < node_count cs → b w ≡ b' w
  eb' w l = eb w (omega (arith, s.nodes))

  both' : (w : ℕ) → w < node_count cs → (a w && b w) ≡ (a' w && b' w)
  both' w l = ap₂ (λ (s t : Bool). s && t) (ea' w l) (eb' w l)

  linked : (i : ℕ) → i < fact_count cs → b (predicate_at cs i) ≡ b' (predicate_at cs i)
  linked i l = eb (predicate_at cs i) (omega (arith, s.predicate i l, s.links))

  pub holds_ext : (condition : Condition) → holds_of cs vs condition a b v ≡ holds_of cs vs condition a' b' v
  unfolding holds_of
  holds_ext (Is c) = refl
  holds_ext (IsNot c) = refl
  holds_ext (Test e) = refl
  holds_ext (Untest e) = refl
  holds_ext (Count lo hi) = ap (within lo (upper_of hi)) (size_ext (λ w. a w && b w) (λ w. a' w && b' w) max_nodes (λ w l. ap₂ (λ (s t : Bool). s && t) (ea w l) (eb w l)))
  holds_ext Every = subset_ext (node_count cs) ea' eb'
  holds_ext Equal = ap₂ (λ (s t : Bool). s && t) (subset_ext (node_count cs) ea' eb') (subset_ext (node_count cs) eb' ea')
  holds_ext Unequal = one_ext (node_count cs) ea' eb'
  holds_ext Apart = apart_ext (node_count cs) ea' eb'
  holds_ext Meet = shared_ext (node_count cs) ea' eb'
  holds_ext Less = pairs_ext (node_count cs) ea' eb' _
  holds_ext NotLess = some-pair_ext (node_count cs) ea' eb' _
  holds_ext LessEq = pairs_ext (node_count cs) ea' eb' _
  holds_ext NotLessEq = some-pair_ext (node_count cs) ea' eb' _
  holds_ext OneLang = pairs_ext (node_count cs) both' both' _
  holds_ext ManyLang = some-pair_ext (node_count cs) both' both' _
  holds_ext Closed = listed_ext cs b b' v linked
  holds_ext Open = unlisted_ext cs b b' v linked

-- ---- ends without a language need not be looked at
split : (cs : List ℕ) (a : ℕ → Bool) (x : ℕ) → x < node_count cs → (a x && tagged cs x) ≡ (a x && eqb (kind_at cs x) codes.node_words)
split cs a x l = ap (λ (t : Bool). a x && (t && eqb (kind_at cs x) codes.node_words)) (lt-ltb x (node_count cs) l)

module _ (cs : List ℕ) (vs : List ℤ) (a : ℕ → Bool) (v : ℕ) where
  pub one-tagged : holds_of cs vs OneLang a (tagged cs) v ≡ unlike_langs (term_at cs vs) (node_count cs) a
  unfolding holds_of
  one-tagged = unlike_tagged cs vs a (λ x. a x && tagged cs x) (split cs a)

  pub many-tagged : holds_of cs vs ManyLang a (tagged cs) v ≡ some_pair (node_count cs) a a (clash (term_at cs vs))
  unfolding holds_of
  many-tagged = clash-tagged cs vs a (λ x. a x && tagged cs x) (split cs a)

-- ---- a test names a test
in_tests : (cs : List ℕ) (e : ℕ) → (leb codes.form_kind (form_code_at cs e) && leb (form_code_at cs e) codes.form_below) ≡ true → (codes.form_kind ≤ form_code_at cs e) × (form_code_at cs e ≤ codes.form_below)
in_tests cs e h = (leb-true codes.form_kind (form_code_at cs e) (and_left (leb codes.form_kind (form_code_at cs e)) (leb (form_code_at cs e) codes.form_below) h), leb-true (form_code_at cs e) codes.form_below (and_right (leb codes.form_kind (form_code_at cs e)) (leb (form_code_at cs e) codes.form_below) h))

pub test_named : (cs : List ℕ) {condition : Condition} {e : ℕ} → condition ≡ Test e → condition_ok cs condition ≡ true → (codes.form_kind ≤ form_code_at cs e) × (form_code_at cs e ≤ codes.form_below)
unfolding condition_ok
test_named cs {e = e} q w = in_tests cs e (sym (ap (condition_ok cs) q) ∙ w)

pub untest_named : (cs : List ℕ) {condition : Condition} {e : ℕ} → condition ≡ Untest e → condition_ok cs condition ≡ true → (codes.form_kind ≤ form_code_at cs e) × (form_code_at cs e ≤ codes.form_below)
unfolding condition_ok
untest_named cs {e = e} q w = in_tests cs e (sym (ap (condition_ok cs) q) ∙ w)
