-- A code that a match has settled. What is listed by code is what stands at the code that was read.
use Prim.Native.Nat.{ℕ, zero, suc, ◌+◌, ◌≤◌, ◌<◌}
use mathlib.Core.List.{List, [], ◌∷◌}
use mathlib.Core.Bool.{Bool, true, false}
use mathlib.Core.Path.{◌≡◌, sym, ap, ◌∙◌, subst}
use mathlib.Core.Logic.{⊎_elim}
use native.Mathlib.Nat.{eq-or-lt_of_le}
use native.Mathlib.Omega.{arith}
use lib.Arith.{lt_of_le-ne}
use lib.Dec.{ltb}
use lib.IntN.{pos}
use lib.ListN.{get_or, get_or-eq_default}
use borrow.Author.Tests.{lt-ltb, le-ltb}
use Rattle.tables.specs.Codes as codes
use Rattle.tables.specs.Layout.{kind_at, type_at, lang_at, type_count, lang_count, node_count, link_count, shape_count, path_code_at, path_first_at, path_second_at, form_code_at, form_first_at, form_second_at, form_third_at, form_fourth_at, rule_shape_at, rule_target_at, rule_operand_at}
use Rattle.tables.specs.Entries.{path_entry_of, entry_of}
use Rattle.tables.specs.Decode.{path_entry_at, entry_at}
use Rattle.tables.specs.WellFormed.{node_ok, path_entry_ok, entry_ok, rule_ok}

pub next : (m k : ℕ) → m ≤ k → (k ≡ m → ⊥) → suc m ≤ k
next m k l h = lt_of_le-ne l (λ e. h (sym e))

-- P of n numbers from m on
abbrev pub Each : (ℕ → Type 0) → ℕ → ℕ → Type 0
Each P m zero = Unit {0}
Each P m (suc n) = P m × Each P (suc m) n

pub in_range_lem : (P : ℕ → Type 0) (m n k : ℕ) → m ≤ k → k < m + n → Each P m n → P k
in_range_lem P m zero k l h e = absurd (omega arith)
in_range_lem P m (suc n) k l h e = ⊎_elim (λ q. subst P q e.0) (λ l'. in_range_lem P (suc m) n k l' (omega arith) e.1) (eq-or-lt_of_le l)

-- F n is the answer for code n, s the answer for the code k that was read
module _ (F : ℕ → Bool) (k : ℕ) {r s : Bool} (x : F k ≡ s) where
  pub case_is : (n : ℕ) → k ≡ n → r ≡ F n → r ≡ s
  case_is n e h = h ∙ ap F (sym e) ∙ x

  pub case_in : (m n : ℕ) → m ≤ k → k < m + n → Each (λ j. r ≡ F j) m n → r ≡ s
  case_in m n l h e = in_range_lem (λ j. r ≡ F j) m n k l h e ∙ x

  pub case_past : (m : ℕ) → m ≤ k → ((j : ℕ) → m ≤ j → r ≡ F j) → r ≡ s
  case_past m l h = h k l ∙ x

-- a number that was read twice, once as a node's or a link's
pub read_twice : (n : ℕ) {v a x : ℕ} {r : Bool} → r ≡ ltb v n → v ≡ x → a ≡ x → r ≡ ltb a n
read_twice n h e f = h ∙ ap (λ (y : ℕ). ltb y n) (e ∙ sym f)

-- the answers by code
module _ (cs : List ℕ) where
  abbrev pub node_by : ℕ → ℕ → Bool
  node_by v k = get_or (true ∷ true ∷ ltb (type_at cs v) (type_count cs) ∷ ltb (type_at cs v) (type_count cs) ∷ ltb (lang_at cs v) (lang_count cs) ∷ []) k false

  pub node_by_lem : (v k : ℕ) → k ≡ kind_at cs v → node_by v k ≡ node_ok cs v
  unfolding node_ok
  node_by_lem v k x = rw x

  pub node-unknown : (v k : ℕ) → codes.node_unknown ≤ k → false ≡ node_by v k
  node-unknown v k l = rw get_or-eq_default

  abbrev pub path_by : ℕ → ℕ → ℕ → ℕ → Bool
  path_by e a b k = path_entry_ok cs e (path_entry_of k a b)

  pub path_by_lem : (e a b k : ℕ) → a ≡ path_first_at cs e → b ≡ path_second_at cs e → k ≡ path_code_at cs e → path_by e a b k ≡ path_entry_ok cs e (path_entry_at cs e)
  unfolding path_entry_at
  path_by_lem e a b k p q x = rw (p, q, x)

  pub path_unknown_lem : (e a b k : ℕ) → codes.path_unknown ≤ k → false ≡ path_by e a b k
  unfolding path_entry_of path_entry_ok
  path_unknown_lem e a b k l = rw get_or-eq_default

  abbrev pub entry_by : ℕ → ℕ → ℕ → ℕ → Bool
  entry_by e a b k = entry_ok cs e (entry_of k a b (form_third_at cs e) (form_fourth_at cs e) (pos 0))

  pub entry_by_lem : (e a b k : ℕ) → a ≡ form_first_at cs e → b ≡ form_second_at cs e → k ≡ form_code_at cs e → entry_by e a b k ≡ entry_ok cs e (entry_at cs [] e)
  unfolding entry_at
  entry_by_lem e a b k p q x = rw (p, q, x)

  pub entry-unknown : (e a b k : ℕ) → codes.form_onelang < k → false ≡ entry_by e a b k
  unfolding entry_of entry_ok
  entry-unknown e a b k l = rw get_or-eq_default

  -- a rule whose shape is there
  abbrev pub rule_by : ℕ → ℕ → Bool
  rule_by r k = get_or (ltb (rule_operand_at cs r) (node_count cs) ∷ ltb (rule_operand_at cs r) (link_count cs) ∷ ltb (rule_operand_at cs r) (link_count cs) ∷ ltb (rule_operand_at cs r) (node_count cs) ∷ []) k false

  pub rule_by_lem : (r k : ℕ) → rule_shape_at cs r < shape_count cs → k ≡ rule_target_at cs r → rule_by r k ≡ rule_ok cs r
  unfolding rule_ok
  rule_by_lem r k l x = rw (x, lt-ltb (rule_shape_at cs r) (shape_count cs) l)

  pub rule_unknown : (r k : ℕ) → codes.target_class < k → false ≡ rule_by r k
  rule_unknown r k l = rw get_or-eq_default

  pub rule_shapeless : (r : ℕ) → shape_count cs ≤ rule_shape_at cs r → false ≡ rule_ok cs r
  unfolding rule_ok
  rule_shapeless r l = rw (le-ltb (rule_shape_at cs r) (shape_count cs) l)
