-- The number of a name in its pool: it is the first place that holds the name, and the place in the list of names.
use Prim.Native.Nat.{ℕ, zero, suc, ◌+◌, ◌-◌, ◌*◌, ◌<◌, ◌≤◌}
use mathlib.Core.Path.{◌≡◌, refl, sym, ap, ap₂, ◌∙◌, subst}
use mathlib.Core.List.{List, [], ◌∷◌, ◌++◌, append_assoc}
use mathlib.Core.Bool.{Bool, true, false, cond, ◌&&◌, and_assoc}
use mathlib.Core.Logic.{⊎_elim, ◌↔◌}
use native.Mathlib.Nat.{eq-or-lt_of_le, le_refl}
use native.Mathlib.Omega.{arith}
use lib.ListN.{length, get_or, replicate, length-append, get_or-append}
use lib.Seq.{slice}
use Rattle.base.specs.Lists.{allb}
use Rattle.base.specs.Bytes.{eql}
use Rattle.base.proofs.Bools.{bool_cases, and_left, and_right, never_both, same_test}
use Rattle.base.proofs.Bytes.{eql_true, eql-refl}
use Rattle.text.specs.Items.{is_name, name_byte}
use Rattle.text.specs.Pool.{padded, all_names, pool_of, first_from, index_of, place, find}
use Rattle.text.proofs.Items.{name_short, name_bytes_lem}
use Rattle.text.proofs.Pool.{padded-length}
use Rattle.text.specs.Spans.{Span}
use Rattle.text.proofs.Spans.{span_split}
use Rattle.model.specs.Limits.{name_bytes}
use Rattle.std.specs.Prelude.{Option, Some, None}

-- ---- the first number that passes
-- k is the first of the n numbers from i on that passes
pub record First (p : ℕ → Bool) (n i k : ℕ) : Type 0 where
  pub low : i ≤ k
  pub high : k < i + n
  pub passes : p k ≡ true
  pub others : (j : ℕ) → i ≤ j → j < k → p j ≡ false

module _ (p : ℕ → Bool) where
  pub first-at : (n i k : ℕ) → first_from p n i ≡ Some k → First p n i k
  unfolding first_from
  first-at zero i k e = let z : ◌≡◌ {A = ℕ} 0 1 = cc in absurd (omega arith)
  first-at (suc n) i k e = go (first-at n (suc i) k) (p i) refl e
    where
      go : (first_from p n (suc i) ≡ Some k → First p n (suc i) k) → (b : Bool) → p i ≡ b → cond b (Some i) (first_from p n (suc i)) ≡ Some k → First p (suc n) i k
      go ih true q e =
          let z : i ≡ k = cc in
          record { low = omega arith; high = omega arith; passes = ap p (sym z) ∙ q; others = λ j l h. absurd (omega arith) }
      go ih false q e =
          let f = ih e in
          let l = f.low in
          let h = f.high in
          record { low = omega arith; high = omega arith; passes = f.passes; others = λ j a b. ⊎_elim (λ z. ap p (sym z) ∙ q) (λ a'. f.others j a' b) (eq-or-lt_of_le a) }

  pub at_first : (n i k : ℕ) → First p n i k → first_from p n i ≡ Some k
  unfolding first_from
  at_first zero i k f = let l = f.low in let h = f.high in absurd (omega arith)
  at_first (suc n) i k f = ⊎_elim
      (λ (z : i ≡ k). let q : p i ≡ true = ap p z ∙ f.passes in rw q (ap Some z))
      (λ (l : i < k). let h = f.high in rw (f.others i (le_refl i) l) (at_first n (suc i) k (record { low = l; high = omega arith; passes = f.passes; others = λ j a b. f.others j (omega arith) b })))
      (eq-or-lt_of_le f.low)

  pub first-nothing : (n i : ℕ) → first_from p n i ≡ None → (j : ℕ) → i ≤ j → j < i + n → p j ≡ false
  unfolding first_from
  first-nothing zero i e j a b = absurd (omega arith)
  first-nothing (suc n) i e j a b = go (first-nothing n (suc i)) (p i) refl e
    where
      go : (first_from p n (suc i) ≡ None → (j : ℕ) → suc i ≤ j → j < suc i + n → p j ≡ false) → (b : Bool) → p i ≡ b → cond b (Some i) (first_from p n (suc i)) ≡ None → p j ≡ false
      go ih true q e = let z : ◌≡◌ {A = ℕ} 0 1 = cc in absurd (omega arith)
      go ih false q e = ⊎_elim (λ z. ap p (sym z) ∙ q) (λ a'. ih e j a' (omega arith)) (eq-or-lt_of_le a)

  pub nothing-first : (n i : ℕ) → ((j : ℕ) → i ≤ j → j < i + n → p j ≡ false) → first_from p n i ≡ None
  unfolding first_from
  nothing-first zero i h = refl
  nothing-first (suc n) i h = rw (h i (le_refl i) (omega arith)) (nothing-first n (suc i) (λ j a b. h j (omega arith) (omega arith)))

pub first_ext : (p q : ℕ → Bool) (n i : ℕ) → ((j : ℕ) → i ≤ j → j < i + n → p j ≡ q j) → first_from p n i ≡ first_from q n i
unfolding first_from
first_ext p q zero i h = refl
first_ext p q (suc n) i h = ap₂ (λ (b : Bool) (f : Option ℕ). cond b (Some i) f) (h i (le_refl i) (omega arith)) (first_ext p q n (suc i) (λ j a b. h j (omega arith) (omega arith)))

-- ---- the first of n lists that is w
abbrev pub FirstOf : (ℕ → List ℕ) → ℕ → List ℕ → ℕ → Type 0
FirstOf f n w k = (k < n) × (f k ≡ w) × ((j : ℕ) → j < k → f j ≡ w → ⊥)

abbrev pub NoneOf : (ℕ → List ℕ) → ℕ → List ℕ → Type 0
NoneOf f n w = (j : ℕ) → j < n → f j ≡ w → ⊥

eql_differs : (a b : List ℕ) → (b ≡ a → ⊥) → eql a b ≡ false
eql_differs a b n = bool_cases (λ t. eql a b ≡ t → eql a b ≡ false) (eql a b) (λ _ e. absurd (n (sym (eql_true a b e)))) (λ _ e. e) refl

eql_false : (a b : List ℕ) → eql a b ≡ false → b ≡ a → ⊥
eql_false a b e q = never_both (ap (eql a) q ∙ eql-refl a) e

module _ (f : ℕ → List ℕ) (n : ℕ) (w : List ℕ) where
  search_at : (k : ℕ) → (first_from (λ j. eql w (f j)) n 0 ≡ Some k) ↔ FirstOf f n w k
  search_at k = (
    λ e. let g = first-at (λ j. eql w (f j)) n 0 k e in let h = g.high in (omega arith, sym (eql_true w (f k) g.passes), λ j l q. eql_false w (f j) (g.others j (omega arith) l) q),
    λ g. at_first (λ j. eql w (f j)) n 0 k (let h = g.0 in record { low = omega arith; high = omega arith; passes = ap (eql w) g.1 ∙ eql-refl w; others = λ j _ l. eql_differs w (f j) (g.2 j l) }),
  )

  search_nothing : (first_from (λ j. eql w (f j)) n 0 ≡ None) ↔ NoneOf f n w
  search_nothing = (
    λ e j l q. eql_false w (f j) (first-nothing (λ j. eql w (f j)) n 0 e j (omega arith) (omega arith)) q,
    λ g. nothing-first (λ j. eql w (f j)) n 0 (λ j _ l. eql_differs w (f j) (g j (omega arith))),
  )

-- a search in a pool finds the first place with the padded name, and nothing exactly where none has it
module _ (names : List ℕ) (base count : ℕ) (w : List ℕ) where
  pub find_at : (k : ℕ) → (find names base count w ≡ Some k) ↔ FirstOf (place names base) count (padded w) k
  unfolding find
  find_at k = search_at (place names base) count (padded w) k

-- and so in a list of names
module _ (ws : List (List ℕ)) (w : List ℕ) where
  pub index_at : (k : ℕ) → (index_of ws w ≡ Some k) ↔ FirstOf (λ k. get_or ws k []) (length ws) w k
  unfolding index_of
  index_at k = search_at (λ k. get_or ws k []) (length ws) w k

  pub index_nothing : (index_of ws w ≡ None) ↔ NoneOf (λ k. get_or ws k []) (length ws) w
  unfolding index_of
  index_nothing = search_nothing (λ k. get_or ws k []) (length ws) w

-- ---- a padded name is one name's
nonzero : (x : ℕ) → name_byte x ≡ true → x ≡ 0 → ⊥
unfolding name_byte
nonzero x e z = never_both e (ap name_byte z)

pads_apart : (m n : ℕ) (w v : List ℕ) → allb name_byte w ≡ true → allb name_byte v ≡ true → w ++ replicate m 0 ≡ v ++ replicate n 0 → w ≡ v
unfolding allb
pads_apart m n [] [] a b e = refl
pads_apart zero n [] (y ∷ v) a b e = let z : ◌≡◌ {A = ℕ} 0 1 = cc in absurd (omega arith)
pads_apart (suc m) n [] (y ∷ v) a b e = let z : y ≡ 0 = cc in absurd (nonzero y (and_left (name_byte y) (allb name_byte v) b) z)
pads_apart m zero (x ∷ w) [] a b e = let z : ◌≡◌ {A = ℕ} 0 1 = cc in absurd (omega arith)
pads_apart m (suc n) (x ∷ w) [] a b e = let z : x ≡ 0 = cc in absurd (nonzero x (and_left (name_byte x) (allb name_byte w) a) z)
pads_apart m n (x ∷ w) (y ∷ v) a b e =
    let h : x ≡ y = cc in
    let t : w ++ replicate m 0 ≡ v ++ replicate n 0 = cc in
    let r = pads_apart m n w v (and_right (name_byte x) (allb name_byte w) a) (and_right (name_byte y) (allb name_byte v) b) t in
    cc

pub padded_injective : (w v : List ℕ) → is_name w ≡ true → is_name v ≡ true → padded w ≡ padded v → w ≡ v
unfolding padded
padded_injective w v a b e = pads_apart (name_bytes - length w) (name_bytes - length v) w v (name_bytes_lem w a) (name_bytes_lem v b) e

pub eql-padded : (w v : List ℕ) → is_name w ≡ true → is_name v ≡ true → eql (padded w) (padded v) ≡ eql w v
eql-padded w v a b = same_test (eql (padded w) (padded v)) (eql w v)
    (λ e. ap (eql w) (sym (padded_injective w v a b (eql_true (padded w) (padded v) e))) ∙ eql-refl w)
    (λ e. ap (λ (u : List ℕ). eql (padded w) (padded u)) (sym (eql_true w v e)) ∙ eql-refl (padded w))

-- ---- a pool that holds a list of names
pub names_at : (ws : List (List ℕ)) → all_names ws ≡ true → (k : ℕ) → k < length ws → is_name (get_or ws k []) ≡ true
unfolding all_names
names_at [] e k l = absurd (omega arith)
names_at (w ∷ ws) e zero l = and_left (is_name w) (all_names ws) e
names_at (w ∷ ws) e (suc k) l = names_at ws (and_right (is_name w) (all_names ws) e) k (omega arith)

pub names_append : (ws vs : List (List ℕ)) → all_names (ws ++ vs) ≡ (all_names ws && all_names vs)
unfolding all_names
names_append [] vs = refl
names_append (w ∷ ws) vs = ap (λ (b : Bool). is_name w && b) (names_append ws vs) ∙ sym (and_assoc (is_name w) (all_names ws) (all_names vs))

pub pool_append : (ws vs : List (List ℕ)) → pool_of (ws ++ vs) ≡ pool_of ws ++ pool_of vs
unfolding pool_of
pool_append [] vs = refl
pool_append (w ∷ ws) vs = ap (λ (l : List ℕ). padded w ++ l) (pool_append ws vs) ∙ sym (append_assoc (padded w) (pool_of ws) (pool_of vs))

pub pool_length : (ws : List (List ℕ)) → all_names ws ≡ true → length (pool_of ws) ≡ length ws * name_bytes
unfolding pool_of all_names
pool_length [] e = refl
pool_length (w ∷ ws) e =
    let s = name_short w (and_left (is_name w) (all_names ws) e) in
    omega (arith, length-append (padded w) (pool_of ws), padded-length w (omega arith), pool_length ws (and_right (is_name w) (all_names ws) e))

-- its place k holds name k
pub pool_place : (ws : List (List ℕ)) {names : List ℕ} {base end : ℕ} → all_names ws ≡ true → Span names base end (pool_of ws) → (k : ℕ) → k < length ws → place names base k ≡ padded (get_or ws k [])
unfolding pool_of all_names
pool_place [] e p k l = absurd (omega arith)
pool_place (w ∷ ws) {names} {base} {end} e p k l = at_place k l
    (pool_place ws (and_right (is_name w) (all_names ws) e) (subst (λ (n : ℕ). Span names (base + n) end (pool_of ws)) lw (span_split (padded w) (pool_of ws) p).1))
    (subst (λ (n : ℕ). Span names base (base + n) (padded w)) lw (span_split (padded w) (pool_of ws) p).0).text
  where
    lw : length (padded w) ≡ name_bytes
    lw = padded-length w (let s = name_short w (and_left (is_name w) (all_names ws) e) in omega arith)

    at_place : (k : ℕ) → k < suc (length ws) → ((k : ℕ) → k < length ws → place names (base + name_bytes) k ≡ padded (get_or ws k [])) → slice base (base + name_bytes) names ≡ padded w → place names base k ≡ padded (get_or (w ∷ ws) k [])
    at_place zero l ih t = let z : base + 0 * name_bytes ≡ base = omega arith in ap (λ (n : ℕ). slice n (n + name_bytes) names) z ∙ t
    at_place (suc k) l ih t = let z : base + suc k * name_bytes ≡ base + name_bytes + k * name_bytes = omega arith in ap (λ (n : ℕ). slice n (n + name_bytes) names) z ∙ ih k (omega arith)

-- a search there is the search in the list
pub find_pool : (ws : List (List ℕ)) {names : List ℕ} {base end : ℕ} (w : List ℕ) → all_names ws ≡ true → is_name w ≡ true → Span names base end (pool_of ws) → find names base (length ws) w ≡ index_of ws w
unfolding find index_of
find_pool ws {names} {base} {end} w a b p =
    first_ext (λ k. eql (padded w) (place names base k)) (λ k. eql w (get_or ws k [])) (length ws) 0
    (λ k _ l. let h : k < length ws = omega arith in ap (eql (padded w)) (pool_place ws a p k h) ∙ eql-padded w (get_or ws k []) b (names_at ws a k h))

-- a new name has the next number
pub index_new : (ws vs : List (List ℕ)) (w : List ℕ) → index_of ws w ≡ None → index_of (ws ++ (w ∷ vs)) w ≡ Some (length ws)
index_new ws vs w e =
    (index_at (ws ++ (w ∷ vs)) w (length ws)).1 (
      omega (arith, length-append ws (w ∷ vs)),
      lib.Seq.get_or-append_seam ws w vs [],
      λ j h q. (index_nothing ws w).0 e j h (sym (get_or-append ws (w ∷ vs) [] j h) ∙ q),
    )
