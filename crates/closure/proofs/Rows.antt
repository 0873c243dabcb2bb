-- Rows of relations: what they have, one pair more, each node in its own row, and what `close`, `reflect` and `compose` make of them.
use Prim.Native.Nat.{ℕ, ◌+◌, ◌*◌, ◌/◌, ◌%◌, ◌-◌, ◌≤◌, ◌<◌}
use mathlib.Core.Bool.{Bool, true, false, ◌&&◌, ◌||◌, and-false, or-false}
use mathlib.Core.List.{List}
use mathlib.Core.Path.{◌≡◌, refl, sym, ap, ap₂, ◌∙◌}
use native.Mathlib.Omega.{arith}
use lib.Dec.{eqb, ltb}
use lib.ListN.{length, take, drop, length-drop, replicate}
use lib.Seq.{take_all}
use borrow.Author.Tests.{eq-eqb, eqb-true, lt-ltb, le-ltb, ltb-true}
use Rattle.base.proofs.Bools.{and_left, and_right, and_both, same_test}
use Rattle.nodeset.specs.Words.{has, with}
use Rattle.nodeset.proofs.Sets.{has-drop, has_of, has_out, words_of_ext, length-words_of, zeros, with-step, ltb-more}
use Rattle.model.specs.Limits.{max_nodes}
use Rattle.model.specs.Repeats.{star, plus}
use Rattle.model.proofs.Repeats.{star-plus}
use Rattle.closure.specs.Rows.{between, in_rows, rows_of, leads, Within, or_itself}

-- ---- rows of relations that agree between the nodes
pub rows_ext : (n : ℕ) (r q : ℕ → ℕ → Bool) (words : ℕ) → ((v w : ℕ) → v < n → w < n → r v w ≡ q v w) → rows_of n r words ≡ rows_of n q words
unfolding rows_of
rows_ext n r q words h = words_of_ext (in_rows n r) (in_rows n q) words (λ x l. go (x / max_nodes) (x % max_nodes) (ltb (x / max_nodes) n) refl (ltb (x % max_nodes) n) refl)
  where
    go : (v w : ℕ) (a : Bool) → ltb v n ≡ a → (b : Bool) → ltb w n ≡ b → ((a && b) && r v w) ≡ ((a && b) && q v w)
    go v w true d true e = h v w (ltb-true v n d) (ltb-true w n e)
    go v w true d false e = refl
    go v w false d b e = refl

pub length-rows : (n : ℕ) (r : ℕ → ℕ → Bool) (words : ℕ) → length (rows_of n r words) ≡ words
unfolding rows_of
length-rows n r words = length-words_of (in_rows n r) words

-- where v leads to w in the rows
pub row_of : (v w : ℕ) → w < max_nodes → (max_nodes * v + w) / max_nodes ≡ v
row_of v w l = omega arith

pub place_of : (v w : ℕ) → w < max_nodes → (max_nodes * v + w) % max_nodes ≡ w
place_of v w l = omega arith

pub place : (x : ℕ) → max_nodes * (x / max_nodes) + x % max_nodes ≡ x
place x = omega arith

module _ (n : ℕ) (r : ℕ → ℕ → Bool) (words : ℕ) {rows : List ℕ} (e : rows ≡ rows_of n r words) where
  -- what rows have
  pub has-rows : (x : ℕ) → x < 64 * words → has rows x ≡ in_rows n r x
  unfolding rows_of
  has-rows x l = has_of (in_rows n r) words e x l

  pub length_of_rows : length rows ≡ words
  length_of_rows = ap length e ∙ length-rows n r words

  pub leads-rows : (v w : ℕ) → w < max_nodes → 16 * v + 16 ≤ words → leads rows v w ≡ between n r v w
  leads-rows v w l room = has-rows (max_nodes * v + w) (omega arith) ∙ ap₂ (between n r) (row_of v w l) (place_of v w l)

  -- between nodes, where there is a row for each
  pub leads-nodes : n ≤ max_nodes → 16 * n ≤ words → (v w : ℕ) → v < n → w < n → leads rows v w ≡ r v w
  leads-nodes few room v w lv lw = leads-rows v w (omega arith) (omega arith) ∙ ap (λ (b : Bool). b && r v w) (and_both (ltb v n) (ltb w n) (lt-ltb v n lv) (lt-ltb w n lw))

  -- nothing stands past them
  pub within-rows : Within n rows
  unfolding rows_of
  within-rows =
      e ∙ words_of_ext (in_rows n r) (in_rows n (leads rows)) words (λ x l.
      twice (ltb (x / max_nodes) n && ltb (x % max_nodes) n) (r (x / max_nodes) (x % max_nodes))
      ∙ ap (λ (b : Bool). (ltb (x / max_nodes) n && ltb (x % max_nodes) n) && b) (sym (has_of (in_rows n r) words e x l) ∙ ap (has rows) (sym (place x))))
      ∙ ap (rows_of n (leads rows)) (sym length_of_rows)
    where
      twice : (a b : Bool) → (a && b) ≡ (a && (a && b))
      twice true b = refl
      twice false b = refl

  -- only nodes lead anywhere, and to nodes
  pub rows-node : (x : ℕ) → has rows x ≡ true → (x / max_nodes < n) × (x % max_nodes < n)
  rows-node x h = go (ltb x (64 * words)) refl
    where
      test : x < 64 * words → (ltb (x / max_nodes) n && ltb (x % max_nodes) n) ≡ true
      test l = and_left (ltb (x / max_nodes) n && ltb (x % max_nodes) n) (r (x / max_nodes) (x % max_nodes)) (sym (has-rows x l) ∙ h)

      go : (b : Bool) → ltb x (64 * words) ≡ b → (x / max_nodes < n) × (x % max_nodes < n)
      go true f =
          let t = test (ltb-true x (64 * words) f) in
          (ltb-true (x / max_nodes) n (and_left (ltb (x / max_nodes) n) (ltb (x % max_nodes) n) t), ltb-true (x % max_nodes) n (and_right (ltb (x / max_nodes) n) (ltb (x % max_nodes) n) t))
      go false f =
          let l : 64 * words ≤ x = borrow.Author.Tests.ltb-false x (64 * words) f in
          absurd (Rattle.base.proofs.Bools.never_both h (has_out rows x (omega (arith, length_of_rows))))

-- the same of rows that nothing stands past
pub leads-node : (n : ℕ) {rows : List ℕ} → Within n rows → (v w : ℕ) → w < max_nodes → leads rows v w ≡ true → (v < n) × (w < n)
leads-node n {rows} e v w l h =
    let t = rows-node n (leads rows) (length rows) e (max_nodes * v + w) h in
    (omega (arith, row_of v w l, t.0), omega (arith, place_of v w l, t.1))

-- row u, as it is lent
pub lent_row : (rows : List ℕ) (u m : ℕ) → m ≡ length rows - 16 * u → (w : ℕ) → has (take m (drop (16 * u) rows)) w ≡ leads rows u w
lent_row rows u m e w = ap (λ (ws : List ℕ). has ws w) (take_all m (drop (16 * u) rows) (omega (arith, length-drop (16 * u) rows))) ∙ has-drop rows (16 * u) w ∙ ap (has rows) (let z : 16 * u * 64 + w ≡ max_nodes * u + w = omega arith in z)

-- ---- one pair more
abbrev pub with_pair : (ℕ → ℕ → Bool) → ℕ → ℕ → ℕ → ℕ → Bool
with_pair r v w x y = r x y || (eqb x v && eqb y w)

pub with_rows_lem : (n : ℕ) (r : ℕ → ℕ → Bool) (words : ℕ) {rows : List ℕ} → n ≤ max_nodes → rows ≡ rows_of n r words → (v w : ℕ) → v < n → w < n → with rows (max_nodes * v + w) ≡ rows_of n (with_pair r v w) words
unfolding rows_of
with_rows_lem n r words few e v w lv lw = with-step (in_rows n r) (in_rows n (with_pair r v w)) words (max_nodes * v + w) e λ x lx.
    ap (λ (b : Bool). in_rows n r x || b) (at x) ∙ join (ltb (x / max_nodes) n && ltb (x % max_nodes) n) (r (x / max_nodes) (x % max_nodes)) (eqb (x / max_nodes) v && eqb (x % max_nodes) w) (λ h.
    let f : x / max_nodes ≡ v = eqb-true (x / max_nodes) v (and_left (eqb (x / max_nodes) v) (eqb (x % max_nodes) w) h) in
    let g : x % max_nodes ≡ w = eqb-true (x % max_nodes) w (and_right (eqb (x / max_nodes) v) (eqb (x % max_nodes) w) h) in
    and_both (ltb (x / max_nodes) n) (ltb (x % max_nodes) n) (lt-ltb (x / max_nodes) n (omega arith)) (lt-ltb (x % max_nodes) n (omega arith)))
  where
    at : (x : ℕ) → eqb x (max_nodes * v + w) ≡ (eqb (x / max_nodes) v && eqb (x % max_nodes) w)
    at x = same_test (eqb x (max_nodes * v + w)) (eqb (x / max_nodes) v && eqb (x % max_nodes) w)
        (λ h. let z : x ≡ max_nodes * v + w = eqb-true x (max_nodes * v + w) h in and_both (eqb (x / max_nodes) v) (eqb (x % max_nodes) w) (eq-eqb (x / max_nodes) v (omega arith)) (eq-eqb (x % max_nodes) w (omega arith)))
        (λ h.
        let f : x / max_nodes ≡ v = eqb-true (x / max_nodes) v (and_left (eqb (x / max_nodes) v) (eqb (x % max_nodes) w) h) in
        let g : x % max_nodes ≡ w = eqb-true (x % max_nodes) w (and_right (eqb (x / max_nodes) v) (eqb (x % max_nodes) w) h) in
        eq-eqb x (max_nodes * v + w) (omega arith))

    join : (a b d : Bool) → (d ≡ true → a ≡ true) → ((a && b) || d) ≡ (a && (b || d))
    join true b d h = refl
    join false b true h = sym (h refl)
    join false b false h = refl

-- zeros are the rows of nothing
pub zero_rows : (n words : ℕ) → replicate words 0 ≡ rows_of n (λ v w. false) words
unfolding rows_of
zero_rows n words = zeros words ∙ words_of_ext (λ x. false) (in_rows n (λ v w. false)) words (λ x l. sym (and-false (ltb (x / max_nodes) n && ltb (x % max_nodes) n)))

-- ---- each node below i joins its own row
pub or_join : (h a b e : Bool) → ((h || (a && e)) || (b && e)) ≡ (h || ((a || b) && e))
or_join true a b e = refl
or_join false true b true = refl
or_join false true true false = refl
or_join false true false false = refl
or_join false false b e = refl

abbrev pub itself_to : (ℕ → ℕ → Bool) → ℕ → ℕ → ℕ → Bool
itself_to r i v w = r v w || (ltb v i && eqb v w)

module _ (n : ℕ) (r : ℕ → ℕ → Bool) (words : ℕ) where
  pub itself_none : {ws : List ℕ} → ws ≡ rows_of n r words → ws ≡ rows_of n (itself_to r 0) words
  itself_none e = e ∙ rows_ext n r (itself_to r 0) words (λ v w lv lw. sym (ap (λ (b : Bool). r v w || (b && eqb v w)) (le-ltb v 0 (omega arith)) ∙ or-false (r v w)))

  pub itself_more : {ws : List ℕ} (i : ℕ) → n ≤ max_nodes → i < n → ws ≡ rows_of n (itself_to r i) words → with ws (1025 * i) ≡ rows_of n (itself_to r (i + 1)) words
  itself_more {ws} i few l e =
      ap (with ws) (let z : 1025 * i ≡ max_nodes * i + i = omega arith in z) ∙ with_rows_lem n (itself_to r i) words few e i i l l
      ∙ rows_ext n (with_pair (itself_to r i) i i) (itself_to r (i + 1)) words (λ v w lv lw.
      ap (λ (b : Bool). (r v w || (ltb v i && eqb v w)) || b) (same v w (eqb v i) refl) ∙ or_join (r v w) (ltb v i) (eqb v i) (eqb v w) ∙ ap (λ (b : Bool). r v w || (b && eqb v w)) (sym (ltb-more v i)))
    where
      same : (v w : ℕ) (b : Bool) → eqb v i ≡ b → (b && eqb w i) ≡ (b && eqb v w)
      same v w true q = same_test (eqb w i) (eqb v w) (λ h. eq-eqb v w (eqb-true v i q ∙ sym (eqb-true w i h))) (λ h. eq-eqb w i (sym (eqb-true v w h) ∙ eqb-true v i q))
      same v w false q = refl

  pub itself_all : {ws : List ℕ} (i : ℕ) → i ≡ n → ws ≡ rows_of n (itself_to r i) words → ws ≡ rows_of n (or_itself r) words
  itself_all i q e = e ∙ rows_ext n (itself_to r i) (or_itself r) words (λ v w lv lw. ap (λ (b : Bool). r v w || (b && eqb v w)) (lt-ltb v i (omega arith)))

-- ---- for the callers of `reflect`
module _ (n : ℕ) (r : ℕ → ℕ → Bool) (words : ℕ) (few : n ≤ max_nodes) (room : 16 * n ≤ words) {rows : List ℕ} where
  -- what `reflect` makes of the rows of `plus`
  pub star-rows : rows ≡ rows_of n (plus r n) words → rows_of n (or_itself (leads rows)) (length rows) ≡ rows_of n (star r n) words
  star-rows e =
      ap (rows_of n (or_itself (leads rows))) (length_of_rows n (plus r n) words e)
      ∙ rows_ext n (or_itself (leads rows)) (star r n) words (λ v w lv lw. ap (λ (b : Bool). b || eqb v w) (leads-nodes n (plus r n) words e few room v w lv lw) ∙ sym (star-plus r n v w lv))
