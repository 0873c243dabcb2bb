-- Laws of the definitions, for code that goes by other steps: a stored name held against a word byte by byte; and the lowest number
-- that has a property, found from the last on.
use Prim.Native.Nat.{ℕ, suc, ◌+◌, ◌<◌, ◌≤◌}
use mathlib.Core.Bool.{Bool, true, false, not, cond, ◌&&◌, ◌||◌}
use mathlib.Core.List.{List, [], ◌∷◌}
use mathlib.Core.Option.{Option}
use mathlib.Core.Path.{◌≡◌, refl, sym, ap, ap₂, ◌∙◌}
use native.Mathlib.Numerals.{add-one}
use native.Mathlib.Omega.{arith}
use lib.Dec.{eqb}
use lib.ListN.{length, get_or, take, drop, drop_of_length-le}
use lib.Seq.{drop-cons}
use borrow.Author.Tests.{eq-eqb, ne_eqb, eqb-true, eqb-false, lt-ltb, le-ltb, not-true}
use Rattle.base.specs.Bytes.{eql}
use Rattle.base.specs.Least.{next_from, least, least_of}
use Rattle.base.specs.Lists.{allb}
use Rattle.base.proofs.Bools.{bool_cases}
use Rattle.base.proofs.Least.{next-step, least_of_lem}
use Rattle.base.proofs.Lists.{allb-at}
use Rattle.model.specs.Limits.{max_name, name_bytes}
use Rattle.tables.specs.Names.{before_zero, name_from}
use Rattle.tables.proofs.Names.{name_byte_lem, name_full}

module _ (ns : List ℕ) (at : ℕ) (w : List ℕ) where
  -- the bytes in which the name stands
  abbrev s : List ℕ
  s = take max_name (drop at ns)

  -- up to j they are those of the word
  abbrev pub Rest : ℕ → Type 0
  Rest j = eql w (name_from ns at) ≡ eql (drop j w) (before_zero (drop j s))

  pub rest-none : Rest 0
  unfolding name_from
  rest-none = refl

  module _ (room : at + name_bytes ≤ length ns) (short : length w ≤ max_name) (full : allb (λ x. not (eqb x 0)) w ≡ true) where
    -- byte j of the name, and of the word
    here : (j : ℕ) → j < max_name → drop j s ≡ get_or ns (at + j) 0 ∷ drop (suc j) s
    here j l = drop-cons s j 0 (omega (arith, name_full ns at (omega arith))) ∙ ap (λ (x : ℕ). x ∷ drop (suc j) s) (name_byte_lem ns at j l)

    letter : (j : ℕ) → j < length w → drop j w ≡ get_or w j 0 ∷ drop (suc j) w
    letter j l = drop-cons w j 0 l

    not_zero : (j : ℕ) → j < length w → eqb (get_or w j 0) 0 ≡ false
    not_zero j l = not-true (eqb (get_or w j 0) 0) (allb-at (λ x. not (eqb x 0)) w 0 full j l)

    -- what is left at byte j: a zero ends the name, another byte begins its rest
    left : (j : ℕ) → j < max_name → before_zero (drop j s) ≡ cond (eqb (get_or ns (at + j) 0) 0) [] (get_or ns (at + j) 0 ∷ before_zero (drop (suc j) s))
    unfolding before_zero
    left j l = ap before_zero (here j l)

    pub rest_more : (j : ℕ) → j < length w → get_or ns (at + j) 0 ≡ get_or w j 0 → Rest j → Rest (j + 1)
    unfolding eql
    rest_more j l e r =
        let x : ℕ = get_or w j 0 in
        r ∙ ap₂ eql (letter j l) (left j (omega arith) ∙ ap (λ (y : ℕ). cond (eqb y 0) [] (y ∷ before_zero (drop (suc j) s))) e ∙ ap (λ (b : Bool). cond b [] (x ∷ before_zero (drop (suc j) s))) (not_zero j l))
        ∙ ap (λ (b : Bool). b && eql (drop (suc j) w) (before_zero (drop (suc j) s))) (eq-eqb x x refl)
        ∙ ap (λ (k : ℕ). eql (drop k w) (before_zero (drop k s))) (sym (add-one j))

    -- another byte than the word's
    pub rest-fails : (j : ℕ) → j < length w → (get_or ns (at + j) 0 ≡ get_or w j 0 → ⊥) → Rest j → false ≡ eql w (name_from ns at)
    unfolding eql
    rest-fails j l ne r =
        let x : ℕ = get_or w j 0 in
        let y : ℕ = get_or ns (at + j) 0 in
        let t : List ℕ = before_zero (drop (suc j) s) in
        sym (r ∙ ap₂ eql (letter j l) (left j (omega arith))
        ∙ bool_cases (λ b. eqb y 0 ≡ b → eql (x ∷ drop (suc j) w) (cond b [] (y ∷ t)) ≡ false) (eqb y 0) (λ _ _. refl) (λ _ _. ap (λ (b : Bool). b && eql (drop (suc j) w) t) (ne_eqb x y (λ e. ne (sym e)))) refl)

    -- the word is over, and so must the name be
    pub rest-ends : (j : ℕ) → j ≡ length w → Rest j → (eqb j max_name || eqb (get_or ns (at + j) 0) 0) ≡ eql w (name_from ns at)
    unfolding eql before_zero
    rest-ends j e r = sym (r ∙ ap (λ (u : List ℕ). eql u (before_zero (drop j s))) (drop_of_length-le w {i = j} (omega arith)) ∙ bool_cases (λ b. eqb j max_name ≡ b → eql [] (before_zero (drop j s)) ≡ (b || eqb y 0)) (eqb j max_name)
        (λ _ q. ap (λ (u : List ℕ). eql [] (before_zero u)) (drop_of_length-le s {i = j} (omega (arith, eqb-true j max_name q, name_full ns at (omega arith)))))
        (λ _ q. let ne : j ≡ max_name → ⊥ = eqb-false j max_name q in ap (eql []) (left j (omega arith)) ∙ bool_cases (λ b. eql [] (cond b [] (y ∷ before_zero (drop (suc j) s))) ≡ b) (eqb y 0) (λ _. refl) (λ _. refl)) refl)
      where
        y : ℕ
        y = get_or ns (at + j) 0

-- ---- the lowest number that has a property, from the last on
module _ (p : ℕ → Bool) (n : ℕ) where
  -- one number lower
  pub found-more : (k : ℕ) {found : ℕ} {b : Bool} → k < n → b ≡ p k → found ≡ next_from p (suc k) n → cond b k found ≡ next_from p k n
  found-more k l e f = ap₂ (λ (b : Bool) (r : ℕ). cond b k r) e f ∙ sym (next-step p n k l)

  -- all of them: found, or there is none
  pub found_there : {found : ℕ} → found ≡ least p n → found < n → Option.some found ≡ least_of p n
  found_there {found} e l = sym (least_of_lem p n e ∙ ap (λ (b : Bool). cond b (Option.some found) Option.none) (lt-ltb found n l))

  pub found_none : {found : ℕ} → found ≡ least p n → n ≤ found → Option.none ≡ least_of p n
  found_none {found} e l = sym (least_of_lem p n e ∙ ap (λ (b : Bool). cond b (Option.some found) Option.none) (le-ltb found n l))
