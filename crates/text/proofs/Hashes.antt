-- The hash of a name, and the search along the chain of its key.
use Prim.Native.Nat.{ℕ, zero, suc, ◌+◌, ◌-◌, ◌*◌, ◌%◌, ◌<◌, ◌≤◌}
use mathlib.Core.Path.{◌≡◌, refl, sym, ap, ◌∙◌}
use mathlib.Core.List.{List, [], ◌∷◌, ◌++◌, append-nil, append_assoc}
use mathlib.Core.Bool.{Bool, true, false, cond}
use native.Mathlib.Nat.{mod-lt, add-zero, zero-add}
use native.Mathlib.Omega.{arith}
use lib.Dec.{eqb}
use lib.ListN.{length, get_or, replicate}
use borrow.Author.Tests.{eqb-false}
use Rattle.base.specs.Bytes.{eql}
use Rattle.base.proofs.Bytes.{eql_true}
use Rattle.chains.specs.Chains.{last_with, Chained}
use Rattle.chains.proofs.Chains.{last_le, last-key}
use Rattle.text.specs.Pool.{padded, hash_of, name_key, first_from, place, find}
use Rattle.model.specs.Limits.{name_bytes}
use Rattle.std.specs.Prelude.{Option, Some, None}

-- ---- the hash
-- h is the hash of what the walk from the end of w has passed, where rest is left
pub record Passed (w rest : List ℕ) (h : ℕ) : Type 0 where
  pub past : List ℕ
  pub all : rest ++ past ≡ w
  pub is : h ≡ hash_of past
  pub below : h < 65536

pub hash_begins : {w rest : List ℕ} → rest ≡ w → Passed w rest 0
unfolding hash_of
hash_begins {w} {rest} e = record { past = []; all = append-nil rest ∙ e; is = refl; below = omega arith }

pub hash_more : {w rest before : List ℕ} {h : ℕ} (b : ℕ) → Passed w rest h → rest ≡ before ++ (b ∷ []) → Passed w before ((b + 131 * h) % 65536)
unfolding hash_of
hash_more {w} {rest} {before} {h} b p e =
    record {
      past = b ∷ p.past;
      all = sym (append_assoc before (b ∷ []) p.past) ∙ ap (λ (r : List ℕ). r ++ p.past) (sym e) ∙ p.all;
      is = ap (λ (n : ℕ). (b + 131 * n) % 65536) p.is;
      below = mod-lt (b + 131 * h) (omega arith);
    }

pub hash_done : {w : List ℕ} (rest : List ℕ) {h : ℕ} → Passed w rest h → length rest ≡ 0 → h ≡ hash_of w
hash_done [] p e = p.is ∙ ap hash_of p.all
hash_done (b ∷ rest) p e = absurd (omega arith)

hash_zeros : (n : ℕ) → hash_of (replicate n 0) ≡ 0
unfolding hash_of
hash_zeros zero = refl
hash_zeros (suc n) = rw (hash_zeros n)

hash_append : (n : ℕ) (w : List ℕ) → hash_of (w ++ replicate n 0) ≡ hash_of w
unfolding hash_of
hash_append n [] = hash_zeros n
hash_append n (x ∷ w) = rw (hash_append n w)

pub hash_padded : (w : List ℕ) → hash_of (padded w) ≡ hash_of w
unfolding padded
hash_padded w = hash_append (name_bytes - length w) w

-- ---- the first match, from the last item on downward
-- what was found, or f where that is nothing
abbrev pub or_else : Option ℕ → Option ℕ → Option ℕ
or_else (Some k) f = Some k
or_else None f = f

else_else : (a : Option ℕ) (b : Bool) (k : ℕ) (f : Option ℕ) → or_else (or_else a (cond b (Some k) None)) f ≡ or_else a (cond b (Some k) f)
else_else (Some j) b k f = refl
else_else None true k f = refl
else_else None false k f = refl

else_nothing : (a : Option ℕ) → or_else a None ≡ a
else_nothing (Some k) = refl
else_nothing None = refl

module _ (p : ℕ → Bool) where
  first_snoc : (n k : ℕ) → first_from p (suc n) k ≡ or_else (first_from p n k) (cond (p (k + n)) (Some (k + n)) None)
  unfolding first_from
  first_snoc zero k = rw (add-zero k)
  first_snoc (suc n) k = go (p k) (first_snoc n (suc k))
    where
      go : (b : Bool) → first_from p (suc n) (suc k) ≡ or_else (first_from p n (suc k)) (cond (p (suc k + n)) (Some (suc k + n)) None)
          → cond b (Some k) (first_from p (suc n) (suc k)) ≡ or_else (cond b (Some k) (first_from p n (suc k))) (cond (p (k + suc n)) (Some (k + suc n)) None)
      go true e = refl
      go false e = let q : suc k + n ≡ k + suc n = omega arith in e ∙ ap (λ (j : ℕ). or_else (first_from p n (suc k)) (cond (p j) (Some j) None)) q

  first_more : (n : ℕ) → first_from p (suc n) 0 ≡ or_else (first_from p n 0) (cond (p n) (Some n) None)
  first_more n = first_snoc n 0 ∙ ap (λ (j : ℕ). or_else (first_from p n 0) (cond (p j) (Some j) None)) (zero-add n)

  -- of items that match only with key h, those up to the last with that key
  module _ (key : ℕ → ℕ) (h : ℕ) (w : (i : ℕ) → p i ≡ true → key i ≡ h) where
    first-last : (n : ℕ) → first_from p n 0 ≡ first_from p (last_with key h n) 0
    unfolding last_with
    first-last zero = refl
    first-last (suc n) = go (eqb (key n) h) refl (p n) refl (first-last n)
      where
        go : (b : Bool) → eqb (key n) h ≡ b → (c : Bool) → p n ≡ c → first_from p n 0 ≡ first_from p (last_with key h n) 0 → first_from p (suc n) 0 ≡ first_from p (cond b (suc n) (last_with key h n)) 0
        go true e c f below = refl
        go false e true f below = absurd (eqb-false (key n) h e (w n f))
        go false e false f below = first_more n ∙ ap (λ (x : Bool). or_else (first_from p n 0) (cond x (Some n) None)) f ∙ else_nothing (first_from p n 0) ∙ below

-- ---- a walk along the chain of a name
module _ (names : List ℕ) (base count slots : ℕ) (w : List ℕ) where
  -- from e on, the number and one of an item, after what was found
  pub record Walk (e : ℕ) (found : Option ℕ) : Type 0 where
    pub rest : find names base count w ≡ or_else (first_from (λ i. eql (padded w) (place names base i)) e 0) found
    pub within : e ≤ count
    pub own : (i : ℕ) → e ≡ suc i → name_key names base slots i ≡ hash_of w % slots

  same_key : (i : ℕ) → eql (padded w) (place names base i) ≡ true → name_key names base slots i ≡ hash_of w % slots
  same_key i e = ap (λ (x : ℕ). x % slots) (ap hash_of (sym (eql_true (padded w) (place names base i) e)) ∙ hash_padded w)

  module _ {heads nexts : ℕ} {index : List ℕ} (c : Chained (name_key names base slots) count slots heads nexts index) where
    pub walk_begins : (e : ℕ) → 0 < slots → e ≡ get_or index (heads + hash_of w % slots) 0 → Walk e None
    unfolding find
    walk_begins e s q =
        let key = name_key names base slots in
        let h = hash_of w % slots in
        let p : ℕ → Bool = λ i. eql (padded w) (place names base i) in
        let l : e ≡ last_with key h count = q ∙ c.begins h (mod-lt (hash_of w) s) in
        record {
          rest = first-last p key h same_key count ∙ ap (λ (n : ℕ). first_from p n 0) (sym l) ∙ sym (else_nothing (first_from p e 0));
          within = omega (arith, last_le key h count);
          own = λ i z. last-key key h count i (sym l ∙ z);
        }

    -- past item i
    pub walk_more : (e i next : ℕ) (found : Option ℕ) → e ≡ suc i → Walk e found → next ≡ get_or index (nexts + i) 0 → (next ≤ i) × Walk next (cond (eql (padded w) (place names base i)) (Some i) found)
    walk_more e i next found z r q =
        let key = name_key names base slots in
        let h = hash_of w % slots in
        let p : ℕ → Bool = λ i. eql (padded w) (place names base i) in
        let n = r.within in
        let l : next ≡ last_with key h i = q ∙ c.follows i (omega arith) ∙ ap (λ (k : ℕ). last_with key k i) (r.own i z) in
        let b = last_le key h i in (
          omega arith,
          record {
            rest = r.rest ∙ ap (λ (n : ℕ). or_else (first_from p n 0) found) z ∙ ap (λ (f : Option ℕ). or_else f found) (first_more p i) ∙ else_else (first_from p i 0) (p i) i found ∙ ap (λ (f : Option ℕ). or_else f (cond (p i) (Some i) found)) (first-last p key h same_key i ∙ ap (λ (n : ℕ). first_from p n 0) (sym l));
            within = omega arith;
            own = λ j y. last-key key h i j (sym l ∙ y);
          },
        )

  pub walk_ends : (e : ℕ) (found : Option ℕ) → e ≡ 0 → Walk e found → find names base count w ≡ found
  unfolding first_from
  walk_ends e found z r = r.rest ∙ ap (λ (n : ℕ). or_else (first_from (λ i. eql (padded w) (place names base i)) n 0) found) z
