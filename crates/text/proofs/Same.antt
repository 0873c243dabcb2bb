-- Two texts compared byte by byte, without early exit; a padded name in two parts, its bytes and the zeros after them.
use Prim.Native.Nat.{ℕ, zero, suc, ◌+◌, ◌-◌, ◌<◌, ◌≤◌}
use mathlib.Core.Path.{◌≡◌, refl, sym, ap, ap₂, ◌∙◌}
use mathlib.Core.List.{List, [], ◌∷◌, map}
use mathlib.Core.Bool.{Bool, true, cond, ◌&&◌, and_comm, and-true}
use native.Mathlib.Nat.{zero-add, add-zero, add-suc, add_assoc}
use native.Mathlib.Numerals.{add-one}
use native.Mathlib.Omega.{arith}
use borrow.Author.Tests.{eq-eqb, eqb-true}
use lib.Dec.{eqb}
use lib.ListN.{length, get_or}
use lib.Seq.{slice, length-slice, ext_get_or}
use Rattle.base.specs.Bounded.{every}
use Rattle.base.specs.Bytes.{eql}
use Rattle.base.proofs.Bools.{and_swap, same_test}
use Rattle.base.proofs.Bounded.{every-at, every-all, every_ext}
use Rattle.base.proofs.Bytes.{eql_true, eql-refl}
use Rattle.std.specs.Prelude.{Some, position, nat_eq}
use Rattle.std.proofs.Common.{Bor}
use Rattle.std.specs.List.{position_from}
use Rattle.std.specs.Cmp.Lexicographic.{pointwise}
use Rattle.std.proofs.lemmas.Iterator.Adapters.{position_from-zero}
use Rattle.text.specs.Pool.{padded, same_at, zero_at, first_from, index_of}
use Rattle.text.proofs.Parts.{slice_at}
use Rattle.text.proofs.Pool.{padded_in, padded_out, padded-length}
use Rattle.model.specs.Limits.{max_name, name_bytes}

-- ---- a loop that goes on to the end: r is the test of all that it has passed
module _ (p : ℕ → Bool) where
  pub every-none : true ≡ every p 0
  unfolding every
  every-none = refl

  pub every-next : (i : ℕ) {r : Bool} → r ≡ every p i → (r && p i) ≡ every p (i + 1)
  unfolding every
  every-next i e = rw (e, add-one i) (and_comm (every p i) (p i))

  pub every-end : (i n : ℕ) {r : Bool} → i ≡ n → r ≡ every p i → r ≡ every p n
  every-end i n q e = e ∙ ap (every p) q

  -- the first m and the n after them
  every_add : (m n : ℕ) → every p (m + n) ≡ (every p m && every (λ i. p (m + i)) n)
  unfolding every
  every_add m zero = rw (add-zero m) (sym (and-true (every p m)))
  every_add m (suc n) = rw (add-suc m n) (ap (λ (b : Bool). p (m + n) && b) (every_add m n) ∙ and_swap (p (m + n)) (every p m) (every (λ i. p (m + i)) n))

-- lists of one length, byte by byte
eql-every : (a b : List ℕ) (n : ℕ) → length a ≡ n → length b ≡ n → eql a b ≡ every (λ i. eqb (get_or b i 0) (get_or a i 0)) n
eql-every a b n la lb = same_test (eql a b) (every p n) (λ e. every-all p n (λ i _. eq-eqb _ _ (ap (λ (l : List ℕ). get_or l i 0) (sym (eql_true a b e))))) (λ e. ap (eql a) (same e) ∙ eql-refl a)
  where
    p : ℕ → Bool
    p i = eqb (get_or b i 0) (get_or a i 0)

    same : every p n ≡ true → b ≡ a
    same e = ext_get_or 0 b a (lb ∙ sym la) (λ i h. eqb-true _ _ (every-at p n e i (omega arith)))

-- the 32 bytes at b of t are the word from f to e of s and then zeros
pub padded-same : (s t : List ℕ) (f e b : ℕ) → e ≤ length s → e - f ≤ max_name → b + name_bytes ≤ length t
    → (every (same_at t b s f) (e - f) && every (zero_at t (b + (e - f))) (name_bytes - (e - f))) ≡ eql (padded (slice f e s)) (slice b (b + name_bytes) t)
padded-same s t f e b k short room =
    let n : ℕ = e - f in
    let w : List ℕ = padded (slice f e s) in
    let v : List ℕ = slice b (b + name_bytes) t in
    let p : ℕ → Bool = λ i. eqb (get_or v i 0) (get_or w i 0) in
    let q : n + (name_bytes - n) ≡ name_bytes = omega arith in
    let l = length-slice f e s k in
    sym
    (eql-every w v name_bytes (padded-length (slice f e s) (omega arith)) (length-slice b (b + name_bytes) t room ∙ omega arith)
    ∙ ap (every p) (sym q)
    ∙ every_add p n (name_bytes - n)
    ∙ ap₂ (λ (x y : Bool). x && y)
    (every_ext p (same_at t b s f) n (λ i h. ap₂ eqb (slice_at t b (b + name_bytes) i (omega arith)) (padded_in s f e k i h)))
    (every_ext (λ i. p (n + i)) (zero_at t (b + n)) (name_bytes - n) (λ i h. ap₂ eqb (slice_at t b (b + name_bytes) (n + i) (omega arith) ∙ ap (λ (j : ℕ). get_or t j 0) (sym (add_assoc b n i))) (padded_out s f e k (n + i) (omega arith)))))

-- ---- what the library's comparison and search say, by the definitions here
pub pointwise_eql : (a b : List ℕ) → pointwise eqb a b ≡ eql a b
unfolding eql
pointwise_eql [] [] = refl
pointwise_eql [] (y ∷ b) = refl
pointwise_eql (x ∷ a) [] = refl
pointwise_eql (x ∷ a) (y ∷ b) = ap (λ (t : Bool). eqb x y && t) (pointwise_eql a b)

pub eql_comm : (a b : List ℕ) → eql a b ≡ eql b a
eql_comm a b = same_test (eql a b) (eql b a) (λ e. rw (eql_true a b e) (eql-refl b)) (λ e. rw (eql_true b a e) (eql-refl a))

position_first : (t : List ℕ → Bool) (p : ℕ → Bool) (ws : List (List ℕ)) (i : ℕ) → ((j : ℕ) → j < length ws → p (i + j) ≡ t (get_or ws j [])) → position_from t i ws ≡ first_from p (length ws) i
unfolding first_from
position_first t p [] i h = refl
position_first t p (w ∷ ws) i h =
    let q : p i ≡ t w = ap p (sym (add-zero i)) ∙ h 0 (omega arith) in
    rw (q, add-one i) (ap (cond (t w) (Some i)) (position_first t p ws (suc i) (λ j l. let e : suc i + j ≡ i + suc j = omega arith in ap p e ∙ h (suc j) (omega arith))))

position_map : {X : Type 0} (f : X → List ℕ) (t : List ℕ → Bool) (xs : List X) (i : ℕ) → position_from (λ x. t (f x)) i xs ≡ position_from t i (map f xs)
position_map f t [] i = refl
position_map f t (x ∷ xs) i = ap (cond (t (f x)) (Some i)) (position_map f t xs (i + 1))

-- the first text that is w
pub position_index : {X : Type 0} (f : X → List ℕ) (xs : List X) (w : List ℕ) → position (λ x. pointwise eqb (f x) w) xs ≡ index_of (map f xs) w
unfolding index_of
position_index f xs w =
    position_from-zero (λ x. pointwise eqb (f x) w) xs
    ∙ position_map f (λ v. pointwise eqb v w) xs 0
    ∙ position_first (λ v. pointwise eqb v w) (λ k. eql w (get_or (map f xs) k [])) (map f xs) 0 (λ j l. ap (λ (k : ℕ). eql w (get_or (map f xs) k [])) (zero-add j) ∙ eql_comm w (get_or (map f xs) j []) ∙ sym (pointwise_eql (get_or (map f xs) j []) w))

pub word_place : (ws : List (Bor (List ℕ))) (w : List ℕ) → position (λ v. pointwise nat_eq v.now w) ws ≡ index_of (map (λ v. v.now) ws) w
word_place ws w = position_index (λ (v : Bor (List ℕ)). v.now) ws w
